-- The pairs of a map, and the integer of an integer key.
use Rattle.std.proofs.Common.{◌≡◌, ℕ, ℤ, suc, ◌+◌, ◌<◌, List, [], ◌∷◌, length, drop, get_or, Bool, true, false, Option, Some, None, Ok, refl, sym, ap, ◌∙◌, subst, arith}
use Rattle.std.specs.Prelude.{if◌then◌else◌, unwrap_or, IfSome}
use Rattle.ca_value.specs.Tree.{Tree, int, map as mapping, pairs_of}
use Rattle.ca_value.specs.View.{view, pair_view, pair_views, map_pairs}
use Rattle.ca_value.specs.Outcome.{judged}
use Rattle.ca_value.specs.Equality.{equals}
use Rattle.ca_value.specs.Maps.{value_at}
use Rattle.ca_value.specs.Builtins.{builtin_result}
use Rattle.ca_value.specs.declared.builtin.Builtin.TheVariants.{Get}
use Rattle.ca_value.specs.declared.value.Map.{Map as Table}
use Rattle.ca_value.specs.declared.value.Pair.{Pair}
use Rattle.ca_value.specs.declared.value.Value.{Value}
use Rattle.ca_value.specs.declared.value.Value.TheVariants.{Nil, Bool as Truth, Int, Text, Key, Vector, Map, Port}
use Rattle.ca_value.proofs.Lists.{entries_of_pairs_of}
use Rattle.ca_term.specs.declared.place.Place.{Place}
use Rattle.ca_states.specs.Machine.{slot_answered, builtin_applied, done, read, reads, slots_from, taken_all, slot_written}
use Rattle.ca_states.proofs.RowLaws.{drop_item}

-- another kind of value is not equal to an integer
pub not_equal : (n : ℤ) (v : Value) → ((z : ℤ) → v ≡ Int z → ⊥) → equals (int n) (view v) ≡ false
not_equal n Nil h = refl
not_equal n (Truth b) h = refl
not_equal n (Int z) h = absurd (h z refl)
not_equal n (Text s) h = refl
not_equal n (Key s) h = refl
not_equal n (Vector s) h = refl
not_equal n (Map s) h = refl
not_equal n (Port p) h = refl

step : (ps : List (Tree × Tree)) (k : Tree) (p : Tree × Tree) (b : Bool) → equals k p.0 ≡ b → value_at (p ∷ ps) k ≡ (if b then Some p.1 else value_at ps k)
step ps k p b e = ap (λ c. if c then Some p.1 else value_at ps k) e

-- a key is found at the next pair, or after it
pub found_here : (xs : List Pair) (i : ℕ) (x : Pair) (k v : Tree) → i < length xs → x ≡ get_or xs i x → equals k (view x.key) ≡ true → view x.value ≡ v → value_at (pair_views (drop i xs)) k ≡ Some v
found_here xs i x k v lt e h ev =
    ap (λ ys. value_at (pair_views ys) k) (drop_item xs i x lt e) ∙ step (pair_views (drop (i + 1) xs)) k (pair_view x) true h ∙ ap (λ t. Some t) ev

pub not_here : (xs : List Pair) (i : ℕ) (x : Pair) (k : Tree) → i < length xs → x ≡ get_or xs i x → equals k (view x.key) ≡ false → value_at (pair_views (drop (i + 1) xs)) k ≡ value_at (pair_views (drop i xs)) k
not_here xs i x k lt e h =
    sym (ap (λ ys. value_at (pair_views ys) k) (drop_item xs i x lt e) ∙ step (pair_views (drop (i + 1) xs)) k (pair_view x) false h)

-- `get` of a map under a key that holds an integer
pub get_integer : (ps : List (Tree × Tree)) (k : Tree) (n : ℤ) → value_at ps k ≡ Some (int n) → (d : Tree) → builtin_applied Get (mapping (pairs_of ps) ∷ k ∷ d ∷ []) ≡ Ok (int n)
unfolding builtin_result
get_integer ps k n e d =
    ap (λ qs. judged (Ok (unwrap_or (value_at qs k) d))) (entries_of_pairs_of ps)
    ∙ ap (λ o. judged (Ok (unwrap_or o d))) e

pub get_found : (c : Value) (m : Table) (ps : List Pair) (k : ℤ) (o : Option ℤ) → c ≡ Map m → pair_views ps ≡ map_pairs m → IfSome o (λ n. value_at (pair_views ps) (int k) ≡ Some (int n))
    → IfSome o (λ n. (d : Tree) → builtin_applied Get (view c ∷ int k ∷ d ∷ []) ≡ Ok (int n))
get_found c m ps k None ec ep h = tt
get_found c m ps k (Some n) ec ep h = λ d.
    let e : value_at (map_pairs m) (int k) ≡ Some (int n) = subst (λ qs. value_at qs (int k) ≡ Some (int n)) ep h in
    subst (λ v. builtin_applied Get (view v ∷ int k ∷ d ∷ []) ≡ Ok (int n)) (sym ec) (get_integer (map_pairs m) (int k) n e d)

-- `get` of a row of three
pub get_row : (s t u : List Tree) (a n to : ℕ) (k z : ℤ) (p : Place) → n ≡ 3 → read s (a + 1) ≡ int k → ((d : Tree) → builtin_applied Get (read s a ∷ int k ∷ d ∷ []) ≡ Ok (int z))
    → t ≡ taken_all s (slots_from a n) → u ≡ slot_written t to (int z) → slot_answered (taken_all s (slots_from a n)) to p (builtin_applied Get (reads s (slots_from a n))) ≡ done u
get_row s t u a n to k z p en ek h et eu =
    let next : suc a ≡ a + 1 = omega arith in
    let got : builtin_applied Get (reads s (slots_from a 3)) ≡ Ok (int z) = ap (λ x. builtin_applied Get (read s a ∷ x ∷ read s (suc (suc a)) ∷ [])) (ap (read s) next ∙ ek) ∙ h (read s (suc (suc a))) in
    let all : builtin_applied Get (reads s (slots_from a n)) ≡ Ok (int z) = ap (λ m. builtin_applied Get (reads s (slots_from a m))) en ∙ got in
    ap (slot_answered (taken_all s (slots_from a n)) to p) all ∙ ap done (ap (λ r. slot_written r to (int z)) (sym et) ∙ sym eu)
