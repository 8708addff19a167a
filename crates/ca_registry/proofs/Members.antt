-- The members of a registry as the entries of a table, in order.
use Rattle.std.proofs.Common.{◌≡◌, ℕ, zero, suc, ◌+◌, List, [], ◌∷◌, ◌++◌, length, map, take, slice_get, Some, None, Bool, true, false, not, cond, eqb, nat_eq, filter, refl, sym, ◌∙◌, ap, arith}
use Rattle.std.specs.Map.{lookup, remove_entry}
use Rattle.std.specs.Prelude.{is_some}
use Rattle.indexmap.specs.IndexMap.{insert_entry}
use Rattle.ca_value.specs.Tree.{Tree}
use Rattle.ca_value.specs.View.{view, views}
use Rattle.ca_value.specs.declared.value.Value.{Value}
use Rattle.ca_meaning.specs.Registry.{TapView, tapped}
use Rattle.ca_registry.specs.Registries.{tap_view}

pub eqb_is : (a b : ℕ) → nat_eq a b ≡ true → a ≡ b
eqb_is a b h = grind arith

-- a tap is an entry of the table
pub tapped_is : (c : ℕ) (b : Bool) (es : List (ℕ × Bool)) → map tap_view (insert_entry nat_eq es c b) ≡ tapped (tap_view (c, b)) (map tap_view es)
tapped_is c b [] = refl
tapped_is c b (e ∷ es) = by (nat_eq c e.0) refl (tapped_is c b es) where
  by : (same : Bool) → nat_eq c e.0 ≡ same → map tap_view (insert_entry nat_eq es c b) ≡ tapped (tap_view (c, b)) (map tap_view es) → map tap_view (cond same ((e.0, b) ∷ es) (e ∷ insert_entry nat_eq es c b)) ≡ cond same (tap_view (c, b) ∷ map tap_view es) (tap_view e ∷ tapped (tap_view (c, b)) (map tap_view es))
  by true h r = ap (λ (k : ℕ). tap_view (k, b) ∷ map tap_view es) (sym (eqb_is c e.0 h))
  by false h r = ap (λ (ts : List TapView). tap_view e ∷ ts) r

-- how many taps there are afterwards
pub tapped_more : (c : ℕ) (b : Bool) (es : List (ℕ × Bool)) → length (tapped (tap_view (c, b)) (map tap_view es)) ≡ length es + cond (is_some (lookup (nat_eq c) es)) 0 1
tapped_more c b [] = refl
tapped_more c b (e ∷ es) = by (nat_eq c e.0) (tapped_more c b es) where
  long : (xs : List (ℕ × Bool)) → length (map tap_view xs) ≡ length xs
  long [] = refl
  long (x ∷ xs) = ap suc (long xs)

  by : (same : Bool) → length (tapped (tap_view (c, b)) (map tap_view es)) ≡ length es + cond (is_some (lookup (nat_eq c) es)) 0 1 → length (cond same (tap_view (c, b) ∷ map tap_view es) (tap_view e ∷ tapped (tap_view (c, b)) (map tap_view es))) ≡ suc (length es) + cond (is_some (cond same (Some e.1) (lookup (nat_eq c) es))) 0 1
  by true r = omega (arith, long es)
  by false r = omega (arith, r)

none_goes : {V X : Type 0} (f : ℕ × V → X) (key : X → ℕ) → ((e : ℕ × V) → key (f e) ≡ e.0) → (c : ℕ) (es : List (ℕ × V)) → lookup (nat_eq c) es ≡ None → map f es ≡ filter (λ x. not (eqb c (key x))) (map f es)
none_goes f key same c [] h = refl
none_goes {V} {X} f key same c (e ∷ es) h = by (nat_eq c e.0) (eqb c (key (f e))) (ap (eqb c) (same e)) h (none_goes f key same c es) where
  by : (b d : Bool) → d ≡ b → cond b (Some e.1) (lookup (nat_eq c) es) ≡ None → (lookup (nat_eq c) es ≡ None → map f es ≡ filter (λ x. not (eqb c (key x))) (map f es)) → f e ∷ map f es ≡ cond (not d) (f e ∷ filter (λ x. not (eqb c (key x))) (map f es)) (filter (λ x. not (eqb c (key x))) (map f es))
  by true d q k r = absurd (let z : Some e.1 ≡ None = k in cc)
  by false true q k r = absurd (let z : true ≡ false = q in cc)
  by false false q k r = ap (λ (xs : List X). f e ∷ xs) (r k)

-- what is left without the member of that number, if it is gone then
pub left_without : {V X : Type 0} (f : ℕ × V → X) (key : X → ℕ) → ((e : ℕ × V) → key (f e) ≡ e.0) → (c : ℕ) (es : List (ℕ × V)) → lookup (nat_eq c) (remove_entry (nat_eq c) es) ≡ None → map f (remove_entry (nat_eq c) es) ≡ filter (λ x. not (eqb c (key x))) (map f es)
left_without f key same c [] h = refl
left_without {V} {X} f key same c (e ∷ es) h = by (nat_eq c e.0) refl (eqb c (key (f e))) (ap (eqb c) (same e)) h (left_without f key same c es) where
  by : (b : Bool) → nat_eq c e.0 ≡ b → (d : Bool) → d ≡ b → lookup (nat_eq c) (cond b es (e ∷ remove_entry (nat_eq c) es)) ≡ None → (lookup (nat_eq c) (remove_entry (nat_eq c) es) ≡ None → map f (remove_entry (nat_eq c) es) ≡ filter (λ x. not (eqb c (key x))) (map f es)) → map f (cond b es (e ∷ remove_entry (nat_eq c) es)) ≡ cond (not d) (f e ∷ filter (λ x. not (eqb c (key x))) (map f es)) (filter (λ x. not (eqb c (key x))) (map f es))
  by true t true q k r = none_goes f key same c es k
  by true t false q k r = absurd (let z : false ≡ true = q in cc)
  by false t true q k r = absurd (let z : true ≡ false = q in cc)
  by false t false q k r =
      let z : lookup (nat_eq c) (remove_entry (nat_eq c) es) ≡ None = ap (λ (b : Bool). cond b (Some e.1) (lookup (nat_eq c) (remove_entry (nat_eq c) es))) (sym t) ∙ k in
      ap (λ (xs : List X). f e ∷ xs) (r z)

pub untapped_is : (c : ℕ) (es : List (ℕ × Bool)) → lookup (nat_eq c) (remove_entry (nat_eq c) es) ≡ None → map tap_view (remove_entry (nat_eq c) es) ≡ filter (λ (t : TapView). not (eqb c t.channel)) (map tap_view es)
untapped_is c es h = left_without tap_view (λ (t : TapView). t.channel) (λ e. refl) c es h

-- the first members and one more
one_after : {X Y Z : Type 0} (f : X → Y) (g : Y → Z) (xs : List X) (i : ℕ) (x : X) → slice_get xs i ≡ Some x → map g (map f (take (suc i) xs)) ≡ map g (map f (take i xs)) ++ g (f x) ∷ []
one_after f g [] i x h = absurd cc
one_after {X} {Y} {Z} f g (y ∷ ys) zero x h = ap (λ (z : X). g (f z) ∷ []) (let e : y ≡ x = cc in e)
one_after {X} {Y} {Z} f g (y ∷ ys) (suc i) x h = ap (λ (zs : List Z). g (f y) ∷ zs) (one_after f g ys i x h)

views_more : (items : List Value) (v : Value) → views (items ++ v ∷ []) ≡ views items ++ view v ∷ []
views_more [] v = refl
views_more (w ∷ ws) v = ap (λ (ts : List Tree). view w ∷ ts) (views_more ws v)

-- the values of the first members, and then that of one more
pub listed_more : {X Y : Type 0} (f : X → Y) (g : Y → Tree) (items more : List Value) (v : Value) (xs : List X) (i : ℕ) (x : X) → more ≡ items ++ v ∷ [] → views items ≡ map g (map f (take i xs)) → slice_get xs i ≡ Some x → view v ≡ g (f x) → views more ≡ map g (map f (take (i + 1) xs))
listed_more {X} {Y} f g items more v xs i x a b h e =
    let n : i + 1 ≡ suc i = omega arith in
    ap views a ∙ views_more items v ∙ ap (λ (ts : List Tree). ts ++ view v ∷ []) b ∙ ap (λ (t : Tree). map g (map f (take i xs)) ++ t ∷ []) e ∙ sym (one_after f g xs i x h) ∙ ap (λ (k : ℕ). map g (map f (take k xs))) (sym n)

-- the same behind a first value
pub listed_behind : {X Y : Type 0} (f : X → Y) (g : Y → Tree) (first : Tree) (items more : List Value) (v : Value) (xs : List X) (i : ℕ) (x : X) → more ≡ items ++ v ∷ [] → views items ≡ first ∷ map g (map f (take i xs)) → slice_get xs i ≡ Some x → view v ≡ g (f x) → views more ≡ first ∷ map g (map f (take (i + 1) xs))
listed_behind {X} {Y} f g first items more v xs i x a b h e =
    let n : i + 1 ≡ suc i = omega arith in
    ap views a ∙ views_more items v ∙ ap (λ (ts : List Tree). ts ++ view v ∷ []) b ∙ ap (λ (t : Tree). first ∷ (map g (map f (take i xs)) ++ t ∷ [])) e ∙ ap (λ (ts : List Tree). first ∷ ts) (sym (one_after f g xs i x h)) ∙ ap (λ (k : ℕ). first ∷ map g (map f (take k xs))) (sym n)
