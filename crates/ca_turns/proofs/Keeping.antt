-- What a hand keeps in memory, when a part comes and goes.
use Rattle.std.proofs.Common.{◌≡◌, ℕ, zero, suc, ◌<◌, ◌≢◌, List, [], ◌∷◌, length, get_or, set, take, replicate, sym, refl, ap, ◌∙◌, subst, arith, Bool, true, false, length-set}
use mathlib.Core.Option.{some, some-injective, some-ne-none}
use lib.ListN.{get_elem?, length-replicate}
use lib.Seq.{map-set}
use Rattle.std.specs.Prelude.{Option, Some, None}
use Rattle.atomic_table.specs.Seated.{TableId}
use Rattle.atomic_table.specs.Table.{Me}
use Rattle.atomic_table.proofs.Lists.{set_here, set_else}
use Rattle.ca_turns.specs.declared.rule.View.{View}
use Rattle.ca_turns.specs.Views.{hands_stood_for, idle, right_view}
use Rattle.ca_turns.specs.Places.{without_first_pair}
use Rattle.ca_turns.specs.Hands.{Held, is_there, there, one_where, IsOut, IsHand, IsPartSettled, IsWithout, SameBut, IsFresh}
use Rattle.ca_turns.proofs.Lists.{in_range, none_some}
use Rattle.ca_turns.proofs.Looks.{there_at}
use Rattle.ca_turns.proofs.Fronts.{at_there, none_out, out_more, out_less}

pub alike_at : {A B : Type 0} (xs : List (Option A)) (ys : List (Option B)) → there xs ≡ there ys → (i : ℕ) (a : Option A) → get_elem? xs i ≡ some a → (b : Option B) × (get_elem? ys i ≡ some b) × (is_there b ≡ is_there a)
alike_at [] ys same i a e = absurd (some-ne-none a (sym e))
alike_at (x ∷ xs) [] same i a e = absurd (let h : length (there (x ∷ xs)) ≡ 0 = ap length same in omega arith)
alike_at (x ∷ xs) (y ∷ ys) same zero a e = (y, refl, sym (ap head' same) ∙ ap is_there (some-injective x a e))
  where
    head' : List Bool → Bool
    head' [] = false
    head' (b ∷ bs) = b
alike_at (x ∷ xs) (y ∷ ys) same (suc i) a e = alike_at xs ys (ap tail' same) i a e
  where
    tail' : List Bool → List Bool
    tail' [] = []
    tail' (b ∷ bs) = bs

pub is_none : {A : Type 0} (a : Option A) → is_there a ≡ false → a ≡ None
is_none None e = refl
is_none (Some x) e = cc

pub free_at : {A B : Type 0} (xs : List (Option A)) (ys : List (Option B)) → there xs ≡ there ys → (i : ℕ) → get_elem? xs i ≡ some None → get_elem? ys i ≡ some None
free_at xs ys same i e = let a = alike_at xs ys same i None e in a.1 ∙ ap some (is_none a.0 a.2)

pub came : {A B : Type 0} (xs : List (Option A)) (ys : List (Option B)) (i : ℕ) (a : A) (b : B) → there xs ≡ there ys → there (set xs i (Some a)) ≡ there (set ys i (Some b))
came xs ys i a b same = map-set is_there xs i (Some a) ∙ ap (λ l. set l i true) same ∙ sym (map-set is_there ys i (Some b))

pub went : {A B : Type 0} (xs : List (Option A)) (ys : List (Option B)) (i : ℕ) → there xs ≡ there ys → there (set xs i None) ≡ there (set ys i None)
went xs ys i same = map-set is_there xs i None ∙ ap (λ l. set l i false) same ∙ sym (map-set is_there ys i None)

-- A part comes
pub arrived : {P C : Type 0} (parts : List (Option P)) (held held' : List (Option C)) (out out' : List (ℕ × Option P)) (at : ℕ) (res : Option P) (x : P) (c : C) → get_elem? parts at ≡ some None
    → there parts ≡ there held → IsOut (there parts) out → res ≡ Some x → held' ≡ set held at (Some c) → out' ≡ (at, None) ∷ out → (there (set parts at res) ≡ there held') × IsOut (there (set parts at res)) out'
arrived {P} parts held held' out out' at res x c free alike o is held_is out_is = let bs = there parts in let set_is : there (set parts at res) ≡ set bs at true = ap (λ r. there (set parts at r)) is ∙ map-set is_there parts at (Some x) in (
  ap (λ r. there (set parts at r)) is ∙ came parts held at x c alike ∙ sym (ap there held_is),
  subst (λ (z : List Bool × List (ℕ × Option P)). IsOut z.0 z.1) (λ k. (sym set_is k, sym out_is k)) (out_more bs out at o (there_at parts at None free)),
)

-- A part goes
pub departed : {P C : Type 0} (parts : List (Option P)) (held : List (Option C)) (out out' : List (ℕ × Option P)) (at : ℕ) (x : P) → get_elem? parts at ≡ some (Some x) → there parts ≡ there held → IsOut (there parts) out → out' ≡ without_first_pair at out
    → (there (set parts at None) ≡ there (set held at None)) × IsOut (there (set parts at None)) out'
departed {P} parts held out out' at x here alike o out_is = let bs = there parts in (
  went parts held at alike,
  subst (λ (z : List Bool × List (ℕ × Option P)). IsOut z.0 z.1) (λ k. (sym (map-set is_there parts at None) k, sym out_is k)) (out_less bs out at o (there_at parts at (Some x) here)),
)

pub same_there : {A : Type 0} (xs : List (Option A)) (i : ℕ) (x w : A) → get_elem? xs i ≡ some (Some x) → there (set xs i (Some w)) ≡ there xs
same_there [] i x w e = refl
same_there (y ∷ xs) zero x w e = ap (λ b. b ∷ there xs) (sym (ap is_there (some-injective y (Some x) e)))
same_there (y ∷ xs) (suc i) x w e = ap (λ l. is_there y ∷ l) (same_there xs i x w e)

pub rewritten : {P C E : Type 0} {id : TableId} {me : Me (Option P) (View C E)} {count : ℕ} (parts : List (Option P)) (i : ℕ) (x w : P) → get_elem? parts i ≡ some (Some x) → IsHand id me parts count → IsHand id me (set parts i (Some w)) count
rewritten {me = me} parts i x w e h = let same = same_there parts i x w e in record {
  live = h.live;
  sized = length-set parts i (Some w) ∙ h.sized;
  alike = same ∙ h.alike;
  out = subst (λ b. IsOut b me.1) (sym same) h.out;
  counted = h.counted;
}

pub is_new : {P C E : Type 0} (id : TableId) (me : Me (Option P) (View C E)) (n : ℕ) → n ≡ id.slots → me.0.held ≡ replicate n None → me.1 ≡ [] → me.0.turns ≡ [] → 0 < hands_stood_for me.0 → IsHand id me (replicate n None) 0
is_new {P} {C} id me n sized held out none_drawn live = record {
  live = live;
  sized = length-replicate n None ∙ sized;
  alike = both n ∙ sym (ap there held);
  out = subst (IsOut (there (replicate {A = Option P} n None))) (sym out) record {
    emptied = λ k i x e. some-ne-none (i, Some x) (sym e);
    listed = λ i e. absurd (let b : one_where (get_or (there (replicate {A = Option P} n None)) i false) ≡ one_where true = ap one_where e in let c : one_where (get_or (there (replicate {A = Option P} n None)) i false) ≡ one_where false = ap one_where (blank n i) in omega arith);
    once = tt;
    here = tt;
  };
  counted = sym (ap length none_drawn);
}
  where
    both : (n : ℕ) → there (replicate {A = Option P} n None) ≡ there (replicate {A = Option C} n None)
    both zero = refl
    both (suc n) = ap (λ z. false ∷ z) (both n)

    blank : (n i : ℕ) → get_or (there (replicate {A = Option P} n None)) i false ≡ false
    blank zero i = refl
    blank (suc n) zero = refl
    blank (suc n) (suc i) = blank n i

some_of : {A : Type 0} (o : Option A) → is_there o ≡ true → (x : A) × (o ≡ Some x)
some_of None e = absurd (let b : one_where false ≡ one_where true = ap one_where e in omega arith)
some_of (Some x) e = (x, refl)

-- nothing is out with a hand that holds nothing
pub holds_nothing : {P C E : Type 0} {id : TableId} {me : Me (Option P) (View C E)} {count : ℕ} (parts : List (Option P)) → ((i : ℕ) (x : P) → get_elem? parts i ≢ some (Some x)) → IsHand id me parts count
    → (me.1 ≡ []) × ((i : ℕ) (c : C) → get_elem? me.0.held i ≡ some (Some c) → ⊥)
holds_nothing {me = me} parts nothing h = (
  none_out (there parts) me.1 h.out (λ i e. let x = at_there parts i e in nothing i x.0 x.1),
  (λ i c e. let b = alike_at me.0.held parts (sym h.alike) i (Some c) e in let s = some_of b.0 b.2 in nothing i s.0 (b.1 ∙ ap some s.1)),
)

-- a place that has no part, of those that a hand has
pub is_free : {A : Type 0} (xs : List (Option A)) (i : ℕ) → i < length xs → ((x : A) → get_elem? xs i ≢ some (Some x)) → get_elem? xs i ≡ some None
is_free [] i h n = absurd (omega arith)
is_free (None ∷ xs) zero h n = refl
is_free (Some y ∷ xs) zero h n = absurd (n y refl)
is_free (x ∷ xs) (suc i) h n = is_free xs i (omega arith) n

-- a hand as its callers see it
abbrev pub seen : {P C E : Type 0} → TableId → View C E → List (Option P) → Held P C E
seen id v parts = record { table = id; view = v; parts = parts }

module _ {P C E : Type 0} {id : TableId} {me : Me (Option P) (View C E)} {count : ℕ} (parts : List (Option P)) (hand : Held P C E) (i : ℕ) (ok : IsHand id me parts count) (is : seen id me.0 parts ≡ hand) where
  -- a part that the hand is without has a free place
  pub free_here : (slots : ℕ) → hand.table.slots ≡ slots → i < slots → IsWithout hand i → get_elem? parts i ≡ some None
  free_here slots same near without = is_free parts i (subst (λ n. i < n) (sym (ok.sized ∙ ap (λ v. v.table.slots) is ∙ same)) near) (subst (λ v. IsWithout v i) (sym is) without)

  pub settled_here : (content : P → C) → IsPartSettled content hand i → (x : P) × (get_elem? parts i ≡ some (Some x)) × (get_elem? me.0.held i ≡ some (Some (content x)))
  settled_here content s = subst (λ v. IsPartSettled content v i) (sym is) s

  pub near_here : (slots : ℕ) (x : P) → hand.table.slots ≡ slots → get_elem? parts i ≡ some (Some x) → i < slots
  near_here slots x same at = subst (λ n. i < n) (ok.sized ∙ ap (λ v. v.table.slots) is ∙ same) (in_range parts i (Some x) at)

  -- another part and its settled content stay
  pub same_but : (id' : TableId) (v : View C E) (a : Option P) (b : Option C) → v.held ≡ set me.0.held i b → SameBut i hand (seen id' v (set parts i a))
  same_but id' v a b e = subst (λ h. SameBut i h (seen id' v (set parts i a))) is (λ k ne. (set_else parts i k a ne, ap (λ l. get_elem? l k) e ∙ set_else me.0.held i k b ne))

-- a part that comes is held, with its content as settled
pub settled_in : {P C : Type 0} (content : P → C) (parts : List (Option P)) (held held' : List (Option C)) (i : ℕ) (x : P) → get_elem? parts i ≡ some None → there parts ≡ there held → held' ≡ set held i (Some (content x))
    → (y : P) × (get_elem? (set parts i (Some x)) i ≡ some (Some y)) × (get_elem? held' i ≡ some (Some (content y)))
settled_in content parts held held' i x free alike e = (
  x,
  set_here parts i (Some x) (in_range parts i None free),
  ap (λ l. get_elem? l i) e ∙ set_here held i (Some (content x)) (in_range held i None (free_at parts held alike i free)),
)

-- a part that went is not held
pub gone : {A : Type 0} (xs : List (Option A)) (i : ℕ) (x : A) → get_elem? (set xs i None) i ≢ some (Some x)
gone [] i x e = some-ne-none (Some x) (sym e)
gone (y ∷ xs) zero x e = none_some x (some-injective None (Some x) e)
gone (y ∷ xs) (suc i) x e = gone xs i x e

-- a hand that stands for one hand, holds no part and drew nothing is fresh
pub is_fresh : {P C E : Type 0} (id : TableId) (cs : List C) (hands : ℕ) (names : List ℕ) (h : Held P C E) → h.table ≡ id → h.view ≡ idle cs hands names → length names ≡ 1 → h.parts ≡ replicate (length cs) None → IsFresh id cs hands h
is_fresh id cs hands names h table view one parts = record {
  table = table;
  parts = parts;
  opening = ap (λ v. v.opening) view;
  opened_for = ap (λ v. v.hands) view;
  held = ap (λ v. v.held) view;
  turns = ap (λ v. v.turns) view;
  stands_for_one = ap (λ v. length v.stands_for) view ∙ one;
}

-- what a hand that is split off from an idle one knows
pub split_idle : {C E : Type 0} (cs : List C) (hands : ℕ) (names : List ℕ) → right_view {E = E} (idle cs hands names) ≡ idle cs hands (take 1 names)
split_idle {C} {E} cs hands names = ap (λ (l : List (Option C)). view_of l) (ap (λ n. replicate n None) (length-replicate (length cs) None))
  where
    view_of : List (Option C) → View C E
    view_of l = record { opening = cs; hands = hands; held = l; turns = []; stands_for = take 1 names; missed = [] }
