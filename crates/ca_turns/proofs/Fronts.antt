-- The slots that are out with a hand: how one of them comes first, in a step that changes nothing else, and what is left once it is home.
use Rattle.std.proofs.Common.{◌≡◌, ◌≢◌, ◌⊎◌, inl, inr, ℕ, zero, suc, ◌+◌, ◌-◌, ◌<◌, List, [], ◌∷◌, length, get_or, set, sym, refl, ap, ap₂, ◌∙◌, subst, arith, Bool, true, false, nat_eq, eq-eqb, ne_eqb, get_or-set_same, get_or-set_other}
use mathlib.Core.Option.{none, some, some-injective, some-ne-none}
use mathlib.Core.Option as maybe
use native.Mathlib.Decide.{ℕ_discrete}
use lib.ListN.{get_elem?}
use Rattle.std.specs.Prelude.{Option, Some, None, if◌then◌else◌}
use Rattle.atomic_table.specs.Table.{Me, Act, keeps, takes, gives, chain, rest, carried_after, homes_after, Valid, step, Allows}
use Rattle.atomic_table.proofs.Lists.{set_here, set_else, set_again}
use Rattle.ca_turns.specs.declared.rule.View.{View}
use Rattle.ca_turns.specs.Places.{AllIn, IsDistinct, without_first_pair}
use Rattle.ca_turns.specs.Views.{hands_stood_for}
use Rattle.ca_turns.specs.OneHistory.{OneHistory, IsPartFree, IsPartHeld}
use Rattle.ca_turns.specs.Steps.{fronted}
use Rattle.ca_turns.specs.Hands.{there, places, one_where, times, Emptied, IsOut}
use Rattle.ca_turns.proofs.Lists.{in_range, read_at, none_some}

pub front : {A : Type 0} (l m : List (ℕ × A)) (a : ℕ × A) → l ≡ a ∷ m → l ≡ a ∷ rest l
front l m a e = e ∙ ap (λ z. a ∷ z) (sym (ap rest e))

all_both : (K L : ℕ → Type 0) (is : List ℕ) → ((j : ℕ) → K j → L j) → AllIn K is → AllIn L is
all_both K L [] f all = tt
all_both K L (i ∷ is) f all = (f i all.0, all_both K L is f all.1)

all_and : (K L : ℕ → Type 0) (is : List ℕ) → AllIn K is → AllIn L is → AllIn (λ j. K j × L j) is
all_and K L [] all all' = tt
all_and K L (i ∷ is) all all' = ((all.0, all'.0), all_and K L is all.1 all'.1)

all_at : (K : ℕ → Type 0) (i : ℕ) (is : List ℕ) → AllIn K is → 0 < times i is → K i
all_at K i [] all h = absurd (omega arith)
all_at K i (j ∷ js) all h = elim (ℕ_discrete i j) [ yes e ↦ subst K (sym e) all.0 | no ne ↦ all_at K i js all.1 (let z : one_where (nat_eq i j) ≡ 0 = ap one_where (ne_eqb i j ne) in omega arith) ]

module _ {A : Type 0} where
  without_here : (x : ℕ × A) (xs : List (ℕ × A)) (i : ℕ) → x.0 ≡ i → without_first_pair i (x ∷ xs) ≡ xs
  without_here x xs i e = ap (λ (b : Bool). if b then xs else x ∷ without_first_pair i xs) (eq-eqb x.0 i e)

  without_else : (x : ℕ × A) (xs : List (ℕ × A)) (i : ℕ) → x.0 ≢ i → without_first_pair i (x ∷ xs) ≡ x ∷ without_first_pair i xs
  without_else x xs i ne = ap (λ (b : Bool). if b then xs else x ∷ without_first_pair i xs) (ne_eqb x.0 i ne)

  all_without : (K : ℕ → Type 0) (i : ℕ) (xs : List (ℕ × A)) → AllIn K (places xs) → AllIn K (places (without_first_pair i xs))
  all_without K i [] all = tt
  all_without K i (x ∷ xs) all = elim (ℕ_discrete x.0 i) [
    | yes e ↦ subst (λ (l : List (ℕ × A)). AllIn K (places l)) (sym (without_here x xs i e)) all.1
    | no ne ↦ subst (λ (l : List (ℕ × A)). AllIn K (places l)) (sym (without_else x xs i ne)) (all.0, all_without K i xs all.1)
  ]

  once_without : (i : ℕ) (xs : List (ℕ × A)) → IsDistinct (places xs) → IsDistinct (places (without_first_pair i xs))
  once_without i [] once = tt
  once_without i (x ∷ xs) once = elim (ℕ_discrete x.0 i) [
    | yes e ↦ subst (λ (l : List (ℕ × A)). IsDistinct (places l)) (sym (without_here x xs i e)) once.1
    | no ne ↦ subst (λ (l : List (ℕ × A)). IsDistinct (places l)) (sym (without_else x xs i ne)) (all_without (λ j. x.0 ≢ j) i xs once.0, once_without i xs once.1)
  ]

  none_left : (i : ℕ) (xs : List (ℕ × A)) → IsDistinct (places xs) → AllIn (λ j. i ≢ j) (places (without_first_pair i xs))
  none_left i [] once = tt
  none_left i (x ∷ xs) once = elim (ℕ_discrete x.0 i) [
    | yes e ↦ subst (λ (l : List (ℕ × A)). AllIn (λ j. i ≢ j) (places l)) (sym (without_here x xs i e)) (subst (λ (k : ℕ). AllIn (λ j. k ≢ j) (places xs)) e once.0)
    | no ne ↦ subst (λ (l : List (ℕ × A)). AllIn (λ j. i ≢ j) (places l)) (sym (without_else x xs i ne)) ((λ e. ne (sym e)), none_left i xs once.1)
  ]

  times_without : (j i : ℕ) (xs : List (ℕ × A)) → j ≢ i → times j (places (without_first_pair i xs)) ≡ times j (places xs)
  times_without j i [] ne = refl
  times_without j i (x ∷ xs) ne = elim (ℕ_discrete x.0 i) [
    | yes e ↦ ap (λ l. times j (places l)) (without_here x xs i e) ∙ (let z : one_where (nat_eq j x.0) ≡ 0 = ap one_where (ne_eqb j x.0 (λ q. ne (q ∙ e))) in omega arith)
    | no n ↦ ap (λ l. times j (places l)) (without_else x xs i n) ∙ ap (λ m. one_where (nat_eq j x.0) + m) (times_without j i xs ne)
  ]

  at_without : (i : ℕ) (xs : List (ℕ × A)) (k : ℕ) (y : ℕ × A) → get_elem? (without_first_pair i xs) k ≡ some y → (m : ℕ) × (get_elem? xs m ≡ some y)
  at_without i [] k y e = absurd (some-ne-none y (sym e))
  at_without i (x ∷ xs) k y e = elim (ℕ_discrete x.0 i) [
    | yes q ↦ (suc k, sym (ap (λ l. get_elem? l k) (without_here x xs i q)) ∙ e)
    | no q ↦ later (λ m f. at_without i xs m y f) k (sym (ap (λ l. get_elem? l k) (without_else x xs i q)) ∙ e)
  ]
    where
      later : ((m : ℕ) → get_elem? (without_first_pair i xs) m ≡ some y → (n : ℕ) × (get_elem? xs n ≡ some y)) → (k : ℕ) → get_elem? (x ∷ without_first_pair i xs) k ≡ some y → (m : ℕ) × (get_elem? (x ∷ xs) m ≡ some y)
      later found zero e = (zero, e)
      later found (suc k) e = let r = found k e in (suc r.0, r.1)

  set_swap : (l : List A) (i j : ℕ) (a b : A) → i ≢ j → set (set l i a) j b ≡ set (set l j b) i a
  set_swap [] i j a b ne = refl
  set_swap (x ∷ xs) zero zero a b ne = absurd (ne refl)
  set_swap (x ∷ xs) zero (suc j) a b ne = refl
  set_swap (x ∷ xs) (suc i) zero a b ne = refl
  set_swap (x ∷ xs) (suc i) (suc j) a b ne = ap (λ z. x ∷ z) (set_swap xs i j a b (λ e. ne (ap suc e)))

  set_twice : (l : List A) (i : ℕ) (a b : A) → set (set l i a) i b ≡ set l i b
  set_twice [] i a b = refl
  set_twice (x ∷ xs) zero a b = refl
  set_twice (x ∷ xs) (suc i) a b = ap (λ z. x ∷ z) (set_twice xs i a b)

  same_set : (l : List A) (i : ℕ) (d : A) → set l i (get_or l i d) ≡ l
  same_set [] i d = refl
  same_set (x ∷ xs) zero d = refl
  same_set (x ∷ xs) (suc i) d = ap (λ z. x ∷ z) (same_set xs i d)

  empty : (o : Option A) → ((x : A) → o ≡ Some x → ⊥) → o ≡ None
  empty None h = refl
  empty (Some x) h = absurd (h x refl)

module _ {P : Type 0} where
  -- behind one slot that stands first, another comes first
  brought : (hs : List (maybe.Option (Option P))) (x : ℕ × Option P) (xs w : List (ℕ × Option P)) (i : ℕ) (a : Act (Option P)) → x.0 ≢ i → get_elem? hs x.0 ≡ some none → get_elem? (set hs x.0 (some x.1)) i ≡ some none
      → Valid (set hs x.0 (some x.1)) xs a → homes_after (set hs x.0 (some x.1)) xs a ≡ set hs x.0 (some x.1) → carried_after xs a ≡ (i, None) ∷ w
      → (b : Act (Option P)) × Valid hs (x ∷ xs) b × (homes_after hs (x ∷ xs) b ≡ hs) × (carried_after (x ∷ xs) b ≡ (i, None) ∷ (x ∷ w))
  brought hs x xs w i a ne near at_i ok same is = let hs1 = set hs x.0 (some x.1) in let hs2 = set hs1 i (some None) in let last : Act (Option P) = chain gives (chain (takes x.0 x.1) (takes i None)) in
      let ok' : Valid hs1 ((i, None) ∷ w) last = (tt, (set_else hs1 i x.0 (some None) ne ∙ set_here hs x.0 (some x.1) (in_range hs x.0 none near), set_else hs2 x.0 i none (λ e. ne (sym e)) ∙ set_here hs1 i (some None) (in_range hs1 i none at_i))) in (
        chain gives (chain a last),
        (tt, (ok, subst (λ (z : List (maybe.Option (Option P)) × List (ℕ × Option P)). Valid z.0 z.1 last) (λ k. (sym same k, sym is k)) ok')),
        ap₂ (λ h o. homes_after h o last) same is ∙ home,
        ap (λ o. carried_after o last) is,
      )
    where
      home : set (set (set (set hs x.0 (some x.1)) i (some None)) x.0 none) i none ≡ hs
      home = ap (λ l. set (set l x.0 none) i none) (set_swap hs x.0 i (some x.1) (some None) ne) ∙ ap (λ l. set l i none) (set_twice (set hs i (some None)) x.0 (some x.1) none) ∙ set_swap (set hs i (some None)) x.0 i none none ne
          ∙ ap (λ l. set l x.0 none) (set_twice hs i (some None) none ∙ set_again hs i none (sym (set_else hs x.0 i (some x.1) (λ e. ne (sym e))) ∙ at_i)) ∙ set_again hs x.0 none near

  -- each slot that is out comes first by an act that leaves all homes as they are
  to_front : (hs : List (maybe.Option (Option P))) (out : List (ℕ × Option P)) (i : ℕ) → 0 < times i (places out) → IsDistinct (places out) → Emptied out → AllIn (λ j. get_elem? hs j ≡ some none) (places out)
      → (a : Act (Option P)) × Valid hs out a × (homes_after hs out a ≡ hs) × (carried_after out a ≡ (i, None) ∷ without_first_pair i out)
  to_front hs [] i h once nothing away = absurd (omega arith)
  to_front hs (x ∷ xs) i h once nothing away = elim (ℕ_discrete x.0 i) [
    | yes e ↦ (keeps, tt, refl, ap₂ (λ (y : ℕ × Option P) ys. y ∷ ys) (λ k. (e k, empty x.1 (λ y q. nothing 0 x.0 y (ap (λ (o : Option P). some (x.0, o)) q)) k)) (sym (without_here x xs i e)))
    | no ne ↦ let more : 0 < times i (places xs) = (let z : one_where (nat_eq i x.0) ≡ 0 = ap one_where (ne_eqb i x.0 (λ q. ne (sym q))) in omega arith) in
        let away' = all_both (λ j. (x.0 ≢ j) × (get_elem? hs j ≡ some none)) (λ j. get_elem? (set hs x.0 (some x.1)) j ≡ some none) (places xs) (λ j p. set_else hs x.0 j (some x.1) (λ q. p.0 (sym q)) ∙ p.1)
        (all_and (λ j. x.0 ≢ j) (λ j. get_elem? hs j ≡ some none) (places xs) once.0 away.1) in let r = to_front (set hs x.0 (some x.1)) xs i more once.1 (λ k j y e. nothing (suc k) j y e) away' in
        let b = brought hs x xs (without_first_pair i xs) i r.0 ne away.0 (all_at (λ j. get_elem? (set hs x.0 (some x.1)) j ≡ some none) i (places xs) away' more) r.1 r.2 r.3 in (b.0, b.1, b.2, b.3 ∙ ap (λ l. (i, None) ∷ l) (sym (without_else x xs i ne)))
  ]

pub at_there : {A : Type 0} (h : List (Option A)) (i : ℕ) → get_or (there h) i false ≡ true → (x : A) × (get_elem? h i ≡ some (Some x))
at_there [] i e = absurd (let b : one_where false ≡ one_where true = ap one_where e in omega arith)
at_there (None ∷ h) zero e = absurd (let b : one_where false ≡ one_where true = ap one_where e in omega arith)
at_there (Some x ∷ h) zero e = (x, refl)
at_there (y ∷ h) (suc i) e = at_there h i e

module _ {P C E : Type 0} (content : P → C) (touches : E → List ℕ) (moves : E → List C → List C → Type 0) (opening : List C) (hands : ℕ) where
  -- a load in which the slot of the part i comes first
  pub fronts : (n id i : ℕ) (me : Me (Option P) (View C E)) → 0 < times i (places me.1) → IsOut (there me.0.held) me.1 → 0 < hands_stood_for me.0
      → Allows (OneHistory content touches moves opening hands) n id me (i + 1) (λ y. y) (fronted (step n (i + 1) 0 0 none) me)
  fronts n id i me listed out may s r wide at _ =
      let f = to_front s.homes me.1 i listed out.once out.emptied (all_both (λ j. get_or (there me.0.held) j false ≡ true) (λ j. get_elem? s.homes j ≡ some none) (places me.1) away out.here) in let back : i + 1 - 1 ≡ i = omega arith in (
        me.0,
        f.0,
        f.1,
        subst (OneHistory content touches moves opening hands) (λ k. record { words = sym (same_set s.words (i + 1) 0) k; homes = sym f.2 k; views = sym (set_again s.views id me.0 at) k }) r,
        (refl, f.3 ∙ ap (λ (k : ℕ). (k, None) ∷ without_first_pair k me.1) (sym back)),
      )
    where
      out_of : (j : ℕ) (c : C) → get_elem? me.0.held j ≡ some (Some c) → IsPartFree s j ⊎ IsPartHeld s j → get_elem? s.homes j ≡ some none
      out_of j c e (inl f) = absurd (f.1 id c (me.0, at, e))
      out_of j c e (inr h) = h.2

      away : (j : ℕ) → get_or (there me.0.held) j false ≡ true → get_elem? s.homes j ≡ some none
      away j e = let c = at_there me.0.held j e in out_of j c.0 c.1 (r.each_part j (let a : j < length me.0.held = in_range me.0.held j (Some c.0) c.1 in let b = ((r.each_hand id me.0 at).knows may).2 in let d : length opening ≡ length s.homes = r.as_many in omega arith))

true_false : (b : Bool) → b ≡ true → b ≡ false → ⊥
true_false b e f = let h : one_where true ≡ one_where false = ap one_where (sym e ∙ f) in omega arith

module _ {A : Type 0} (bs : List Bool) (out : List (ℕ × Option A)) (at : ℕ) (o : IsOut bs out) where
  -- one slot more
  pub out_more : get_elem? bs at ≡ some false → IsOut (set bs at true) ((at, None) ∷ out)
  out_more free = let other = λ (j : ℕ) (h : get_or bs j false ≡ true) (e : j ≡ at). true_false (get_or bs j false) h (ap (λ k. get_or bs k false) e ∙ read_at bs at false false free) in record {
    emptied = (λ k i x e. emptied_more k i x e);
    listed = λ j e. elim (ℕ_discrete j at) [
      | yes is ↦ let h : one_where (nat_eq j at) ≡ 1 = ap one_where (eq-eqb j at is) in omega arith
      | no ne ↦ let h = o.listed j (sym (get_or-set_other bs at j true false ne) ∙ e) in omega arith
    ];
    once = (all_both (λ j. get_or bs j false ≡ true) (λ j. at ≢ j) (places out) (λ j h e. other j h (sym e)) o.here, o.once);
    here = (
      get_or-set_same bs at true false (in_range bs at false free),
      all_both (λ j. get_or bs j false ≡ true) (λ j. get_or (set bs at true) j false ≡ true) (places out) (λ j h. get_or-set_other bs at j true false (other j h) ∙ h) o.here,
    );
  }
    where
      emptied_more : Emptied ((at, None) ∷ out)
      emptied_more zero i x e = none_some x (ap (λ (z : ℕ × Option A). z.1) (some-injective _ _ e))
      emptied_more (suc k) i x e = o.emptied k i x e

  -- one slot less
  pub out_less : get_elem? bs at ≡ some true → IsOut (set bs at false) (without_first_pair at out)
  out_less held = record {
    emptied = λ k i x e. let m = at_without at out k (i, Some x) e in o.emptied m.0 i x m.1;
    listed = λ j e. elim (ℕ_discrete j at) [
      | yes is ↦ absurd (true_false (get_or (set bs at false) j false) e (ap (λ k. get_or (set bs at false) k false) is ∙ get_or-set_same bs at false false (in_range bs at true held)))
      | no ne ↦ subst (λ (n : ℕ). 0 < n) (sym (times_without j at out ne)) (o.listed j (sym (get_or-set_other bs at j false false ne) ∙ e))
    ];
    once = once_without at out o.once;
    here = all_both (λ j. (at ≢ j) × (get_or bs j false ≡ true)) (λ j. get_or (set bs at false) j false ≡ true) (places (without_first_pair at out)) (λ j p. get_or-set_other bs at j false false (λ e. p.0 (sym e)) ∙ p.1)
        (all_and (λ j. at ≢ j) (λ j. get_or bs j false ≡ true) (places (without_first_pair at out)) (none_left at out o.once) (all_without (λ j. get_or bs j false ≡ true) at out o.here));
  }

-- with a hand that has no part no slot is out
pub none_out : {A : Type 0} (bs : List Bool) (out : List (ℕ × Option A)) → IsOut bs out → ((i : ℕ) → get_or bs i false ≡ true → ⊥) → out ≡ []
none_out bs [] o nothing = refl
none_out bs (x ∷ xs) o nothing = absurd (nothing x.0 o.here.0)
