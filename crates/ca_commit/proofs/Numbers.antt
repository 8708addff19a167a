-- Numbers that workers give: worker w of n gives 1 + w + n * i for i = 0, 1, 2, ..
use Rattle.std.proofs.Common.{◌≡◌, ◌⊎◌, inl, inr, ⊎_elim, ℕ, suc, ◌+◌, ◌*◌, ◌<◌, ◌≤◌, List, ◌∷◌, refl, sym, ap, ◌∙◌, subst, arith, Bool, true, false, cond, Option, Some, None, eqb, eqb-true, mul-le-mul_left, mul-suc}
use Rattle.std.specs.Map.{update}
use Rattle.std.proofs.lemmas.Map.{update_here}
use mathlib.Core.Logic.{dite}
use native.Mathlib.Decide.{ℕ_discrete, dec_le}
use native.Mathlib.Nat.{lt_of_not-le}
use Rattle.ca_meaning.specs.Wait.{is_among}
use Rattle.ca_meaning.specs.State.{State}
use Rattle.ca_commit.specs.Contents.{Counts, LaneView}
use Rattle.ca_commit.specs.Stands.{GivenByWorker, NumbersGiven, numbers_given, port_count, task_count, wait_count}

further : (many i j : ℕ) → i < j → many * i + many ≤ many * j
further many i j lt = let a : many * suc i ≤ many * j = mul-le-mul_left many lt in let e : many * suc i ≡ many * i + many = mul-suc many i in omega (arith, a, e)

le_same : (n : ℕ) → n ≤ n
le_same n = omega arith

pub equal_le : (a b : ℕ) → b ≡ a → a ≤ b
equal_le a b e = omega arith

pub one_above : (a b : ℕ) → b ≡ a + 1 → a < b
one_above a b e = omega (arith, e)

pub one_more_le : (a b : ℕ) → b ≡ a + 1 → a ≤ b
one_more_le a b e = omega (arith, e)

module _ {A : Type 0} where
  -- the next number of a worker was given by none
  pub next_is_new : (many : ℕ) (kind : Counts → ℕ) (lane : ℕ → Option (LaneView A)) (w : ℕ) → w < many → GivenByWorker many kind lane (1 + w + many * numbers_given kind (lane w)) → ⊥
  next_is_new many kind lane w lt (v, i, vt, it, e) = dite (dec_le i (counter w))
      (λ le. dite (ℕ_discrete i (counter w))
      (λ same. let x : many * i ≡ many * counter w = ap (λ k. many * k) same in let wv : w ≡ v = omega (arith, e, x) in let k : i < counter w = subst (λ (z : ℕ). i < counter z) (sym wv) it in omega (arith, k, same))
      (λ ne. let less : i < counter w = omega (arith, le, ne) in let f = further many i (counter w) less in omega (arith, e, f, vt, lt)))
      (λ gt. let more : counter w < i = lt_of_not-le gt in let f = further many (counter w) i more in omega (arith, e, f, vt, lt)) where
        counter : ℕ → ℕ
        counter u = numbers_given kind (lane u)

  abbrev pub Grows : (Counts → ℕ) → (ℕ → Option (LaneView A)) → (ℕ → Option (LaneView A)) → Type 0
  Grows kind lane lane2 = (v : ℕ) → numbers_given kind (lane v) ≤ numbers_given kind (lane2 v)

  -- what was given stays given
  given_more : (n : ℕ) (kind : Counts → ℕ) (lane lane2 : ℕ → Option (LaneView A)) (p : ℕ) → Grows kind lane lane2 → GivenByWorker n kind lane p → GivenByWorker n kind lane2 p
  given_more n kind lane lane2 p le (w, i, lt, it, e) = (w, i, lt, (let k = le w in omega (arith, k, it)), e)

  count_more : (kind : Counts → ℕ) (f : ℕ → Option (LaneView A)) (w : ℕ) (l l2 : LaneView A) → f w ≡ Some l → kind l.counts ≤ kind l2.counts → Grows kind f (update eqb f w (Some l2))
  count_more kind f w l l2 at le v = by (eqb w v) refl where
    by : (b : Bool) → eqb w v ≡ b → numbers_given kind (f v) ≤ numbers_given kind (cond b (Some l2) (f v))
    by true e = subst (λ (o : Option (LaneView A)). numbers_given kind o ≤ kind l2.counts) (sym at ∙ ap f (eqb-true w v e)) le
    by false e = le_same (numbers_given kind (f v))

  -- the next number is given by the event that counts it
  pub given_next : (n : ℕ) (kind : Counts → ℕ) (f : ℕ → Option (LaneView A)) (w : ℕ) (l l2 : LaneView A) (p : ℕ) → w < n → p ≡ 1 + w + n * kind l.counts → kind l2.counts ≡ kind l.counts + 1 → GivenByWorker n kind (update eqb f w (Some l2)) p
  given_next n kind f w l l2 p lt next more = (w, kind l.counts, lt, subst (λ (o : Option (LaneView A)). kind l.counts < numbers_given kind o) (sym (update_here f w (Some l2))) (one_above (kind l.counts) (kind l2.counts) more), next)

  -- of all kinds the counts stay or grow
  pub record AllGrow (lane lane2 : ℕ → Option (LaneView A)) : Type 0 where
    pub tasks : Grows task_count lane lane2
    pub ports : Grows port_count lane lane2
    pub waits : Grows wait_count lane lane2

  pub all_grow : (f : ℕ → Option (LaneView A)) (w : ℕ) (l l2 : LaneView A) → f w ≡ Some l → task_count l.counts ≤ task_count l2.counts → port_count l.counts ≤ port_count l2.counts → wait_count l.counts ≤ wait_count l2.counts → AllGrow f (update eqb f w (Some l2))
  all_grow f w l l2 at a b c = record { tasks = count_more task_count f w l l2 at a; ports = count_more port_count f w l l2 at b; waits = count_more wait_count f w l l2 at c }

  pub same_grow : (f : ℕ → Option (LaneView A)) (w : ℕ) (l l2 : LaneView A) → f w ≡ Some l → l2.counts ≡ l.counts → AllGrow f (update eqb f w (Some l2))
  same_grow f w l l2 at e = all_grow f w l l2 at (equal_le (task_count l.counts) (task_count l2.counts) (ap task_count e)) (equal_le (port_count l.counts) (port_count l2.counts) (ap port_count e)) (equal_le (wait_count l.counts) (wait_count l2.counts) (ap wait_count e))

  pub none_grow : (f : ℕ → Option (LaneView A)) → AllGrow f f
  none_grow f = record { tasks = λ v. le_same (numbers_given task_count (f v)); ports = λ v. le_same (numbers_given port_count (f v)); waits = λ v. le_same (numbers_given wait_count (f v)) }

  -- whatever is there was there before, or has a number that was given
  abbrev pub From : {X : Type 0} → ℕ → (Counts → ℕ) → (ℕ → Option (LaneView A)) → (ℕ → Option X) → (ℕ → Option X) → Type 0
  From {X} n kind lane old new = (q : ℕ) (x : X) → new q ≡ Some x → ((y : X) × (old q ≡ Some y)) ⊎ GivenByWorker n kind lane q

  pub from_same : {X : Type 0} (n : ℕ) (kind : Counts → ℕ) (lane : ℕ → Option (LaneView A)) (old : ℕ → Option X) → From n kind lane old old
  from_same n kind lane old q x e = inl (x, e)

  pub from_there : {X : Type 0} (n : ℕ) (kind : Counts → ℕ) (lane : ℕ → Option (LaneView A)) (old : ℕ → Option X) (p : ℕ) (x y : X) → old p ≡ Some x → From n kind lane old (update eqb old p (Some y))
  from_there {X} n kind lane old p x y at q z e = by (eqb p q) refl e where
    by : (b : Bool) → eqb p q ≡ b → cond b (Some y) (old q) ≡ Some z → ((j : X) × (old q ≡ Some j)) ⊎ GivenByWorker n kind lane q
    by true is e = inl (x, ap old (sym (eqb-true p q is)) ∙ at)
    by false is e = inl (z, e)

  pub from_new : {X : Type 0} (n : ℕ) (kind : Counts → ℕ) (lane : ℕ → Option (LaneView A)) (old : ℕ → Option X) (p : ℕ) (o : Option X) → GivenByWorker n kind lane p → From n kind lane old (update eqb old p o)
  from_new {X} n kind lane old p o g q z e = by (eqb p q) refl e where
    by : (b : Bool) → eqb p q ≡ b → cond b o (old q) ≡ Some z → ((j : X) × (old q ≡ Some j)) ⊎ GivenByWorker n kind lane q
    by true is e = inr (subst (GivenByWorker n kind lane) (eqb-true p q is) g)
    by false is e = inl (z, e)

  pub from_both : {X : Type 0} (n : ℕ) (kind : Counts → ℕ) (lane : ℕ → Option (LaneView A)) (a b c : ℕ → Option X) → From n kind lane a b → From n kind lane b c → From n kind lane a c
  from_both n kind lane a b c f g q x e = ⊎_elim (λ y. f q y.0 y.1) (λ y. inr y) (g q x e)

  abbrev pub UsedFrom : ℕ → (ℕ → Option (LaneView A)) → List ℕ → List ℕ → Type 0
  UsedFrom n lane old new = (v : ℕ) → is_among v new ≡ true → (is_among v old ≡ true) ⊎ GivenByWorker n wait_count lane v

  pub used_same : (n : ℕ) (lane : ℕ → Option (LaneView A)) (old : List ℕ) → UsedFrom n lane old old
  used_same n lane old v e = inl e

  pub used_next : (n : ℕ) (lane : ℕ → Option (LaneView A)) (old : List ℕ) (wait : ℕ) → GivenByWorker n wait_count lane wait → UsedFrom n lane old (wait ∷ old)
  used_next n lane old wait g v e = by (eqb v wait) refl e where
    by : (b : Bool) → eqb v wait ≡ b → cond b true (is_among v old) ≡ true → (is_among v old ≡ true) ⊎ GivenByWorker n wait_count lane v
    by true is e = inr (subst (GivenByWorker n wait_count lane) (sym (eqb-true v wait is)) g)
    by false is e = inl e

  -- the numbers of the next state were given
  pub numbered_more : (n : ℕ) (lane lane2 : ℕ → Option (LaneView A)) (s s2 : State) → NumbersGiven n lane s → AllGrow lane lane2
      → From n task_count lane2 s.tasks s2.tasks → From n port_count lane2 s.channels s2.channels → From n port_count lane2 s.registries s2.registries → UsedFrom n lane2 s.used s2.used
      → NumbersGiven n lane2 s2
  numbered_more n lane lane2 s s2 h g ts cs rs us = record {
    tasks = λ t x e. ⊎_elim (λ y. ⊎_elim (λ z. inl z) (λ z. inr (given_more n task_count lane lane2 t g.tasks z)) (h.tasks t y.0 y.1)) (λ z. inr z) (ts t x e);
    ports = λ p c e. ⊎_elim (λ y. given_more n port_count lane lane2 p g.ports (h.ports p y.0 y.1)) (λ z. z) (cs p c e);
    registries = λ p r e. ⊎_elim (λ y. given_more n port_count lane lane2 p g.ports (h.registries p y.0 y.1)) (λ z. z) (rs p r e);
    waits = λ v e. ⊎_elim (λ y. given_more n wait_count lane lane2 v g.waits (h.waits v y)) (λ z. z) (us v e);
  }

  pub not_given : (n : ℕ) (kind : Counts → ℕ) (lane : ℕ → Option (LaneView A)) (w : ℕ) (l : LaneView A) (p : ℕ) → w < n → lane w ≡ Some l → p ≡ 1 + w + n * kind l.counts → GivenByWorker n kind lane p → ⊥
  not_given n kind lane w l p lt at next g = next_is_new n kind lane w lt (subst (GivenByWorker n kind lane) (next ∙ ap (λ (o : Option (LaneView A)). 1 + w + n * numbers_given kind o) (sym at)) g)

pub is_none : {X : Type 0} (o : Option X) → ((x : X) → o ≡ Some x → ⊥) → o ≡ None
is_none None f = refl
is_none (Some x) f = absurd (f x refl)

pub le_both : (a b c : ℕ) → a ≤ b → b ≤ c → a ≤ c
le_both a b c e f = omega (arith, e, f)
