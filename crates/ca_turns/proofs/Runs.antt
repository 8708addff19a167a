-- Lists written at places, and runs of turns.
use Rattle.std.proofs.Common.{◌≡◌, ℕ, zero, suc, ◌<◌, ◌≢◌, ◌⊎◌, List, [], ◌∷◌, ◌++◌, map, length, set, take, sym, refl, ap, ◌∙◌, subst, inl, inr, ⊎_elim, arith, length-set}
use mathlib.Core.Option.{some, some-injective, some-ne-none}
use native.Mathlib.Decide.{ℕ_discrete}
use lib.ListN.{get_elem?}
use Rattle.std.specs.Prelude.{Option, Some}
use Rattle.atomic_table.proofs.Lists.{at_set, set_here, set_else}
use Rattle.ca_turns.specs.declared.rule.Turn.{Turn}
use Rattle.ca_turns.specs.Places.{write, ReadsPlaces, AllIn, IsDistinct}
use Rattle.ca_turns.specs.History.{Untouched, Replay, TurnGoes, Run}
use Rattle.ca_turns.proofs.Lists.{in_range, both_some}

pub all_in : (K L : ℕ → Type 0) → ((i : ℕ) → K i → L i) → (is : List ℕ) → AllIn K is → AllIn L is
all_in K L f [] a = tt
all_in K L f (i ∷ is) a = (f i a.0, all_in K L f is a.1)

pub in_all : (K : ℕ → Type 0) (is : List ℕ) → AllIn K is → (m p : ℕ) → get_elem? is m ≡ some p → K p
in_all K [] a m p e = absurd (some-ne-none p (sym e))
in_all K (i ∷ is) a zero p e = subst K (some-injective i p e) a.0
in_all K (i ∷ is) a (suc m) p e = in_all K is a.1 m p e

-- no place is named at two indices
pub one_index : (is : List ℕ) → IsDistinct is → (i j p : ℕ) → get_elem? is i ≡ some p → get_elem? is j ≡ some p → i ≡ j
one_index [] d i j p e f = absurd (some-ne-none p (sym e))
one_index (q ∷ is) d zero zero p e f = refl
one_index (q ∷ is) d zero (suc j) p e f = absurd (in_all (λ k. q ≢ k) is d.0 j p f (some-injective q p e))
one_index (q ∷ is) d (suc i) zero p e f = absurd (in_all (λ k. q ≢ k) is d.0 i p e (some-injective q p f))
one_index (q ∷ is) d (suc i) (suc j) p e f = ap suc (one_index is d.1 i j p e f)

module _ {A : Type 0} where
  pub length-write : (l : List A) (is : List ℕ) (cs : List A) → length (write l is cs) ≡ length l
  length-write l [] cs = refl
  length-write l (i ∷ is) [] = refl
  length-write l (i ∷ is) (c ∷ cs) = length-write (set l i c) is cs ∙ length-set l i c

  pub write_else : (l : List A) (is : List ℕ) (cs : List A) (j : ℕ) → AllIn (λ i. j ≢ i) is → get_elem? (write l is cs) j ≡ get_elem? l j
  write_else l [] cs j a = refl
  write_else l (i ∷ is) [] j a = refl
  write_else l (i ∷ is) (c ∷ cs) j a = write_else (set l i c) is cs j a.1 ∙ set_else l i j c a.0

  pub reads_now : (h : List (Option A)) (now : List A) → ((i : ℕ) (c : A) → get_elem? h i ≡ some (Some c) → get_elem? now i ≡ some c) → (is : List ℕ) (cs : List A) → ReadsPlaces h is (map Some cs) → ReadsPlaces now is cs
  reads_now h now tie [] [] r = tt
  reads_now h now tie [] (c ∷ cs) r = r
  reads_now h now tie (i ∷ is) [] r = r
  reads_now h now tie (i ∷ is) (c ∷ cs) r = (tie i c r.0, reads_now h now tie is cs r.1)

  pub reads_all : (K : ℕ → Type 0) (h : List (Option A)) → ((i : ℕ) (c : A) → get_elem? h i ≡ some (Some c) → K i) → (is : List ℕ) (cs : List A) → ReadsPlaces h is (map Some cs) → AllIn K is
  reads_all K h tie [] [] r = tt
  reads_all K h tie [] (c ∷ cs) r = tt
  reads_all K h tie (i ∷ is) [] r = absurd r
  reads_all K h tie (i ∷ is) (c ∷ cs) r = (tie i c r.0, reads_all K h tie is cs r.1)

  pub held_after : (K : ℕ → Type 0) (h : List (Option A)) → ((i : ℕ) (c : A) → get_elem? h i ≡ some (Some c) → K i) → (is : List ℕ) (cs : List A) → AllIn K is → (j : ℕ) (c : A) → get_elem? (write h is (map Some cs)) j ≡ some (Some c) → K j
  held_after K h tie [] cs a j c e = tie j c e
  held_after K h tie (i ∷ is) [] a j c e = tie j c e
  held_after K h tie (i ∷ is) (d ∷ ds) a j c e = held_after K (set h i (Some d)) (λ k b e. ⊎_elim (λ t. subst K (sym t.0) a.0) (λ t. tie k b t.1) (at_set h i k (Some d) (Some b) e)) is ds a.1 j c e

  -- what is held and what is settled are written alike
  pub both_written : (h : List (Option A)) (now : List A) → length h ≡ length now → ((i : ℕ) (c : A) → get_elem? h i ≡ some (Some c) → get_elem? now i ≡ some c) → (is : List ℕ) (cs : List A)
      → (j : ℕ) (c : A) → get_elem? (write h is (map Some cs)) j ≡ some (Some c) → get_elem? (write now is cs) j ≡ some c
  both_written h now wide tie [] cs j c e = tie j c e
  both_written h now wide tie (i ∷ is) [] j c e = tie j c e
  both_written h now wide tie (i ∷ is) (d ∷ ds) j c e = both_written (set h i (Some d)) (set now i d) (length-set h i (Some d) ∙ wide ∙ sym (length-set now i d))
      (λ k b e. let inside : k < length (set h i (Some d)) = in_range (set h i (Some d)) k (Some b) e in let w : length (set h i (Some d)) ≡ length now = length-set h i (Some d) ∙ wide in
      ⊎_elim (λ t. subst (λ (m : ℕ). get_elem? (set now i d) m ≡ some b) (sym t.0) (set_here now i d (let n : k ≡ i = t.0 in omega arith) ∙ ap some (both_some d b (ap some t.1))))
      (λ t. set_else now i k d t.0 ∙ tie k b t.1) (at_set h i k (Some d) (Some b) e)) is ds j c e

  pub still_held : (h : List (Option A)) (is : List ℕ) (cs : List A) (j : ℕ) (c : A) → get_elem? h j ≡ some (Some c) → (c' : A) × (get_elem? (write h is (map Some cs)) j ≡ some (Some c'))
  still_held h [] cs j c e = (c, e)
  still_held h (i ∷ is) [] j c e = (c, e)
  still_held h (i ∷ is) (d ∷ ds) j c e = elim (ℕ_discrete j i) [
    | yes p ↦ still_held (set h i (Some d)) is ds j d (subst (λ (m : ℕ). get_elem? (set h i (Some d)) m ≡ some (Some d)) (sym p) (set_here h i (Some d) (subst (λ (m : ℕ). m < length h) p (in_range h j (Some c) e))))
    | no n ↦ still_held (set h i (Some d)) is ds j c (set_else h i j (Some d) n ∙ e)
  ]

module _ {C E : Type 0} (touches : E → List ℕ) (moves : E → List C → List C → Type 0) where
  pub one_more : (s : List C) (ts : List (Turn C E)) (t : Turn C E) (z : List C) → Run touches moves s ts z → TurnGoes touches moves z t → Run touches moves s (ts ++ t ∷ []) (write z (touches t.event) t.after)
  one_more s [] t z is go = (subst (λ (x : List C). TurnGoes touches moves x t) (sym is) go, ap (λ (x : List C). write x (touches t.event) t.after) is)
  one_more s (u ∷ us) t z runs go = (runs.0, one_more (write s (touches u.event) u.after) us t z runs.1 go)

written_from : {A : Type 0} (s : List A) (is : List ℕ) (cs : List A) → length cs ≡ length is → (p : ℕ) (c : A) → get_elem? (write s is cs) p ≡ some c
    → ((m : ℕ) × (get_elem? is m ≡ some p) × (get_elem? cs m ≡ some c)) ⊎ (((m : ℕ) → get_elem? is m ≢ some p) × (get_elem? s p ≡ some c))
written_from s [] cs long p c e = inr ((λ m z. some-ne-none p (sym z)), e)
written_from s (i ∷ is) [] long p c e = absurd (omega arith)
written_from s (i ∷ is) (d ∷ ds) long p c e = ⊎_elim (λ t. inl (suc t.0, t.1, t.2))
    (λ t. ⊎_elim (λ z. inl (0, ap some (sym z.0), ap some z.1)) (λ z. let ne = z.0 in inr ((apart i is p (λ y. ne (sym y)) t.0), z.1)) (at_set s i p d c t.1))
    (written_from (set s i d) is ds (omega arith) p c e)
  where
    apart : (i : ℕ) (is : List ℕ) (p : ℕ) → i ≢ p → ((m : ℕ) → get_elem? is m ≢ some p) → (m : ℕ) → get_elem? (i ∷ is) m ≢ some p
    apart i is p ne h zero e = ne (some-injective i p e)
    apart i is p ne h (suc m) e = h m e

module _ {C E : Type 0} (touches : E → List ℕ) (moves : E → List C → List C → Type 0) where
  pub last_in : (s : List C) (ts : List (Turn C E)) (z : List C) → Run touches moves s ts z → (p : ℕ) (c : C) → get_elem? z p ≡ some c → Replay touches s ts p c
  last_in s [] z r p c e = inr ((λ k u x. absurd (some-ne-none u (sym x))), ap (λ l. get_elem? l p) r ∙ e)
  last_in s (t ∷ ts) z r p c e = ⊎_elim (λ l. inl (suc l.0, l.1, l.2, l.3, later l.0 l.4))
      (λ l. ⊎_elim (λ w. inl (0, t, refl, w, first l.0)) (λ w. inr (all l.0 w.0, w.1)) (written_from s (touches t.event) t.after r.0.2 p c l.1))
      (last_in (write s (touches t.event) t.after) ts z r.1 p c e)
    where
      later : (m : ℕ) → ((k : ℕ) (u : Turn C E) → m < k → get_elem? ts k ≡ some u → Untouched touches u p) → (k : ℕ) (u : Turn C E) → suc m < k → get_elem? (t ∷ ts) k ≡ some u → Untouched touches u p
      later m h zero u lt x = absurd (omega arith)
      later m h (suc k) u lt x = h k u (omega arith) x

      first : ((k : ℕ) (u : Turn C E) → get_elem? ts k ≡ some u → Untouched touches u p) → (k : ℕ) (u : Turn C E) → 0 < k → get_elem? (t ∷ ts) k ≡ some u → Untouched touches u p
      first h zero u lt x = absurd (omega arith)
      first h (suc k) u lt x = h k u x

      all : ((k : ℕ) (u : Turn C E) → get_elem? ts k ≡ some u → Untouched touches u p) → Untouched touches t p → (k : ℕ) (u : Turn C E) → get_elem? (t ∷ ts) k ≡ some u → Untouched touches u p
      all h w zero u x = subst (λ y. Untouched touches y p) (some-injective t u x) w
      all h w (suc k) u x = h k u x

  -- the turns up to one of them
  pub up_to : (s : List C) (ts : List (Turn C E)) (z : List C) (n : ℕ) (t : Turn C E) → Run touches moves s ts z → get_elem? ts n ≡ some t → (y : List C) × Run touches moves s (take n ts) y × TurnGoes touches moves y t
  up_to s [] z n t r e = absurd (some-ne-none t (sym e))
  up_to s (u ∷ ts) z zero t r e = (s, refl, subst (TurnGoes touches moves s) (some-injective u t e) r.0)
  up_to s (u ∷ ts) z (suc n) t r e = let h = up_to (write s (touches u.event) u.after) ts z n t r.1 e in (h.0, (r.0, h.1), h.2)

pub in_take : {A : Type 0} (l : List A) (n k : ℕ) → k < n → get_elem? (take n l) k ≡ get_elem? l k
in_take l zero k h = absurd (omega arith)
in_take [] (suc n) k h = refl
in_take (x ∷ l) (suc n) zero h = refl
in_take (x ∷ l) (suc n) (suc k) h = in_take l n k (omega arith)

pub below : {A : Type 0} (l : List A) (n k : ℕ) (a : A) → get_elem? (take n l) k ≡ some a → k < n
below l zero k a e = absurd (some-ne-none a (sym e))
below [] (suc n) k a e = absurd (some-ne-none a (sym e))
below (x ∷ l) (suc n) zero a e = omega arith
below (x ∷ l) (suc n) (suc k) a e = let h = below l n k a e in omega arith

pub read_one : {A : Type 0} (s : List A) (is : List ℕ) (cs : List A) → ReadsPlaces s is cs → (m p : ℕ) (c : A) → get_elem? is m ≡ some p → get_elem? cs m ≡ some c → get_elem? s p ≡ some c
read_one s [] cs r m p c e f = absurd (some-ne-none p (sym e))
read_one s (i ∷ is) [] r m p c e f = absurd r
read_one s (i ∷ is) (d ∷ ds) r zero p c e f = ap (get_elem? s) (sym (some-injective i p e)) ∙ r.0 ∙ f
read_one s (i ∷ is) (d ∷ ds) r (suc m) p c e f = read_one s is ds r.1 m p c e f

-- what is true of each place is what `ReadsPlaces` says
pub reads_by : {A : Type 0} (s : List A) (is : List ℕ) (cs : List A) → length cs ≡ length is → ((m p : ℕ) (c : A) → get_elem? is m ≡ some p → get_elem? cs m ≡ some c → get_elem? s p ≡ some c) → ReadsPlaces s is cs
reads_by s [] [] e h = tt
reads_by s [] (c ∷ cs) e h = absurd (omega arith)
reads_by s (i ∷ is) [] e h = absurd (omega arith)
reads_by s (i ∷ is) (c ∷ cs) e h = (h 0 i c refl refl, reads_by s is cs (omega arith) (λ m p d x y. h (suc m) p d x y))

-- each place that is read has something
pub read_some : {A : Type 0} (s : List A) (is : List ℕ) (cs : List A) → ReadsPlaces s is cs → (m p : ℕ) → get_elem? is m ≡ some p → (c : A) × (get_elem? s p ≡ some c)
read_some s [] cs r m p e = absurd (some-ne-none p (sym e))
read_some s (i ∷ is) [] r m p e = absurd r
read_some s (i ∷ is) (d ∷ ds) r zero p e = (d, ap (get_elem? s) (sym (some-injective i p e)) ∙ r.0)
read_some s (i ∷ is) (d ∷ ds) r (suc m) p e = read_some s is ds r.1 m p e

pub long_reads : {A : Type 0} (s : List A) (is : List ℕ) (cs : List A) → ReadsPlaces s is cs → length cs ≡ length is
long_reads s [] [] r = refl
long_reads s [] (c ∷ cs) r = absurd r
long_reads s (i ∷ is) [] r = absurd r
long_reads s (i ∷ is) (c ∷ cs) r = ap suc (long_reads s is cs r.1)

module _ {C E : Type 0} (touches : E → List ℕ) (moves : E → List C → List C → Type 0) where
  -- no part comes or goes in a run
  pub long_run : (s : List C) (ts : List (Turn C E)) (z : List C) → Run touches moves s ts z → length z ≡ length s
  long_run s [] z r = ap length (sym r)
  long_run s (t ∷ ts) z r = long_run (write s (touches t.event) t.after) ts z r.1 ∙ length-write s (touches t.event) t.after
