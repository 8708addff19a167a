-- Banks or shards that move out of a hand one after another, and back.
use Rattle.std.proofs.Common.{◌≡◌, ◌∙◌, ⊎_elim, ℕ, ◌+◌, ◌<◌, ◌≤◌, List, [], ◌∷◌, ◌++◌, refl, sym, ap, arith, Bool, true, false, cond, Option, Some, None, eqb, eqb-true, eq-eqb, ne_eqb, is_some, nat_lt}
use Rattle.std.specs.Prelude.{option_map}
use Rattle.std.specs.Map.{update}
use Rattle.std.proofs.lemmas.Bool.{cases_lt, eqb-false, le-ltb, lt-ltb}
use Rattle.ca_states.specs.declared.valid_code.ValidCode.{ValidCode}
use Rattle.ca_turns.specs.Hands.{Held, IsHolding}
use Rattle.ca_commit.specs.Gathered.{kind_at, kind_of_part}
use Rattle.ca_commit.specs.Listing.{listed}
use Rattle.ca_commit.specs.Running.{or_was}
use Rattle.ca_table.specs.Carrying.{Carries, IsPlace, kind_there, number_at, part_at, with_at}
use Rattle.ca_table.specs.Grips.{Grips}
use Rattle.ca_table.specs.Lifting.{PartRow, all_of, bank_row, contents_kind, first_part_number, kind_of_row, laid_back, lifted, row_place, shard_row, with_row}
use Rattle.ca_table.specs.Parts.{part_away, contents_seen, part_of}
use Rattle.ca_table.specs.Seen.{PartSeen, held_of}
use Rattle.ca_table.specs.declared.part.Contents.{Contents}
use Rattle.ca_table.specs.declared.part.Contents.TheVariants as V
use Rattle.ca_table.specs.declared.part.Part.{Part}
use Rattle.ca_table.proofs.Carriers.{kind_placed}
use Rattle.ca_table.proofs.Gripping.{fit, held_is}

pub numbered_in : (row : PartRow) (n w i : ℕ) → first_part_number row n + i ≡ number_at n w (row_place row i)
numbered_in bank_row n w i = refl
numbered_in shard_row n w i = refl

pub is_place : (row : PartRow) (i : ℕ) → i < 16 → IsPlace (row_place row i)
is_place bank_row i lt = lt
is_place shard_row i lt = lt

kind_in : (row : PartRow) (i : ℕ) → kind_there (row_place row i) ≡ kind_of_row row
kind_in bank_row i = refl
kind_in shard_row i = refl

-- the kind of what was held there
pub kind_of_held : {A C : Type 0} (least faults : C → ℕ) (readings : C → Option (List ℕ)) (x : Contents A C) → kind_of_part (held_of (contents_seen least faults readings x)) ≡ contents_kind x
kind_of_held least faults readings (V.Lane l) = refl
kind_of_held least faults readings (V.Bank b) = refl
kind_of_held least faults readings (V.Shard s) = refl
kind_of_held least faults readings (V.Timers t) = refl
kind_of_held least faults readings (V.Ready r) = refl
kind_of_held least faults readings V.Away = refl

pub kind_at_row : (row : PartRow) (n w i : ℕ) → w < n → i < 16 → kind_at n (first_part_number row n + i) ≡ kind_of_row row
kind_at_row row n w i below lt = ap (kind_at n) (numbered_in row n w i) ∙ kind_placed n w below (row_place row i) (is_place row i lt) ∙ kind_in row i

module _ {X : Type 0} where
  pub with_one : (row : PartRow) (i : ℕ) (o : Option X) (f : ℕ → Option X) (h : Carries X) → with_at (row_place row i) o (with_row row f h) ≡ with_row row (update eqb f i o) h
  with_one bank_row i o f h = refl
  with_one shard_row i o f h = refl

  -- one that is there already
  pub with_own : (row : PartRow) (i : ℕ) (o : Option X) (f : ℕ → Option X) (h : Carries X) → f i ≡ o → with_at (row_place row i) o (with_row row f h) ≡ with_row row f h
  with_own row i o f h e = with_one row i o f h ∙ ap (λ (g : ℕ → Option X). with_row row g h) (λ t j. by j (eqb i j) refl t) where
    by : (j : ℕ) (b : Bool) → eqb i j ≡ b → cond b o (f j) ≡ f j
    by j true is = sym e ∙ ap f (eqb-true i j is)
    by j false is = refl

  pub with_every : (row : PartRow) (f g : ℕ → Option X) (h : Carries X) → ((i : ℕ) → f i ≡ g i) → with_row row f h ≡ with_row row g h
  with_every row f g h e = ap (λ (f : ℕ → Option X). with_row row f h) (λ t i. e i t)

  pub with_theirs : (row : PartRow) (h : Carries X) → with_row row (all_of row h) h ≡ h
  with_theirs bank_row h = refl
  with_theirs shard_row h = refl

  pub there_all : (row : PartRow) (i : ℕ) (f : ℕ → Option X) (h : Carries X) → part_at (row_place row i) (with_row row f h) ≡ f i
  there_all bank_row i f h = refl
  there_all shard_row i f h = refl

module _ {P C E : Type 0} where
  -- a hand with one part more has none above it
  pub below_more : (old new : Held P C E) (g : ℕ → Option (P × C)) (at : ℕ) (x : P × C) → Grips old g → Grips new (update eqb g at (Some x)) → ((i : ℕ) → IsHolding old i → i < at) → (i : ℕ) → IsHolding new i → i < at + 1
  below_more old new g at x held more below i holds = by (eqb at i) refl where
    among : (o : Option (P × C)) → g i ≡ o → eqb at i ≡ false → i < at + 1
    among None e is = absurd (held_is new (update eqb g at (Some x)) i more holds (ap (λ b. cond b (Some x) (g i)) is ∙ e))
    among (Some y) e is = let lt = below i (y.0, (fit old g i y held e).0) in omega (arith, lt)

    by : (b : Bool) → eqb at i ≡ b → i < at + 1
    by true is = let e : at ≡ i = eqb-true at i is in omega (arith, e)
    by false is = among (g i) refl is

module _ {T : Type 0} (number : T → ℕ) where
  -- one more part, last
  listed_more : (xs : List T) (x : T) (i : ℕ) → listed number (xs ++ x ∷ []) i ≡ or_was (listed number xs i) (cond (eqb (number x) i) (Some x) None)
  listed_more [] x i = refl
  listed_more (y ∷ ys) x i = by (eqb (number y) i) (listed_more ys x i) where
    by : (b : Bool) → listed number (ys ++ x ∷ []) i ≡ or_was (listed number ys i) (cond (eqb (number x) i) (Some x) None) → cond b (Some y) (listed number (ys ++ x ∷ []) i) ≡ or_was (cond b (Some y) (listed number ys i)) (cond (eqb (number x) i) (Some x) None)
    by true e = refl
    by false e = e

  or_none : (o : Option T) → or_was o None ≡ o
  or_none None = refl
  or_none (Some x) = refl

  pub listed_last : (xs : List T) (x : T) (i : ℕ) → number x ≡ i → listed number xs i ≡ None → listed number (xs ++ x ∷ []) i ≡ Some x
  listed_last xs x i e none = listed_more xs x i ∙ ap (λ b. or_was (listed number xs i) (cond b (Some x) None)) (eq-eqb (number x) i e) ∙ ap (λ o. or_was o (Some x)) none

  pub listed_else : (xs : List T) (x : T) (i : ℕ) → (number x ≡ i → ⊥) → listed number (xs ++ x ∷ []) i ≡ listed number xs i
  listed_else xs x i ne = listed_more xs x i ∙ ap (λ b. or_was (listed number xs i) (cond b (Some x) None)) (ne_eqb (number x) i ne) ∙ or_none (listed number xs i)

  -- a part in the list is listed
  pub listed_there : (xs : List T) (x : T) (ys : List T) → is_some (listed number (xs ++ x ∷ ys) (number x)) ≡ true
  listed_there [] x ys = ap (λ b. is_some (cond b (Some x) (listed number ys (number x)))) (eq-eqb (number x) (number x) refl)
  listed_there (y ∷ xs) x ys = by (eqb (number y) (number x)) (listed_there xs x ys) where
    by : (b : Bool) → is_some (listed number (xs ++ x ∷ ys) (number x)) ≡ true → is_some (cond b (Some y) (listed number (xs ++ x ∷ ys) (number x))) ≡ true
    by true e = refl
    by false e = e

module _ {A C T : Type 0} (n : ℕ) (code : ValidCode) (as_contents : T → Contents A C) (number : T → ℕ) where
  -- one more part was moved out
  pub lifted_more : (seen : Part A C → PartSeen A) (xs : List T) (x : T) (i : ℕ) → number x ≡ i → listed number xs i ≡ None
      → update eqb (lifted n code as_contents seen number xs) i (Some (part_away n code, seen (part_of n code (as_contents x)))) ≡ lifted n code as_contents seen number (xs ++ x ∷ [])
  lifted_more seen xs x i e none = λ t j. by j (eqb i j) refl t where
    f : T → Part A C × PartSeen A
    f y = (part_away n code, seen (part_of n code (as_contents y)))

    by : (j : ℕ) (b : Bool) → eqb i j ≡ b → cond b (Some (f x)) (option_map f (listed number xs j)) ≡ option_map f (listed number (xs ++ x ∷ []) j)
    by j true is = let k : i ≡ j = eqb-true i j is in sym (ap (option_map f) (listed_last number xs x j (e ∙ k) (ap (listed number xs) (sym k) ∙ none)))
    by j false is = sym (ap (option_map f) (listed_else number xs x j (λ k. eqb-false i j is (sym e ∙ k))))

  -- one more lies in the hand again
  pub laid_more : (done : List T) (was : ℕ → Option (PartSeen A)) (x : T) (c : PartSeen A) → was (number x) ≡ Some c
      → update eqb (λ i. laid_back n code as_contents (listed number done i) (was i)) (number x) (Some (part_of n code (as_contents x), c)) ≡ (λ i. laid_back n code as_contents (listed number (x ∷ done) i) (was i))
  laid_more done was x c e = λ t j. by j (eqb (number x) j) refl t where
    by : (j : ℕ) (b : Bool) → eqb (number x) j ≡ b → cond b (Some (part_of n code (as_contents x), c)) (laid_back n code as_contents (listed number done j) (was j)) ≡ laid_back n code as_contents (cond b (Some x) (listed number done j)) (was j)
    by j true is = sym (ap (laid_back n code as_contents (Some x)) (ap was (sym (eqb-true (number x) j is)) ∙ e))
    by j false is = refl

  -- where something was settled, something lies
  pub laid_there : (o : Option T) (c : PartSeen A) → (y : Part A C) × (laid_back n code as_contents o (Some c) ≡ Some (y, c))
  laid_there None c = (part_away n code, refl)
  laid_there (Some x) c = (part_of n code (as_contents x), refl)

  -- what was moved out into a list is settled so
  pub lifted_was : (seen : Part A C → PartSeen A) (xs : List T) (i : ℕ) → laid_back n code as_contents None (option_map (λ x. seen (part_of n code (as_contents x))) (listed number xs i)) ≡ lifted n code as_contents seen number xs i
  lifted_was seen xs i = by (listed number xs i) where
    by : (o : Option T) → laid_back n code as_contents None (option_map (λ x. seen (part_of n code (as_contents x))) o) ≡ option_map (λ x. (part_away n code, seen (part_of n code (as_contents x)))) o
    by None = refl
    by (Some x) = refl

pub is_there : {X : Type 0} (o : Option X) → is_some o ≡ true → (x : X) × (o ≡ Some x)
is_there None e = absurd (let z : false ≡ true = e in cc)
is_there (Some x) e = (x, refl)

module _ {X : Type 0} (now : ℕ → Option X) where
  -- those from k on
  abbrev pub from_on : ℕ → ℕ → Option X
  from_on k i = cond (nat_lt i k) None (now i)

  -- where none lies before k
  pub from_first : (k : ℕ) → ((j : ℕ) → j < k → now j ≡ None) → (i : ℕ) → from_on k i ≡ now i
  from_first k none i = ⊎_elim (λ lt. ap (λ b. cond b None (now i)) (lt-ltb i k lt) ∙ sym (none i lt)) (λ le. ap (λ b. cond b None (now i)) (le-ltb i k le)) (cases_lt i k)

  none_at : (k : ℕ) → from_on (k + 1) k ≡ None
  none_at k = ap (λ b. cond b None (now k)) (lt-ltb k (k + 1) (omega arith))

  pub gave_one : (k i : ℕ) → cond (eqb k i) (now k) (from_on (k + 1) i) ≡ from_on k i
  gave_one k i = by (eqb k i) refl where
    other : (k ≡ i → ⊥) → from_on (k + 1) i ≡ from_on k i
    other ne = ap (λ b. cond b None (now i)) (⊎_elim (λ lt. lt-ltb i (k + 1) (omega (arith, lt)) ∙ sym (lt-ltb i k lt)) (λ le. le-ltb i (k + 1) (omega (arith, le, ne)) ∙ sym (le-ltb i k le)) (cases_lt i k))

    by : (b : Bool) → eqb k i ≡ b → cond b (now k) (from_on (k + 1) i) ≡ from_on k i
    by true e = let s : k ≡ i = eqb-true k i e in ap now s ∙ sym (ap (λ b. cond b None (now i)) (le-ltb i k (omega (arith, s))))
    by false e = other (eqb-false k i e)

  pub gave_at : (k : ℕ) → from_on (k + 1) k ≡ None
  gave_at k = none_at k

  -- one that isn't there needn't be given
  pub gave_none : (k : ℕ) → now k ≡ None → (i : ℕ) → from_on k i ≡ from_on (k + 1) i
  gave_none k e i = sym (gave_one k i) ∙ by (eqb k i) refl where
    by : (b : Bool) → eqb k i ≡ b → cond b (now k) (from_on (k + 1) i) ≡ from_on (k + 1) i
    by true s = let z : k ≡ i = eqb-true k i s in e ∙ sym (none_at k) ∙ ap (from_on (k + 1)) z
    by false s = refl

  pub gave_all : (k i : ℕ) → ((j : ℕ) → k ≤ j → now j ≡ None) → from_on k i ≡ None
  gave_all k i none = ⊎_elim (λ lt. ap (λ b. cond b None (now i)) (lt-ltb i k lt)) (λ le. ap (λ b. cond b None (now i)) (le-ltb i k le) ∙ none i le) (cases_lt i k)

-- it is one of the parts of a run
pub in_run : (row : PartRow) (n w i a : ℕ) → a ≡ first_part_number row w → w ≡ n → i < 16 → a + i < n + 33 + n
in_run bank_row n w i a e f lt = omega (arith, e, f, lt)
in_run shard_row n w i a e f lt = omega (arith, e, f, lt)
