-- The homes of the members of some homes are those.
use Rattle.std.proofs.Common.{◌≡◌, ◌∙◌, ℕ, zero, suc, ◌+◌, ◌%◌, ◌<◌, ◌≤◌, List, [], ◌∷◌, get_or, length, map, replicate, set, refl, sym, ap, arith, Bool, true, false, cond, eqb, ne_eqb, eq-eqb}
use Rattle.std.proofs.lemmas.List.{get_or-set_other, get_or-set_same}
use mathlib.Core.Logic.{dite}
use native.Mathlib.Decide.{ℕ_discrete}
use Rattle.ca_meaning.specs.Wait.{is_among}
use Rattle.ca_commit.specs.Contents.{home}
use Rattle.ca_commit.specs.Touched.{homes, wanted}
use Rattle.ca_table.specs.Homes.{has_home, members}
use Rattle.ca_table.specs.declared.homes.Homes.{Homes}

pub own : (j : ℕ) → j < 16 → home j ≡ j
own j lt = let e : j % 16 ≡ j = omega (arith, lt) in e

own_home : (j : ℕ) → j < 16 → home (0 + j) ≡ j
own_home j lt = ap home (let z : 0 + j ≡ j = omega arith in z) ∙ own j lt

module _ (has : ℕ → Bool) where
  abbrev Among : ℕ → ℕ → ℕ → Bool
  Among c j i = is_among i (map home (wanted has 0 j c))

  pass : (c j i : ℕ) (b r : Bool) → j < 16 → (i ≡ j → ⊥) → has j ≡ b → Among c (suc j) i ≡ r → Among (suc c) j i ≡ r
  pass c j i true r lt ne e rest = ap (λ b. is_among i (map home (cond b ((0 + j) ∷ wanted has 0 (suc j) c) (wanted has 0 (suc j) c)))) e ∙ ap (λ b. cond b true (Among c (suc j) i)) (ne_eqb i (home (0 + j)) (λ k. ne (k ∙ own_home j lt))) ∙ rest
  pass c j i false r lt ne e rest = ap (λ b. is_among i (map home (cond b ((0 + j) ∷ wanted has 0 (suc j) c) (wanted has 0 (suc j) c)))) e ∙ rest

  before : (c j i : ℕ) → j + c ≤ 16 → i < j → Among c j i ≡ false
  before zero j i le lt = refl
  before (suc c) j i le lt = pass c j i (has j) false (omega (arith, le)) (λ e. omega (arith, e, lt)) refl (before c (suc j) i (omega (arith, le)) (omega (arith, lt)))

  here : (c j i : ℕ) (b : Bool) → j + suc c ≤ 16 → i ≡ j → has j ≡ b → Among (suc c) j i ≡ has i
  here c j i true le e is = ap (λ b. is_among i (map home (cond b ((0 + j) ∷ wanted has 0 (suc j) c) (wanted has 0 (suc j) c)))) is ∙ ap (λ b. cond b true (Among c (suc j) i)) (eq-eqb i (home (0 + j)) (e ∙ sym (own_home j (omega (arith, le))))) ∙ sym (ap has e ∙ is)
  here c j i false le e is = ap (λ b. is_among i (map home (cond b ((0 + j) ∷ wanted has 0 (suc j) c) (wanted has 0 (suc j) c)))) is ∙ before c (suc j) i (omega (arith, le)) (omega (arith, e)) ∙ sym (ap has e ∙ is)

  among : (c j i : ℕ) → j + c ≤ 16 → j ≤ i → i < j + c → Among c j i ≡ has i
  among zero j i le lo hi = absurd (omega (arith, lo, hi))
  among (suc c) j i le lo hi = dite (ℕ_discrete i j) (λ e. here c j i (has j) le e refl) (λ ne. pass c j i (has j) (has i) (omega (arith, le)) ne refl (among c (suc j) i (omega (arith, le)) (omega (arith, lo, ne)) (omega (arith, hi))))

pub members_homes : (h : Homes) (i : ℕ) → i < 16 → homes (members h) i ≡ has_home h i
members_homes h i lt = among (has_home h) 16 0 i (omega arith) (omega arith) (omega (arith, lt))

pub no_members : (h : Homes) → ((i : ℕ) → has_home h i ≡ false) → members h ≡ []
no_members h none = ap (λ (has : ℕ → Bool). wanted has 0 0 16) (λ t i. none i t)

pub no_flag : (n i : ℕ) → get_or (replicate n false) i false ≡ false
no_flag zero i = refl
no_flag (suc n) zero = refl
no_flag (suc n) (suc i) = no_flag n i

pub set_flag : (flags : List Bool) (k i : ℕ) → k < length flags → get_or (set flags k true) i false ≡ cond (eqb k i) true (get_or flags i false)
set_flag flags k i lt = dite (ℕ_discrete k i)
    (λ e. ap (λ (j : ℕ). get_or (set flags k true) j false) (sym e) ∙ get_or-set_same flags k true false lt ∙ ap (λ b. cond b true (get_or flags i false)) (sym (eq-eqb k i e)))
    (λ ne. get_or-set_other flags k i true false (λ e. ne (sym e)) ∙ ap (λ b. cond b true (get_or flags i false)) (sym (ne_eqb k i ne)))
