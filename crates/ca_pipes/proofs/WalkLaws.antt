-- What is left of a vector's items, by a place.
use Rattle.std.proofs.Common.{◌≡◌, ℕ, zero, suc, ◌+◌, ◌<◌, ◌≤◌, List, [], ◌∷◌, length, refl, sym, ap, ◌∙◌, arith, add-one, Bool, true, false, nat_le, Result, Ok, Err, IfOk}
use Rattle.std.proofs.lemmas.Bool.{leb-true, leb-false}
use Rattle.ca_value.specs.Tree.{Trees, none, item}
use Rattle.ca_value.specs.View.{view, trees}
use Rattle.ca_value.specs.declared.value.Value.{Value}
use Rattle.ca_meaning.specs.Operands.{operand_at, first_of, rest_of}
use Rattle.ca_pipes.specs.Walks.{skipped, is_none}

first_skipped : (n : ℕ) (vs : Trees) → operand_at n vs ≡ first_of (skipped n vs)
first_skipped zero vs = refl
first_skipped (suc n) vs = first_skipped n (rest_of vs)

pub first_got : {E : Type 0} (r : Result Value E) (n : ℕ) (us vs : Trees) → us ≡ vs → IfOk r (λ v. view v ≡ operand_at n us) → IfOk r (λ v. view v ≡ first_of (skipped n vs))
first_got (Ok v) n us vs e h = h ∙ first_skipped n us ∙ ap (λ ws. first_of (skipped n ws)) e
first_got (Err x) n us vs e h = tt

rest_skipped : (n : ℕ) (vs : Trees) → skipped (suc n) vs ≡ rest_of (skipped n vs)
rest_skipped zero vs = refl
rest_skipped (suc n) vs = rest_skipped n (rest_of vs)

pub rest_within : (n : ℕ) (vs : Trees) → skipped (n + 1) vs ≡ rest_of (skipped n vs)
rest_within n vs = ap (λ m. skipped m vs) (add-one n) ∙ rest_skipped n vs

over_none : (vs : List Value) (n : ℕ) → length vs ≤ n → skipped n (trees vs) ≡ none
over_none [] zero le = refl
over_none [] (suc n) le = over_none [] n (omega arith)
over_none (v ∷ vs) zero le = absurd (omega (arith, le))
over_none (v ∷ vs) (suc n) le = over_none vs n (omega (arith, le))

pub rest_past : (vs : List Value) (n : ℕ) → length vs ≤ n → skipped n (trees vs) ≡ rest_of (skipped n (trees vs))
rest_past vs n le = let e = over_none vs n le in e ∙ sym (ap rest_of e)

some_left : (vs : List Value) (n : ℕ) → n < length vs → is_none (skipped n (trees vs)) ≡ false
some_left [] n lt = absurd (omega (arith, lt))
some_left (v ∷ vs) zero lt = refl
some_left (v ∷ vs) (suc n) lt = some_left vs n (omega (arith, lt))

pub is_over : (vs : List Value) (n : ℕ) (ts : Trees) → trees vs ≡ ts → nat_le (length vs) n ≡ is_none (skipped n ts)
is_over vs n ts e = by (nat_le (length vs) n) refl ∙ ap (λ ws. is_none (skipped n ws)) e where
  by : (b : Bool) → nat_le (length vs) n ≡ b → nat_le (length vs) n ≡ is_none (skipped n (trees vs))
  by true is = is ∙ sym (ap is_none (over_none vs n (leb-true (length vs) n is)))
  by false is = is ∙ sym (some_left vs n (leb-false (length vs) n is))
