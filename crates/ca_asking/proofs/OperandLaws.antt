-- Operands by their places.
use Rattle.std.proofs.Common.{◌≡◌, ◌≢◌, ℕ, zero, suc, ◌-◌, List, [], ◌∷◌, ◌++◌, ◌<◌, length, get_or, slice_get, refl, sym, ap, ◌∙◌, arith, false, Some, None, Result, Ok, Err, IfOk, IfErr, pos, negsuc, ◌≤◌, cond, ne_eqb}
use Rattle.ca_value.specs.Tree.{Tree, nil, bool, int, text, key, vector, map as map_of, port, item}
use Rattle.ca_value.specs.View.{view, trees}
use Rattle.ca_value.specs.declared.value.Value.{Value}
use Rattle.ca_term.specs.declared.fault.Fault.{Fault}
use Rattle.ca_term.specs.Operation.{WhatView, unbuffered, fixed}
use Rattle.ca_term.specs.Operands.{operand_at, last_of, without_last, is_pair}
use Rattle.ca_term.specs.Asking.{ranged, sized}
use Rattle.ca_asking.specs.Asked.{trees_by, sized_with, is_unbuffered}

-- an operand stands for a tree
module _ {A : Type 0} (tree : A → Tree) where
  pub operand_within : (xs : List A) (n : ℕ) (x : A) → n < length xs → x ≡ get_or xs n x → tree x ≡ operand_at n (trees_by tree xs)
  operand_within [] n x lt e = absurd (omega (arith, lt))
  operand_within (y ∷ xs) zero x lt e = ap tree e
  operand_within (y ∷ xs) (suc n) x lt e = operand_within xs n x (omega (arith, lt)) e

  pub operand_past : (xs : List A) (n : ℕ) → length xs ≤ n → operand_at n (trees_by tree xs) ≡ nil
  operand_past [] zero le = refl
  operand_past [] (suc n) le = operand_past [] n (omega arith)
  operand_past (x ∷ xs) zero le = absurd (omega (arith, le))
  operand_past (x ∷ xs) (suc n) le = operand_past xs n (omega (arith, le))

  pub last-some : (xs : List A) (x : A) → slice_get xs (length xs - 1) ≡ Some x → last_of (trees_by tree xs) ≡ tree x
  last-some [] x h = absurd cc
  last-some (y ∷ []) x h = ap tree (let e : y ≡ x = cc in e)
  last-some (y ∷ z ∷ xs) x h =
      let e : suc (suc (length xs)) - 1 ≡ suc (length xs) = omega arith in
      let d : suc (length xs) - 1 ≡ length xs = omega arith in
      last-some (z ∷ xs) x (ap (slice_get (z ∷ xs)) d ∙ sym (ap (slice_get (y ∷ z ∷ xs)) e) ∙ h)

  pub without_last-trees : (xs : List A) (x : A) → without_last (trees_by tree (xs ++ x ∷ [])) ≡ trees_by tree xs
  without_last-trees [] x = refl
  without_last-trees (y ∷ []) x = refl
  without_last-trees (y ∷ z ∷ xs) x = ap (item (tree y)) (without_last-trees (z ∷ xs) x)

pub value_none : (vs : List Value) (n : ℕ) → slice_get vs n ≡ None → operand_at n (trees vs) ≡ nil
value_none [] zero h = refl
value_none [] (suc n) h = value_none [] n refl
value_none (v ∷ vs) zero h = absurd cc
value_none (v ∷ vs) (suc n) h = value_none vs n h

pub value_some : (vs : List Value) (n : ℕ) (v : Value) → slice_get vs n ≡ Some v → operand_at n (trees vs) ≡ view v
value_some [] zero v h = absurd cc
value_some [] (suc n) v h = absurd cc
value_some (u ∷ vs) zero v h = ap view (let e : u ≡ v = cc in e)
value_some (u ∷ vs) (suc n) v h = value_some vs n v h

pub not-pair : (vs : List Value) → length vs ≢ 2 → is_pair (trees vs) ≡ false
not-pair [] h = refl
not-pair (a ∷ []) h = refl
not-pair (a ∷ b ∷ []) h = absurd (h refl)
not-pair (a ∷ b ∷ c ∷ vs) h = refl

-- an operand that isn't nil or 0 is the number of a buffer's values
sized-buffer : (v : Tree) → is_unbuffered v ≡ false → sized v ≡ ranged 1 4096 fixed v
sized-buffer (int (pos zero)) h = cc
sized-buffer (int (pos (suc n))) h = refl
sized-buffer (int (negsuc n)) h = refl
sized-buffer nil h = cc
sized-buffer (bool b) h = refl
sized-buffer (text s) h = refl
sized-buffer (key s) h = refl
sized-buffer (vector vs) h = refl
sized-buffer (map_of ps) h = refl
sized-buffer (port n) h = refl

pub sized-number : (v : Tree) (r : Result ℕ Fault) → is_unbuffered v ≡ false → IfOk r (λ n. (make : ℕ → WhatView) → ranged 1 4096 make v ≡ Ok (make n)) → IfOk r (λ n. 1 ≤ n) → IfOk r (λ n. sized v ≡ Ok (sized_with n))
sized-number v (Ok n) h a b =
    let apart : n ≡ 0 → ⊥ = λ e. omega (arith, b, e) in
    sized-buffer v h ∙ a fixed ∙ ap (λ (w : WhatView). Ok w) (sym (ap (λ t. cond t unbuffered (fixed n)) (ne_eqb n 0 apart)))
sized-number v (Err f) h a b = tt

pub sized-fault : (v : Tree) (r : Result ℕ Fault) → is_unbuffered v ≡ false → IfErr r (λ f. (make : ℕ → WhatView) → ranged 1 4096 make v ≡ Err f) → IfErr r (λ f. sized v ≡ Err f)
sized-fault v (Ok n) h a = tt
sized-fault v (Err f) h a = sized-buffer v h ∙ a fixed
