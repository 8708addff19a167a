-- The builtins of a take.
use Rattle.std.proofs.Common.{◌≡◌, ℕ, suc, ◌+◌, ◌<◌, ◌≤◌, pos, negsuc, refl, ap, ◌∙◌, arith, Bool, true, false, not, cond, Ok, Err, nat_lt, nat_le, ◌&&◌}
use Rattle.std.proofs.lemmas.Bool.{ltb-true, ltb-false}
use Rattle.ca_value.specs.Tree.{Tree, nil, int, bool, text, key, vector, map, port, item, none}
use Rattle.ca_value.specs.Outcome.{judged, number_outcome}
use Rattle.ca_value.specs.Builtins.{builtin_result}
use Rattle.ca_value.specs.declared.fault.ValueFault.{ValueFault}
use Rattle.ca_value.specs.declared.fault.ValueFault.TheVariants.{WrongKind, Overflow}
use Rattle.ca_value.specs.declared.builtin.Builtin.TheVariants.{Less, IsSome, IsNil, Inc}
use Rattle.ca_meaning.specs.Operands.{is_nil}
use Rattle.ca_derived_laws.specs.TakeLaw.{at_most}

pub some_is : (a : Tree) → builtin_result IsSome (item a none) ≡ Ok (bool (not (is_nil a)))
unfolding builtin_result
some_is nil = refl
some_is (bool b) = refl
some_is (int z) = refl
some_is (text s) = refl
some_is (key s) = refl
some_is (vector ts) = refl
some_is (map ts) = refl
some_is (port n) = refl

pub nil_is : (a : Tree) → builtin_result IsNil (item a none) ≡ Ok (bool (is_nil a))
unfolding builtin_result
nil_is nil = refl
nil_is (bool b) = refl
nil_is (int z) = refl
nil_is (text s) = refl
nil_is (key s) = refl
nil_is (vector ts) = refl
nil_is (map ts) = refl
nil_is (port n) = refl

-- the next number, or a fault past the greatest
pub data Next (k : ℕ) : Type 0 where
  next : builtin_result Inc (item (int (pos k)) none) ≡ Ok (int (pos (suc k))) → Next k
  past : (f : ValueFault) → builtin_result Inc (item (int (pos k)) none) ≡ Err f → Next k

pub next_is : (k : ℕ) → Next k
unfolding builtin_result
next_is k = by (nat_le (k + 1) 9223372036854775807) refl where
  by : (b : Bool) → nat_le (k + 1) 9223372036854775807 ≡ b → Next k
  by true e = next (ap (λ c. judged (number_outcome (cond c (Ok (pos (k + 1))) (Err Overflow)))) e ∙ ap (λ n. Ok (int (pos n))) (let h : k + 1 ≡ suc k = omega arith in h))
  by false e = past Overflow (ap (λ c. judged (number_outcome (cond c (Ok (pos (k + 1))) (Err Overflow)))) e)

-- whether a number is less than the bound
pub data Compared (k : ℕ) (n : Tree) : Type 0 where
  less : builtin_result Less (item (int (pos k)) (item n none)) ≡ Ok (bool true) → k < at_most n → Compared k n
  enough : builtin_result Less (item (int (pos k)) (item n none)) ≡ Ok (bool false) → at_most n ≤ k → Compared k n
  unlike : (f : ValueFault) → builtin_result Less (item (int (pos k)) (item n none)) ≡ Err f → Compared k n

pub compared : (k : ℕ) (n : Tree) → Compared k n
unfolding builtin_result
compared k nil = unlike WrongKind refl
compared k (bool b) = unlike WrongKind refl
compared k (text s) = unlike WrongKind refl
compared k (key s) = unlike WrongKind refl
compared k (vector ts) = unlike WrongKind refl
compared k (map ts) = unlike WrongKind refl
compared k (port n) = unlike WrongKind refl
compared k (int (negsuc j)) = enough refl (omega arith)
compared k (int (pos j)) = by (nat_lt k j) refl where
  by : (b : Bool) → nat_lt k j ≡ b → Compared k (int (pos j))
  by true e = less (ap (λ c. judged (Ok (bool (c && true)))) e) (ltb-true k j e)
  by false e = enough (ap (λ c. judged (Ok (bool (c && true)))) e) (ltb-false k j e)
