-- The text of an integer.
use Rattle.std.proofs.Common.{◌≡◌, ℕ, ℤ, suc, ◌≤◌, List, [], ◌∷◌, length, true, Ok, Err, refl, sym, ap, ◌∙◌, append-nil, arith}
use Rattle.std.proofs.lemmas.Bool.{le-leb}
use Rattle.std.specs.Prelude.{if◌then◌else◌, nat_le}
use Rattle.ca_value.specs.Tree.{Tree, int, text}
use Rattle.std.specs.Fmt.{signed_decimal}
use Rattle.ca_value.specs.Outcome.{judged}
use Rattle.ca_value.specs.Builtins.{builtin_result}
use Rattle.ca_value.specs.declared.builtin.Builtin.TheVariants.{Str}
use Rattle.ca_value.specs.declared.fault.ValueFault.TheVariants.{TooHeavy}
use Rattle.ca_states.specs.Machine.{builtin_applied}

-- a short text is judged as it is
short : (s : List ℕ) → length s ≤ 20 → judged (Ok (text s)) ≡ Ok (text s)
short s le =
    let e : nat_le (suc (length s)) 65536 ≡ true = le-leb (suc (length s)) 65536 (omega (arith, le)) in
    ap (λ b. if b then (Ok (text s)) else Err TooHeavy) e

pub str_integer : (n : ℤ) (s : List ℕ) (w : Tree) → s ≡ signed_decimal n → length s ≤ 20 → w ≡ text s → builtin_applied Str (int n ∷ []) ≡ Ok w
unfolding builtin_result
str_integer n s w es le ew = ap (λ r. judged (Ok (text r))) (append-nil (signed_decimal n) ∙ sym es) ∙ short s le ∙ ap Ok (sym ew)
