-- To let one more value go is nothing in the plain code, and a test is the builtin and the branch that it stands for.
use Rattle.std.proofs.Common.{◌≡◌, ℕ, zero, suc, ◌-◌, ◌<◌, List, [], ◌∷◌, ◌++◌, length, map, take, get_or, Bool, true, false, Option, Some, None, refl, sym, ap, ap₂, ◌∙◌, arith}
use Rattle.std.specs.Prelude.{cond, IfSome}
use Rattle.ca_states.specs.declared.code.Exit.{Exit}
use Rattle.ca_states.specs.declared.code.Exit.TheVariants.{Branch}
use Rattle.ca_states.specs.declared.code.Instr.{Instr}
use Rattle.ca_states.specs.declared.code.Instr.TheVariants.{Clear}
use Rattle.ca_states.specs.Code.{Instruction, instruction}
use Rattle.ca_moves.specs.Plain.{plain_instruction, does_something, doing, exit_tests, untested, plain_instrs}

pub doing_more : (is : List Instr) (a : ℕ) → doing (map plain_instruction (map instruction (is ++ Clear a ∷ []))) ≡ doing (map plain_instruction (map instruction is))
doing_more [] a = refl
doing_more (i ∷ is) a = ap (λ l. cond (does_something (plain_instruction (instruction i))) (plain_instruction (instruction i) ∷ l) l) (doing_more is a)

doing_last : (is : List Instr) (j : Instr) → doing (map plain_instruction (map instruction (is ++ j ∷ []))) ≡ doing (map plain_instruction (map instruction is)) ++ doing (plain_instruction (instruction j) ∷ [])
doing_last [] j = refl
doing_last (i ∷ is) j = ap (λ l. cond (does_something (plain_instruction (instruction i))) (plain_instruction (instruction i) ∷ l) l) (doing_last is j) ∙ by (does_something (plain_instruction (instruction i)))
  where
    more : List Instruction
    more = doing (plain_instruction (instruction j) ∷ [])

    rest : List Instruction
    rest = doing (map plain_instruction (map instruction is))

    by : (b : Bool) → cond b (plain_instruction (instruction i) ∷ rest ++ more) (rest ++ more) ≡ cond b (plain_instruction (instruction i) ∷ rest) rest ++ more
    by true = refl
    by false = refl

all_but_last : (is : List Instr) (n : ℕ) (j : Instr) → suc n ≡ length is → j ≡ get_or is n j → is ≡ take n is ++ j ∷ []
all_but_last [] n j e h = absurd (omega (arith, e))
all_but_last (i ∷ []) zero j e h = ap (λ k. k ∷ []) (sym h)
all_but_last (i ∷ k ∷ is) zero j e h = absurd (omega (arith, e))
all_but_last (i ∷ is) (suc n) j e h = ap (λ l. i ∷ l) (all_but_last is n j (omega (arith, e)) h)

none_behind : (l : List Instruction) → l ++ [] ≡ l
none_behind [] = refl
none_behind (a ∷ l) = ap (λ m. a ∷ m) (none_behind l)

-- the last instruction and the branch are that test, if there is one
pub test_stands : (is : List Instr) (n : ℕ) (j : Instr) (x : Exit) (slot yes_to no_to : ℕ) (test : Option Exit) → n ≡ length is - 1 → n < length is → j ≡ get_or is n j → x ≡ Branch slot yes_to no_to
    → IfSome test (λ y. (untested y ≡ Branch slot yes_to no_to) × (exit_tests y ≡ doing (plain_instruction (instruction j) ∷ []))) → IfSome test (λ y. plain_instrs (map instruction (take (length is - 1) is)) y ≡ plain_instrs (map instruction is) x)
test_stands is n j x slot yes_to no_to None en lt e ex h = tt
test_stands is n j x slot yes_to no_to (Some y) en lt e ex h =
    let before = take n is in
    let front = doing (map plain_instruction (map instruction before)) in
    let same : is ≡ before ++ j ∷ [] = all_but_last is n j (omega (arith, en, lt)) e in
    let last : doing (map plain_instruction (map instruction is)) ≡ front ++ exit_tests y = ap (λ l. doing (map plain_instruction (map instruction l))) same ∙ doing_last before j ∙ ap (λ l. front ++ l) (sym h.1) in
    ap (λ m. plain_instrs (map instruction (take m is)) y) (sym en) ∙ sym (ap₂ (λ l m. l ++ m) last (ap exit_tests ex) ∙ none_behind (front ++ exit_tests y))
