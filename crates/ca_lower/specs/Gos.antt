-- The go bodies of code, and of its program.
use Rattle.std.specs.Prelude.{◌≡◌, ℕ, ◌<◌, length}
use Rattle.ca_term.specs.Program.{ProgramView, arity}
use Rattle.ca_meaning.specs.Started.{procedure_at}
use Rattle.ca_states.specs.declared.runner.Start.TheVariants.{Go}
use Rattle.ca_states.specs.Code.{CodeView}
use Rattle.ca_states.specs.Standing.{IsStart}

-- each go body of the code is one of the program's, and takes as many values
pub record SameGos (P : ProgramView) (C : CodeView) : Type 0 where
  pub each : (n count : ℕ) → IsStart C (Go n) count → (n < length P.bodies) × (count ≡ arity (procedure_at P.bodies n))
