-- What a go block's task begins as.
use Rattle.std.specs.Prelude.{◌≡◌, ℕ, suc, ◌<◌, [], ◌∷◌, ◌++◌, length, true}
use Rattle.ca_value.specs.Tree.{Trees, port}
use Rattle.ca_term.specs.Operation.{SeedView, go, system}
use Rattle.ca_term.specs.Program.{ProgramView, arity}
use Rattle.ca_meaning.specs.Body.{BodyView, new_body}
use Rattle.ca_meaning.specs.Operands.{values_in}
use Rattle.ca_meaning.specs.Started.{procedure_at, started}
use Rattle.ca_states.specs.Code.{CodeView}
use Rattle.ca_states.specs.Standing.{IsStart}
use Rattle.ca_states.specs.Valid.{is_task}
use Rattle.ca_states.specs.declared.runner.Start.TheVariants.{Go}

-- the go body with the values, and last the result port, in place of its names
abbrev pub go_body : ProgramView → ℕ → Trees → ℕ → BodyView
go_body P n values result = new_body (started (procedure_at P.bodies n) (values_in values ++ port result ∷ []))

-- the program has that go body, and it takes as many values
abbrev pub HasGo : ProgramView → ℕ → ℕ → Type 0
HasGo P n count = (n < length P.bodies) × (count ≡ arity (procedure_at P.bodies n))

-- the code has the task of the seed: the go body, which takes as many values, or the function that the system task applies
abbrev pub HasSeed : CodeView → SeedView → Type 0
HasSeed C (go n values result place) = IsStart C (Go n) (suc (length (values_in values)))
HasSeed C (system kind values place) = is_task C kind ≡ true
