-- Seeds that a task of a program may be made from.
use Rattle.std.specs.Prelude.{◌≡◌, ◌<◌, suc, Option, Some, None, length}
use Rattle.ca_term.specs.Operation.{OpView, SeedView, go, system, spawning}
use Rattle.ca_term.specs.Program.{ProgramView, arity}
use Rattle.ca_meaning.specs.Operands.{values_in}
use Rattle.ca_meaning.specs.Started.{procedure_at}
use Rattle.ca_meaning.specs.System.{new_system}
use Rattle.ca_system.specs.Applications.{function_of}
use Rattle.ca_replay.specs.SceneOf.{HasFunction}

-- the program has the go body, which takes the values and the result port; or the function that the table applies
abbrev pub IsSeedOf : ProgramView → SeedView → Type 0
IsSeedOf program (go n values result place) = (n < length program.bodies) × (suc (length (values_in values)) ≡ arity (procedure_at program.bodies n))
IsSeedOf program (system kind values place) = HasFunction program (function_of (new_system kind values place))

abbrev pub seed_in : OpView → Option SeedView
seed_in (spawning seed) = Some seed
seed_in op = None
