-- The laws of agents that carry their tasks' result ports, as the moves need them.
use Rattle.std.proofs.Common.{◌≡◌, ℕ, Option}
use Rattle.ca_value.specs.Tree.{Tree}
use Rattle.ca_term.specs.Program.{ProgramView}
use Rattle.ca_term.specs.Operation.{WantView, SeedView}
use Rattle.ca_meaning.specs.Body.{At, at_op}
use Rattle.ca_meaning.specs.Task.{TaskBody, body_at, body_fill, BodyRest, new_task}
use Rattle.ca_meaning.specs.TaskSteps.{result_of}

module _ {A : Type 0} (stands : ProgramView → A → Option ℕ → TaskBody → Type 0) (place : A → At) where
  abbrev pub GoesOn : (ProgramView → A → A → Type 0) → Type 0
  GoesOn advances = (program : ProgramView) (a c : A) (r : Option ℕ) (b : TaskBody) → stands program a r b → advances program a c → stands program c r b × (place c ≡ body_at b)

  abbrev pub TakesAnswers : (A → Tree → A → Type 0) → Type 0
  TakesAnswers gives = (program : ProgramView) (a c : A) (r : Option ℕ) (b : TaskBody) (w : WantView) (v : Tree) → stands program a r b → place a ≡ body_at b → place a ≡ at_op w → gives a v c → (d : TaskBody) × BodyRest program (body_fill v b) d × stands program c r d

  abbrev pub StaysPaused : (A → A → Type 0) → Type 0
  StaysPaused parks_as = (program : ProgramView) (a c : A) (r : Option ℕ) (b : TaskBody) → stands program a r b → parks_as a c → stands program c r b × (place c ≡ place a)

  abbrev pub Begins : (ProgramView → SeedView → A → Type 0) → Type 0
  Begins starts = (program : ProgramView) (seed : SeedView) (a : A) → starts program seed a → (b : TaskBody) × BodyRest program (new_task program seed) b × stands program a (result_of seed) b

  abbrev pub TellsResult : (A → Option ℕ) → Type 0
  TellsResult result = (program : ProgramView) (a : A) (r : Option ℕ) (b : TaskBody) → stands program a r b → result a ≡ r
