-- What an agent owes: it stands for a body, also after it went on and after it got an answer, and stays over its code.
use Rattle.std.specs.Prelude.{◌≡◌}
use Rattle.ca_value.specs.Tree.{Tree}
use Rattle.ca_term.specs.declared.place.Place.{Place}
use Rattle.ca_term.specs.Program.{ProgramView}
use Rattle.ca_term.specs.Operation.{WantView, SeedView, spawning}
use Rattle.ca_meaning.specs.Body.{At, at_op, ended, faulted}
use Rattle.ca_meaning.specs.Task.{TaskBody, body_at, body_fill, BodyRest, new_task}
use Rattle.ca_states.specs.Code.{CodeView}
use Rattle.ca_agent.specs.Seeds.{HasSeed}
use Rattle.ca_agent.specs.declared.agent.Pause.{Pause}
use Rattle.ca_agent.specs.declared.agent.Pause.TheVariants.{AtOp, Ended, Faulted}

-- the pause that an agent tells of, where it is
abbrev pub PausesAt : Pause → At → Type 0
PausesAt AtOp at = (w : WantView) × (at ≡ at_op w)
PausesAt Ended at = (v : Tree) × (at ≡ ended v)
PausesAt (Faulted f p) at = at ≡ faulted f p

module _ {A : Type 0} (stands : ProgramView → A → TaskBody → Type 0) (place : A → At) where
  -- one `advance` brings the agent to where its body stands
  abbrev pub Advanced : (ProgramView → A → A → Type 0) → Type 0
  Advanced advances = (program : ProgramView) (a c : A) (b : TaskBody) → stands program a b → advances program a c → stands program c b × (place c ≡ body_at b)

  -- an agent that got its answer stands for the body that goes on with it
  abbrev pub Answered : (A → Tree → A → Type 0) → Type 0
  Answered gives = (program : ProgramView) (a c : A) (b : TaskBody) (w : WantView) (v : Tree) → stands program a b → place a ≡ body_at b → place a ≡ at_op w → gives a v c → (d : TaskBody) × BodyRest program (body_fill v b) d × stands program c d

  -- a new agent stands for the new task's body
  abbrev pub Started : (ProgramView → SeedView → A → Type 0) → Type 0
  Started starts = (program : ProgramView) (seed : SeedView) (a : A) → starts program seed a → (b : TaskBody) × BodyRest program (new_task program seed) b × stands program a b

-- with its answer an agent is over the code that it was over
abbrev pub StaysOverCode : {A : Type 0} → (CodeView → A → Type 0) → (A → Tree → A → Type 0) → Type 0
StaysOverCode {A} over gives = (code : CodeView) (a c : A) (v : Tree) → gives a v c → over code a → over code c

-- an agent asks only for tasks that its code has
abbrev pub AsksKnownTasks : {A : Type 0} → (CodeView → A → Type 0) → (A → At) → Type 0
AsksKnownTasks {A} over place = (code : CodeView) (a : A) (seed : SeedView) (at : Place) → over code a → place a ≡ at_op (record { op = spawning seed; place = at }) → HasSeed code seed
