-- How a task stands at an operation, and how it goes on.
use Rattle.std.specs.Prelude.{◌≡◌, ℕ, Option, Some, None}
use Rattle.std.specs.Map.{update}
use Rattle.std.proofs.Math.Dec.{eqb}
use Rattle.ca_value.specs.Tree.{Tree}
use Rattle.ca_term.specs.declared.place.Place.{Place}
use Rattle.ca_term.specs.Operation.{OpView}
use Rattle.ca_term.specs.Program.{ProgramView}
use Rattle.ca_meaning.specs.Body.{at_op}
use Rattle.ca_meaning.specs.Task.{TaskBody, body_at, body_fill, BodyRest, body_reply}
use Rattle.ca_meaning.specs.State.{State, Task, Tasks, running, waiting, runs}
use Rattle.ca_meaning.specs.Refusal.{refusal}

-- task t, which is x, runs
abbrev pub Runs : Tasks → ℕ → Task → Type 0
Runs tasks t x = (tasks t ≡ Some x) × (x.mode ≡ running)

-- the body stands at the operation
abbrev pub IsAtOp : TaskBody → OpView → Type 0
IsAtOp b op = (p : Place) × (body_at b ≡ at_op (record { op = op; place = p }))

-- task t, which is x, runs, stands at the operation and doesn't fault there
abbrev pub RunsAtOperation : State → ℕ → OpView → Task → Type 0
RunsAtOperation s t op x = (s.tasks t ≡ Some x) × (x.mode ≡ running) × IsAtOp x.body op × (refusal s op ≡ None)

-- the tasks after task t, which was x, got the answer and went on
abbrev pub Goes : ProgramView → Tasks → ℕ → Task → Tree → Tasks → Type 0
Goes program tasks t x answer after = (b : TaskBody) × BodyRest program (body_fill answer x.body) b × (after ≡ update eqb tasks t (Some (runs x.result b)))

-- the tasks after the wait w, which has this owner or none, was completed on channel p with the answer
abbrev pub Wakes : ProgramView → Option ℕ → Tasks → ℕ → ℕ → Tree → Tasks → Type 0
Wakes program None tasks w p answer after = after ≡ tasks
Wakes program (Some u) tasks w p answer after =
    (x : Task) × (tasks u ≡ Some x) × (x.mode ≡ waiting w) × Goes program tasks u x (body_reply x.body p answer) after
