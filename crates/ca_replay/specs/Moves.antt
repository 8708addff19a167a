-- What becomes of a state and its tasks where a wait comes or goes.
use Rattle.std.specs.Prelude.{◌≡◌, ℕ, List, [], ◌∷◌, ◌++◌, Option, Some}
use Rattle.ca_term.specs.Event.{BranchView}
use Rattle.ca_meaning.specs.Channel.{Channel}
use Rattle.ca_meaning.specs.State.{State, Channels, Tasks}
use Rattle.ca_meaning.specs.Wait.{port_of, without}
use Rattle.ca_scene.specs.declared.task.Task.{Task as TaskCode}
use Rattle.ca_scene.specs.declared.task.Mode.{Mode}

-- each branch stands on a channel that is there
abbrev pub HaveHomes : Channels → List BranchView → Type 0
HaveHomes channels [] = Unit {0}
HaveHomes channels (b ∷ bs) = ((c : Channel) × (channels (port_of b) ≡ Some c)) × HaveHomes channels bs

-- the state with a new wait
abbrev pub with_wait : ℕ → Option ℕ → List BranchView → State → State
with_wait w owner bs s = record s { waits = s.waits ++ record { number = w; owner = owner; branches = bs } ∷ []; used = w ∷ s.used }

-- the state without the wait
abbrev pub without_wait : ℕ → State → State
without_wait w s = record s { waits = without w s.waits }

-- the state with these tasks
abbrev pub with_tasks : Tasks → State → State
with_tasks tasks s = record s { tasks = tasks }

-- the task waits on the wait
abbrev pub waiting_on : ℕ → TaskCode → TaskCode
waiting_on w x = record x { mode = Mode.Waiting w }
