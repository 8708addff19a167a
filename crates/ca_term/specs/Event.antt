-- The events of a run, as plain data. Tasks, ports and waits are numbers.
use Rattle.std.specs.Prelude.{ℕ, List, Option, option_map, map}
use Rattle.ca_value.specs.Seq.{list}
use Rattle.ca_value.specs.Tree.{Tree, Trees}
use Rattle.ca_value.specs.View.{view, trees}
use Rattle.ca_value.specs.declared.value.PortId.{PortId}
use Rattle.ca_term.specs.declared.head.RegisterName.{RegisterName}
use Rattle.ca_term.specs.declared.event.TaskKind.{TaskKind}
use Rattle.ca_term.specs.declared.event.Side.{Side}
use Rattle.ca_term.specs.declared.event.Branch.{Branch}
use Rattle.ca_term.specs.declared.event.Ending.{Ending}
use Rattle.ca_term.specs.declared.event.Event.{Event}
use Rattle.ca_term.specs.Operation.{WhatView, what_view}

-- one operation of a wait: a take from a channel, or a put of a value into it
pub data BranchView : Type 0 where
  take_of : ℕ → BranchView
  put_of : ℕ → Tree → BranchView

abbrev pub branch_view : Branch → BranchView
branch_view (Branch.Take port) = take_of port.n
branch_view (Branch.Put port value) = put_of port.n (view value)

pub data EventView : Type 0 where
  -- the task, the new port, what is there, and the moment of a timeout's making
  made : ℕ → ℕ → WhatView → Option ℕ → EventView
  -- the task, the new task, its kind, and its result port
  spawned : ℕ → ℕ → TaskKind → Option ℕ → EventView
  -- the task, the number of the branch, the branch, and the answer
  done : ℕ → ℕ → BranchView → Tree → EventView
  -- the task, the number of its branch, that branch's side and channel, the value that passes, the
  -- wait that is met, and the number of its branch
  met : ℕ → ℕ → Side → ℕ → Tree → ℕ → ℕ → EventView
  -- the task, the new wait, and its branches
  parked : ℕ → ℕ → List BranchView → EventView
  -- the task, the new wait, the channel and the value
  posted : ℕ → ℕ → ℕ → Tree → EventView
  -- the wait, the number of its branch, that branch's side and channel, and the value
  settled : ℕ → ℕ → Side → ℕ → Tree → EventView
  -- the task, and the default
  defaulted : ℕ → Tree → EventView
  -- the task, and the channel
  closed : ℕ → ℕ → EventView
  -- the task, the operation's name, its arguments, and the answer
  registered : ℕ → RegisterName → Trees → Tree → EventView
  -- the task, and the line
  printed : ℕ → List ℕ → EventView
  -- the moment, and the channels that are due
  ticked : ℕ → List ℕ → EventView
  -- the task, and how it is over
  over : ℕ → Ending → EventView

abbrev pub port_number : PortId → ℕ
port_number p = p.n

abbrev pub event_view : Event → EventView
event_view (Event.Make task port what moment) = made task port.n (what_view what) moment
event_view (Event.Spawn task spawned' kind result) = spawned task spawned' kind (option_map port_number result)
event_view (Event.Done task branch operation answer) = done task branch (branch_view operation) (view answer)
event_view (Event.Meet task branch side port value wait other) = met task branch side port.n (view value) wait.n other
event_view (Event.Park task wait branches) = parked task wait.n (map branch_view (list branches))
event_view (Event.Post task wait port value) = posted task wait.n port.n (view value)
event_view (Event.Settle wait branch side port value) = settled wait.n branch side port.n (view value)
event_view (Event.Default task value) = defaulted task (view value)
event_view (Event.Close task port) = closed task port.n
event_view (Event.Register task name arguments answer) = registered task name (trees (list arguments)) (view answer)
event_view (Event.Print task line) = printed task (list line)
event_view (Event.Tick moment ports) = ticked moment (map port_number (list ports))
event_view (Event.End task ending) = over task ending
