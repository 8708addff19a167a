-- Where the running tasks are, and what tasks that aren't there have made.
use Rattle.std.specs.Prelude.{◌≡◌, ◌⊎◌, ℕ, List, Option, Some, None}
use Rattle.ca_meaning.specs.State.{Task, Tasks, running}
use Rattle.ca_meaning.specs.Solo.{Lane}
use Rattle.ca_solo.specs.Stirs.{AmongPorts}
use Rattle.ca_solo.specs.Positions.{Position}

abbrev pub On : Option Lane → ℕ → Type 0
On None t = ⊥
On (Some lane) t = t ≡ lane.task

-- each running task is in the lane or in the ready part
abbrev pub AllSit : Tasks → Option Lane → List ℕ → Type 0
AllSit tasks lane ready = (t : ℕ) (x : Task) → tasks t ≡ Some x → x.mode ≡ running → On lane t ⊎ AmongPorts t ready

abbrev pub TasksSeated : Position → Type 0
TasksSeated w = AllSit w.state.tasks w.desk.lane w.desk.ready

-- a task that isn't there has made no alts
abbrev pub Uncounted : Position → Type 0
Uncounted w = (u : ℕ) → w.state.tasks u ≡ None → w.desk.alts u ≡ 0
