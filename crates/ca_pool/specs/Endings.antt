-- The end of the lane's task, over what is carried for it.
use Rattle.std.specs.Prelude.{◌≡◌, ℕ, List, Option}
use Rattle.ca_value.specs.Tree.{Tree}
use Rattle.ca_term.specs.declared.event.Ending.{Ending}
use Rattle.ca_term.specs.declared.event.Ending.TheVariants.{Faulted}
use Rattle.ca_term.specs.declared.fault.Fault.{Fault}
use Rattle.ca_term.specs.declared.place.Place.{Place}
use Rattle.ca_term.specs.Event.{over}
use Rattle.ca_term.specs.Operation.{SeedView}
use Rattle.ca_term.specs.Program.{ProgramView}
use Rattle.ca_meaning.specs.Body.{At}
use Rattle.ca_meaning.specs.Task.{TaskBody}
use Rattle.ca_states.specs.Code.{CodeView}
use Rattle.ca_states.specs.declared.valid_code.ValidCode.{ValidCode}
use Rattle.ca_turns.specs.Hands.{TableId}
use Rattle.ca_commit.specs.Agents.{TaskAgent}
use Rattle.ca_commit.specs.Contents.{LaneView, TimersPart}
use Rattle.ca_commit.specs.Touched.{shown}
use Rattle.ca_commit.specs.declared.held.Held.{Held}
use Rattle.ca_commit.specs.declared.task.Task.{Task}
use Rattle.ca_pool.specs.AtEvent.{HasTaken}
use Rattle.ca_pool.specs.Desk.{ClockBox, SameHeld}
use Rattle.ca_pool.specs.Prepared.{HasGone}
use Rattle.ca_table.specs.Carriers.{IsMoved}
use Rattle.ca_table.specs.Carrying.{Carries}
use Rattle.ca_table.specs.DrawnEvents.{ClosesIts, Ends}
use Rattle.ca_table.specs.Halting.{KeepAll}
use Rattle.ca_table.specs.Needing.{drawn_with}
use Rattle.ca_table.specs.Seen.{PartSeen}
use Rattle.ca_table.specs.declared.part.Lane.{Lane}
use Rattle.ca_table.specs.declared.part.Part.{Part}
use Rattle.ca_table.specs.declared.worker.Worker.{Worker}

module _ {A C : Type 0} (over_code : CodeView → A → Type 0) (place : A → At) (advances : ProgramView → A → A → Type 0) (gives : A → Tree → A → Type 0) (starts : ProgramView → SeedView → A → Type 0) (seen : Part A C → PartSeen A) (code : ValidCode) where
  -- the task may end so, where it is paused, and leaves what is held as the second
  abbrev pub MayEnd : Ending → Task A → Held A → Held A → Type 0
  MayEnd ending task held held2 = (at : At) × (place task.agent ≡ at)
      × ((w n : ℕ) (h : Carries (Part A C × PartSeen A)) (lane lane2 : LaneView (TaskAgent A)) (timers timers2 : Option TimersPart) (ports looked : List ℕ) → Ends over_code place advances gives starts seen code w n h at lane lane2 timers timers2 held held2 task ports looked
      → IsMoved over_code place advances gives starts seen code n w (drawn_with w n (shown (over task.number ending)) ports looked) h)

  -- it may fault so, and close the channel of its result
  abbrev pub MayEndFaulted : Fault → Place → Task A → Held A → Type 0
  MayEndFaulted fault at task held = (held2 : Held A) → ClosesIts task held held2 → MayEnd (Faulted fault at task.result) task held held2

-- the worker has its lane, the timers for the end of the main text, and what is held as it was settled, and the task ends
pub record IsEnding {A C : Type 0} (over_code : CodeView → A → Type 0) (stands_as : ProgramView → A → TaskBody → Type 0) (place : A → At) (advances : ProgramView → A → A → Type 0) (gives : A → Tree → A → Type 0) (starts : ProgramView → SeedView → A → Type 0) (seen : Part A C → PartSeen A) (code : ValidCode) (id : TableId) (program : ProgramView) (n : ℕ) (l : Lane A)
    (clock : Option (ClockBox C)) (held held2 : Held A) (w : Worker A C) (lane : Lane A) (task : Task A) (ending : Ending) : Type 0 where
  pub carries : HasTaken over_code stands_as code id program n l seen clock held w
  pub gone : HasGone over_code advances program code l lane task
  pub same : SameHeld clock clock held held2
  pub keep : KeepAll held held2
  pub may : MayEnd over_code place advances gives starts seen code ending task held held2
