-- The worker may draw the end of its task.
use Rattle.std.proofs.Common.{ℕ, List, refl, Some, Option}
use Rattle.ca_value.specs.Tree.{Tree}
use Rattle.ca_term.specs.declared.event.Ending.TheVariants.{Ended, Faulted}
use Rattle.ca_term.specs.Event.{EventView, over}
use Rattle.ca_term.specs.Operation.{SeedView}
use Rattle.ca_term.specs.Program.{ProgramView}
use Rattle.ca_meaning.specs.Body.{At, at_op, ended, faulted}
use Rattle.ca_commit.specs.Agents.{TaskAgent}
use Rattle.ca_commit.specs.Contents.{LaneView, TimersPart}
use Rattle.ca_commit.specs.Moving.{MovesTurn}
use Rattle.ca_commit.specs.Touched.{shown}
use Rattle.ca_commit.specs.declared.held.Held.{Held}
use Rattle.ca_commit.specs.declared.task.Task.{Task}
use Rattle.ca_states.specs.Code.{CodeView}
use Rattle.ca_states.specs.ValidCode.{valid_code}
use Rattle.ca_states.specs.declared.valid_code.ValidCode.{ValidCode}
use Rattle.ca_table.specs.OneCode.{advances_over, gives_over, starts_over}
use Rattle.ca_table.specs.Bearing.{Bears, parts_held}
use Rattle.ca_table.specs.Carriers.{IsMoved, is_now, was}
use Rattle.ca_table.specs.Carrying.{Carries}
use Rattle.ca_table.specs.Covering.{Covers}
use Rattle.ca_table.specs.DrawnEvents.{Ends, EndsDraw, FaultsDraw, RefusalsDraw}
use Rattle.ca_table.specs.Needing.{drawn_with}
use Rattle.ca_table.specs.Seen.{PartSeen}
use Rattle.ca_table.specs.declared.part.Part.{Part}
use Rattle.ca_table.proofs.Bearing.{both_carried}
use Rattle.ca_table.proofs.Halted.{end_covers, ended_turns, fault_covers, faulted_turns, refused_turns}
use Rattle.ca_table.proofs.MadeOf.{all_alike, bears}

module _ {A C : Type 0} (over_code : CodeView → A → Type 0) (place : A → At) (advances : ProgramView → A → A → Type 0) (gives : A → Tree → A → Type 0) (starts : ProgramView → SeedView → A → Type 0) (seen : Part A C → PartSeen A) (code : ValidCode) where
  ends_by : (w n : ℕ) (h : Carries (Part A C × PartSeen A)) (at : At) (lane lane2 : LaneView (TaskAgent A)) (timers timers2 : Option TimersPart) (held held2 : Held A) (task : Task A) (ports looked : List ℕ) (x : Ends over_code place advances gives starts seen code w n h at lane lane2 timers timers2 held held2 task ports looked) (e : EventView)
      → (Bears was w h (Some lane) timers held → Covers (drawn_with w n (shown e) ports looked) h) → MovesTurn place (advances_over over_code (valid_code code) advances) (gives_over over_code (valid_code code) gives) (starts_over over_code (valid_code code) starts) w n (shown e) (parts_held w (Some lane) timers held) (parts_held w (Some lane2) timers2 held2)
      → IsMoved over_code place advances gives starts seen code n w (drawn_with w n (shown e) ports looked) h
  ends_by w n h at lane lane2 timers timers2 held held2 task ports looked x e covers turns =
      let a = bears n w was h (Some lane) timers held x.turned.before in
      let b = bears n w (is_now seen) h (Some lane2) timers2 held2 x.turned.after in
      record {
        by = refl;
        of = refl;
        covers = covers a;
        alike = all_alike n w was (is_now seen) h (Some lane) (Some lane2) timers timers2 held held2 x.turned.before x.turned.after;
        moves = both_carried was (is_now seen) w h (Some lane) (Some lane2) timers timers2 held held2 a b (MovesTurn place (advances_over over_code (valid_code code) advances) (gives_over over_code (valid_code code) gives) (starts_over over_code (valid_code code) starts) w n (shown e)) turns;
      }

  pub ends_draw : EndsDraw over_code place advances gives starts seen code
  ends_draw w n h v lane lane2 timers timers2 held held2 task ports looked x same = ends_by w n h (ended v) lane lane2 timers timers2 held held2 task ports looked x (over task.number Ended)
      (λ a. end_covers was w n h lane timers held a task.number ports looked x.brings)
      (ended_turns place (advances_over over_code (valid_code code) advances) (gives_over over_code (valid_code code) gives) (starts_over over_code (valid_code code) starts) w n lane lane2 timers timers2 held held2 task x.marks x.keep v x.leaves same)

  pub faults_draw : FaultsDraw over_code place advances gives starts seen code
  faults_draw w n h f at lane lane2 timers timers2 held held2 task ports looked x closes = ends_by w n h (faulted f at) lane lane2 timers timers2 held held2 task ports looked x (over task.number (Faulted f at task.result))
      (λ a. fault_covers was w n h lane timers held a task.number f at task.result ports looked closes.held x.brings)
      (faulted_turns place (advances_over over_code (valid_code code) advances) (gives_over over_code (valid_code code) gives) (starts_over over_code (valid_code code) starts) w n lane lane2 timers timers2 held held2 task x.marks x.keep f at x.leaves closes.held closes.banks)

  pub refusals_draw : RefusalsDraw over_code place advances gives starts seen code
  refusals_draw w n h f lane lane2 timers timers2 held held2 task ports looked plan named x closes = ends_by w n h (at_op plan.0) lane lane2 timers timers2 held held2 task ports looked x (over task.number (Faulted f plan.0.place task.result))
      (λ a. fault_covers was w n h lane timers held a task.number f plan.0.place task.result ports looked closes.held x.brings)
      (refused_turns place (advances_over over_code (valid_code code) advances) (gives_over over_code (valid_code code) gives) (starts_over over_code (valid_code code) starts) w n lane lane2 timers timers2 held held2 task x.marks x.keep f plan named x.leaves closes.held closes.banks)
