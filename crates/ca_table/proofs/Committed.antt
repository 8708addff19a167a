-- An event of a plan that was applied to what a worker carries: the worker may draw it.
use Rattle.std.proofs.Common.{◌≡◌, ◌∙◌, ℕ, List, refl, sym, ap, subst, Option, Some}
use Rattle.ca_value.specs.Tree.{Tree}
use Rattle.ca_term.specs.Event.{EventView}
use Rattle.ca_term.specs.Operation.{SeedView}
use Rattle.ca_term.specs.Program.{ProgramView}
use Rattle.ca_meaning.specs.Body.{At}
use Rattle.ca_commit.specs.Agents.{TaskAgent}
use Rattle.ca_commit.specs.Applying.{event_of, number_of}
use Rattle.ca_commit.specs.Contents.{Content, LaneView, Parts, TimersPart}
use Rattle.ca_commit.specs.Moving.{MovesTurn}
use Rattle.ca_commit.specs.PlanMoves.{IsApplied, TimesTo}
use Rattle.ca_commit.specs.Planning.{Planned}
use Rattle.ca_commit.specs.Showing.{channels_held, registries_held}
use Rattle.ca_commit.specs.Touched.{shown}
use Rattle.ca_commit.specs.declared.held.Held.{Held}
use Rattle.ca_commit.specs.declared.task.Task.{Task}
use Rattle.ca_states.specs.Code.{CodeView}
use Rattle.ca_states.specs.ValidCode.{valid_code}
use Rattle.ca_states.specs.declared.valid_code.ValidCode.{ValidCode}
use Rattle.ca_table.specs.OneCode.{advances_over, gives_over, starts_over}
use Rattle.ca_table.specs.Bearing.{Bears}
use Rattle.ca_table.specs.Carriers.{IsMoved, is_now, was}
use Rattle.ca_table.specs.Carrying.{Carries, carried}
use Rattle.ca_table.specs.Committing.{IsDone, IsPlanDue}
use Rattle.ca_table.specs.Covering.{Covers}
use Rattle.ca_table.specs.DrawnEvents.{IsTurned}
use Rattle.ca_table.specs.Needing.{Brings, drawn_with, needs_ready, needs_timers, own_if}
use Rattle.ca_table.specs.Seen.{PartSeen}
use Rattle.ca_table.specs.declared.part.Part.{Part}
use Rattle.ca_table.proofs.Applied.{applied}
use Rattle.ca_table.proofs.Bearing.{both_carried, carried_is}
use Rattle.ca_table.proofs.MadeOf.{all_alike, bears}
use Rattle.ca_table.proofs.PlanCovered.{plan_covers, plan_turns}

module _ {A X : Type 0} (place : A → At) (advances : ProgramView → A → A → Type 0) (gives : A → Tree → A → Type 0) (starts : ProgramView → SeedView → A → Type 0) (f g : X → Content (TaskAgent A))
    (w n : ℕ) (q : Planned) (lane lane2 : LaneView (TaskAgent A)) (timers timers2 : Option TimersPart) (held held2 : Held A) (task : Task A) (spawned running : Option (Task A)) (h : Carries X)
    (was : Bears f w h (Some lane) timers held) (is : Bears g w h (Some lane2) timers2 held2) (due : IsPlanDue place advances gives starts w n q lane held task spawned) (did : IsDone place advances gives starts q lane lane2 held held2 task spawned running) (times : TimesTo held.new_port held.moment q timers timers2)
    (e : EventView) (event : e ≡ event_of (channels_held held.banks) (registries_held held.banks) task.number (number_of spawned) held.new_port held.new_wait held.moment q) where
  abbrev Applied : Parts (TaskAgent A) → Parts (TaskAgent A) → Type 0
  Applied = IsApplied place advances gives starts w n task.number (number_of spawned) held.new_port held.new_wait held.moment q

  abbrev event_over : Parts (TaskAgent A) → EventView
  event_over old = event_of old.bank old.registry task.number (number_of spawned) held.new_port held.new_wait held.moment q

  is_applied : Applied (carried f w h) (carried g w h)
  is_applied = both_carried f g w h (Some lane) (Some lane2) timers timers2 held held2 was is Applied (applied place advances gives starts w n q lane lane2 timers timers2 held held2 task spawned running due did times)

  is_event : event_over (carried f w h) ≡ e
  is_event = ap event_over (carried_is f w h (Some lane) timers held was) ∙ sym event

  pub commit_covers : (ports looked : List ℕ) → Brings ports looked (needs_timers q) (own_if (needs_ready q) w) h → Covers (drawn_with w n (shown e) ports looked) h
  commit_covers ports looked brings = subst (λ (e : EventView). Covers (drawn_with w n (shown e) ports looked) h) is_event
      (plan_covers place advances gives starts f g w n task.number (number_of spawned) held.new_port held.new_wait held.moment q h is_applied ports looked brings)

  pub commit_turns : MovesTurn place advances gives starts w n (shown e) (carried f w h) (carried g w h)
  commit_turns = subst (λ (e : EventView). MovesTurn place advances gives starts w n (shown e) (carried f w h) (carried g w h)) is_event
      (plan_turns place advances gives starts f g w n task.number (number_of spawned) held.new_port held.new_wait held.moment q h is_applied)

-- so it draws the event
pub commit_moved : {A C : Type 0} (over_code : CodeView → A → Type 0) (place : A → At) (advances : ProgramView → A → A → Type 0) (gives : A → Tree → A → Type 0) (starts : ProgramView → SeedView → A → Type 0) (seen : Part A C → PartSeen A) (code : ValidCode)
    (w n : ℕ) (q : Planned) (lane lane2 : LaneView (TaskAgent A)) (timers timers2 : Option TimersPart) (held held2 : Held A) (task : Task A) (spawned running : Option (Task A)) (h : Carries (Part A C × PartSeen A))
    → IsTurned seen w n h (Some lane) (Some lane2) timers timers2 held held2 → IsPlanDue place (advances_over over_code (valid_code code) advances) (gives_over over_code (valid_code code) gives) (starts_over over_code (valid_code code) starts) w n q lane held task spawned → IsDone place (advances_over over_code (valid_code code) advances) (gives_over over_code (valid_code code) gives) (starts_over over_code (valid_code code) starts) q lane lane2 held held2 task spawned running → TimesTo held.new_port held.moment q timers timers2
    → (e : EventView) → e ≡ event_of (channels_held held.banks) (registries_held held.banks) task.number (number_of spawned) held.new_port held.new_wait held.moment q
    → (ports looked : List ℕ) → Brings ports looked (needs_timers q) (own_if (needs_ready q) w) h → IsMoved over_code place advances gives starts seen code n w (drawn_with w n (shown e) ports looked) h
commit_moved over_code place advances gives starts seen code w n q lane lane2 timers timers2 held held2 task spawned running h t due did times e event ports looked brings =
    let a = bears n w was h (Some lane) timers held t.before in
    let b = bears n w (is_now seen) h (Some lane2) timers2 held2 t.after in
    record {
      by = refl;
      of = refl;
      covers = commit_covers place (advances_over over_code (valid_code code) advances) (gives_over over_code (valid_code code) gives) (starts_over over_code (valid_code code) starts) was (is_now seen) w n q lane lane2 timers timers2 held held2 task spawned running h a b due did times e event ports looked brings;
      alike = all_alike n w was (is_now seen) h (Some lane) (Some lane2) timers timers2 held held2 t.before t.after;
      moves = commit_turns place (advances_over over_code (valid_code code) advances) (gives_over over_code (valid_code code) gives) (starts_over over_code (valid_code code) starts) was (is_now seen) w n q lane lane2 timers timers2 held held2 task spawned running h a b due did times e event;
    }
