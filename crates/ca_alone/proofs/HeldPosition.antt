-- Where a lone worker's turns led to a position, what the worker holds tells more of it.
use Rattle.std.proofs.Common.{◌≡◌, ◌≢◌, ℕ, List, [], ◌∷◌, sym, subst, Option, Some, map}
use mathlib.Core.Option as core
use lib.ListN.{get_elem?}
use Rattle.ca_value.specs.Tree.{Tree}
use Rattle.ca_term.specs.Event.{EventView}
use Rattle.ca_term.specs.Operation.{SeedView, WantView}
use Rattle.ca_term.specs.Program.{ProgramView}
use Rattle.ca_meaning.specs.Body.{At, at_op}
use Rattle.ca_meaning.specs.Solo.{CanSettle}
use Rattle.ca_meaning.specs.State.{Deadline, due}
use Rattle.ca_meaning.specs.Task.{TaskBody}
use Rattle.ca_states.specs.Code.{CodeView}
use Rattle.ca_agent.specs.Agents.{Advanced}
use Rattle.ca_turns.specs.declared.rule.View.{View}
use Rattle.ca_commit.specs.Agents.{TaskAgent, advances_of, place_of, stands_of}
use Rattle.ca_commit.specs.Applying.{event_of}
use Rattle.ca_commit.specs.Contents.{Kept, Parts, TimersPart, home, whole}
use Rattle.ca_commit.specs.Deciding.{seen_in}
use Rattle.ca_commit.specs.Finding.{rests}
use Rattle.ca_commit.specs.Planning.{Planned, planned}
use Rattle.ca_commit.specs.Settling.{served_in}
use Rattle.ca_commit.specs.Showing.{channels_held}
use Rattle.ca_commit.specs.declared.held.Held.{Held}
use Rattle.ca_commit.proofs.Laid.{IsPart}
use Rattle.ca_table.specs.Draws.{drawn_touches}
use Rattle.ca_table.specs.LoneHands.{HoldsLeft, left_now}
use Rattle.ca_table.specs.OneCode.{advances_over, stands_over}
use Rattle.ca_table.specs.Seen.{LaneSeen, PartSeen, lane_of_seen, seen_lane, seen_ready, seen_timers}
use Rattle.ca_table.specs.declared.drawn.Drawn.{Drawn}
use Rattle.ca_table.proofs.Codes.{advanced_over}
use Rattle.ca_solo.specs.Positions.{Position}
use Rattle.ca_solo.specs.Stirs.{stirred}
use Rattle.ca_solo.proofs.Ticking.{first_due}
use Rattle.ca_alone.specs.OwnTurn.{IsDue}
use Rattle.ca_alone.specs.Reading.{lane_read, task_number}
use Rattle.ca_alone.specs.Schedule.{LedTo, AreTurnsRun, StandsAt}
use Rattle.ca_alone.specs.Standing.{ChoosesWell}
use Rattle.ca_alone.specs.Stirring.{HoldsDone, stirs_in}
use Rattle.ca_alone.proofs.Chosen.{planned_chooses}
use Rattle.ca_alone.proofs.HeldDesk.{held_lane, held_timers, lane_there, left_ready, parts_now}
use Rattle.ca_alone.proofs.HeldRests.{held_rests_settle_not}
use Rattle.ca_alone.proofs.HeldStirs.{held_stirs, planned_holds}
use Rattle.ca_alone.proofs.HeldWithin.{LiesIn}

module _ {A : Type 0} (over : CodeView → A → Type 0) (place : A → At) (stands : ProgramView → A → TaskBody → Type 0) (advances : ProgramView → A → A → Type 0) (gives : A → Tree → A → Type 0) (starts : ProgramView → SeedView → A → Type 0) (program : ProgramView) (code : CodeView)
    (v : View (PartSeen A) Drawn) (P : Position → Type 0) where
  abbrev Stands : (Position → Type 0) → Type 0
  Stands Q = StandsAt over place stands advances gives starts program code Q v

  stands_with : (Q : Position → Type 0) → (AreTurnsRun over place stands advances gives starts program code v → (x : LedTo over place stands advances gives starts program code P v) → Q x.at) → Stands P → Stands (λ w. P w × Q w)
  stands_with Q f s = record {
    stand = λ r. let x = s.stand r in record { answers = x.answers; at = x.at; alone = x.alone; answered = x.answered; kind = (x.kind, f r x) };
    going = s.going;
  }

  -- the lane tells whose turn it is, and how many events that task made since it was picked
  pub with_lane : HoldsLeft drawn_touches v → (c : PartSeen A) (l : LaneSeen A) → get_elem? v.held 0 ≡ core.some (Some c) → c.held ≡ seen_lane l → Stands P → Stands (λ w. P w × (w.desk.lane ≡ lane_read l.task l.since))
  with_lane h c l e is = stands_with (λ w. w.desk.lane ≡ lane_read l.task l.since) (λ r x. held_lane over place stands program code v h x.answers x.at x.alone c l e is)

  -- the ready part, which is part 34, tells who is ready, held or not
  pub with_ready : (c : PartSeen A) (q : List (ℕ × TaskAgent A)) → get_elem? (left_now drawn_touches v) 34 ≡ core.some c → c.held ≡ seen_ready q → Stands P → Stands (λ w. P w × (w.desk.ready ≡ map task_number q))
  with_ready c q e is = stands_with (λ w. w.desk.ready ≡ map task_number q) (λ r x. left_ready over place stands program code v x.answers x.at x.alone c q e is)

  -- the timers tell the open deadlines
  pub with_timers : HoldsLeft drawn_touches v → (c : PartSeen A) (t : TimersPart) → get_elem? v.held 33 ≡ core.some (Some c) → c.held ≡ seen_timers t → Stands P → Stands (λ w. P w × (w.state.deadlines ≡ t.deadlines))
  with_timers h c t e is = stands_with (λ w. w.state.deadlines ≡ t.deadlines) (λ r x. sym (held_timers over place stands program code v h x.answers x.at x.alone c t e is).0)

  -- a channel that is held and at rest can't settle
  pub with_rest : (held : Held A) (p : ℕ) (f : ℕ → Option Kept) → LiesIn held (parts_now v) → channels_held held.banks (home p) ≡ Some f → served_in held p ≡ rests → Stands P → Stands (λ w. P w × (CanSettle w.state p → ⊥))
  with_rest held p f l bank e = stands_with (λ w. CanSettle w.state p → ⊥) (λ r x. held_rests_settle_not (place_of place) (stands_of (stands_over over code stands)) program 1 held (parts_now v) x.at.state p f x.alone.position.run.stand l bank e)

  -- channels that lie so among all parts tell which of them the event may bring to settle
  pub with_stirred : (old : Parts (TaskAgent A)) (e : EventView) → IsPart old (parts_now v) → HoldsDone old.bank e → Stands P → Stands (λ w. P w × (stirred w.state e ≡ stirs_in (whole old.bank) e))
  with_stirred old e l there = stands_with (λ w. stirred w.state e ≡ stirs_in (whole old.bank) e) (λ r x. held_stirs (place_of place) (stands_of (stands_over over code stands)) program 1 (parts_now v) x.at.state x.alone.position.run.stand old.bank l.banks e there)

  -- .. where it is that of a plan over such parts
  pub with_plan_stirred : (old : Parts (TaskAgent A)) (want : WantView) (start t u p w m : ℕ) (q : Planned) (e : EventView) → IsPart old (parts_now v) → q ≡ planned (seen_in old) want.op start → e ≡ event_of old.bank old.registry t u p w m q → Stands P → Stands (λ w. P w × (stirred w.state e ≡ stirs_in (whole old.bank) e))
  with_plan_stirred old want start t u p w m q e l is came = with_stirred old e l (subst (HoldsDone old.bank) (sym came) (planned_holds old want.op start t u p w m q is))

  -- the event of a plan over such parts takes the branch that the schedule chooses
  pub with_choice : Advanced stands place advances → HoldsLeft drawn_touches v → (c : PartSeen A) (l : LaneSeen A) (old : Parts (TaskAgent A)) (t : ℕ) (agent a : TaskAgent A) (want : WantView) (u p w m : ℕ) (q : Planned) (e : EventView) → get_elem? v.held 0 ≡ core.some (Some c) → c.held ≡ seen_lane l → l.task ≡ Some (t, agent)
      → advances_of (advances_over over code advances) program agent a → IsPart old (parts_now v) → place a.agent ≡ at_op want → q ≡ planned (seen_in old) want.op a.alts → e ≡ event_of old.bank old.registry t u p w m q → Stands P → Stands (λ w. P w × ChoosesWell w.state w.desk e)
  with_choice law h c l old t agent a want u p w m q e at is task advanced within paused plan came = stands_with (λ w. ChoosesWell w.state w.desk e)
      (λ r x. subst (ChoosesWell x.at.state x.at.desk) (sym came) (planned_chooses place (stands_over over code stands) (advances_over over code advances) (advanced_over over code place stands advances law) program (parts_now v) x.at.state x.alone.position.run.stand x.at.desk x.alone.position.reads old within
      (lane_of_seen l) (lane_there v h c l at is) t agent a task advanced want paused u p w m q plan))

-- a Tick is due where the clock's answer isn't before the first deadline
pub due_some : (ds : List Deadline) (m : ℕ) → IsDue ds m → due m ds ≢ []
due_some [] m d = absurd d
due_some (x ∷ ds) m d = first_due m x ds d
