-- What a lone worker holds tells its part of the position.
use Rattle.std.proofs.Common.{◌≡◌, ◌∙◌, ℕ, ◌≤◌, List, sym, ap, Some, map}
use Rattle.std.specs.Prelude.{option_map}
use mathlib.Core.Option as core
use lib.ListN.{get_elem?}
use Rattle.ca_term.specs.Program.{ProgramView}
use Rattle.ca_meaning.specs.Body.{At}
use Rattle.ca_meaning.specs.Task.{TaskBody}
use Rattle.ca_states.specs.Code.{CodeView}
use Rattle.ca_turns.specs.declared.rule.View.{View}
use Rattle.ca_commit.specs.Agents.{TaskAgent}
use Rattle.ca_commit.specs.Contents.{LaneView, Parts, TimersPart}
use Rattle.ca_commit.specs.Gathered.{lane_of, parts_of, ready_of, sorted, timers_of}
use Rattle.ca_commit.proofs.Seats.{some_same}
use Rattle.ca_table.specs.Draws.{drawn_touches}
use Rattle.ca_table.specs.Running.{as_option, contents_at}
use Rattle.ca_table.specs.Seen.{HeldSeen, LaneSeen, PartSeen, content_of, held_of, lane_of_seen, seen_lane, seen_ready, seen_timers}
use Rattle.ca_table.specs.declared.drawn.Drawn.{Drawn}
use Rattle.ca_solo.specs.Positions.{Position}
use Rattle.ca_table.specs.LoneHands.{HoldsLeft, left_now}
use Rattle.ca_alone.specs.Lone.{StandsAlone}
use Rattle.ca_alone.specs.Reading.{lane_read, task_number}

module _ {A : Type 0} (v : View (PartSeen A) Drawn) where
  -- all parts, as its turns left them
  abbrev pub parts_now : Parts (TaskAgent A)
  parts_now = parts_of 1 (contents_at (left_now drawn_touches v))

  pub left_there : (i : ℕ) (c : PartSeen A) → get_elem? (left_now drawn_touches v) i ≡ core.some c → contents_at (left_now drawn_touches v) i ≡ Some (content_of c)
  left_there i c e = ap (λ o. option_map content_of (as_option o)) e

  -- the ready part is part 34
  pub ready_there : (c : PartSeen A) (q : List (ℕ × TaskAgent A)) → get_elem? (left_now drawn_touches v) 34 ≡ core.some c → c.held ≡ seen_ready q → parts_now.ready 0 ≡ Some q
  ready_there c q e is = ap (sorted ready_of) (left_there 34 c e) ∙ ap (λ (x : HeldSeen A). ready_of (held_of x)) is

  module _ (h : HoldsLeft drawn_touches v) where
    -- a part that is held lies among all parts as it was settled
    pub held_there : (i : ℕ) (c : PartSeen A) → get_elem? v.held i ≡ core.some (Some c) → contents_at (left_now drawn_touches v) i ≡ Some (content_of c)
    held_there i c e = left_there i c (h.held i c e)

    -- the lane is part 0
    pub lane_there : (c : PartSeen A) (l : LaneSeen A) → get_elem? v.held 0 ≡ core.some (Some c) → c.held ≡ seen_lane l → parts_now.lane 0 ≡ Some (lane_of_seen l)
    lane_there c l e is = ap (sorted lane_of) (held_there 0 c e) ∙ ap (λ (x : HeldSeen A). lane_of (held_of x)) is

    -- the timers are part 33
    pub timers_there : (c : PartSeen A) (t : TimersPart) → get_elem? v.held 33 ≡ core.some (Some c) → c.held ≡ seen_timers t → parts_now.timers ≡ Some t
    timers_there c t e is = ap (sorted timers_of) (held_there 33 c e) ∙ ap (λ (x : HeldSeen A). timers_of (held_of x)) is

module _ {A : Type 0} (over : CodeView → A → Type 0) (place : A → At) (stands : ProgramView → A → TaskBody → Type 0) (program : ProgramView) (code : CodeView) (v : View (PartSeen A) Drawn) (answers : List ℕ) (w : Position) (a : StandsAlone over place stands program code v answers w) where
  -- the ready part, held or not
  pub left_ready : (c : PartSeen A) (q : List (ℕ × TaskAgent A)) → get_elem? (left_now drawn_touches v) 34 ≡ core.some c → c.held ≡ seen_ready q → w.desk.ready ≡ map task_number q
  left_ready c q e is = let r = a.position.reads in r.reads.ready_is ∙ ap (map task_number) (some_same r.queue q (sym r.in_ready ∙ ready_there v c q e is))

module _ {A : Type 0} (over : CodeView → A → Type 0) (place : A → At) (stands : ProgramView → A → TaskBody → Type 0) (program : ProgramView) (code : CodeView) (v : View (PartSeen A) Drawn) (h : HoldsLeft drawn_touches v) (answers : List ℕ) (w : Position) (a : StandsAlone over place stands program code v answers w) where
  pub held_lane : (c : PartSeen A) (l : LaneSeen A) → get_elem? v.held 0 ≡ core.some (Some c) → c.held ≡ seen_lane l → w.desk.lane ≡ lane_read l.task l.since
  held_lane c l e is = let r = a.position.reads in r.reads.lane_is ∙ ap (λ (z : LaneView (TaskAgent A)). lane_read z.task z.since) (some_same r.lane (lane_of_seen l) (sym r.in_lane ∙ lane_there v h c l e is))

  pub held_ready : (c : PartSeen A) (q : List (ℕ × TaskAgent A)) → get_elem? v.held 34 ≡ core.some (Some c) → c.held ≡ seen_ready q → w.desk.ready ≡ map task_number q
  held_ready c q e is = left_ready over place stands program code v answers w a c q (h.held 34 c e) is

  pub held_timers : (c : PartSeen A) (t : TimersPart) → get_elem? v.held 33 ≡ core.some (Some c) → c.held ≡ seen_timers t → (t.deadlines ≡ w.state.deadlines) × (t.now ≡ w.state.now) × (t.now ≤ t.least)
  held_timers c t e is = a.position.run.stand.clocked t (timers_there v h c t e is)
