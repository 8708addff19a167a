-- How a lone worker that asks the clock, or waits for it, goes on in the schedule.
use Rattle.std.proofs.Common.{◌≡◌, ◌∙◌, inr, ℕ, ◌+◌, ◌<◌, ◌≤◌, List, [], ◌∷◌, refl, sym, ap, subst, arith, Option, Some, None}
use Rattle.std.specs.Prelude.{option_map, slice_get}
use mathlib.Core.Option as core
use lib.ListN.{get_elem?}
use Rattle.ca_value.specs.Deadlines.{Deadline, due}
use Rattle.ca_value.specs.Tree.{Tree}
use Rattle.ca_term.specs.Event.{ticked}
use Rattle.ca_term.specs.Operation.{SeedView}
use Rattle.ca_term.specs.Program.{ProgramView, program_view}
use Rattle.ca_meaning.specs.Body.{At}
use Rattle.ca_meaning.specs.Task.{TaskBody}
use Rattle.ca_states.specs.Code.{CodeView}
use Rattle.ca_states.specs.ValidCode.{valid_code}
use Rattle.ca_states.specs.declared.valid_code.ValidCode.{ValidCode}
use Rattle.ca_agent.specs.Agents.{Advanced, Answered, Started}
use Rattle.ca_turns.specs.Hands.{TableId}
use Rattle.ca_turns.specs.declared.rule.View.{View}
use Rattle.ca_commit.specs.Contents.{TimersPart}
use Rattle.ca_commit.specs.Gathered.{sorted, timers_of}
use Rattle.ca_commit.specs.Touched as said
use Rattle.ca_commit.specs.declared.held.Held.{Held}
use Rattle.ca_table.specs.Carriers.{IsCarrying}
use Rattle.ca_table.specs.Carrying.{timers_place}
use Rattle.ca_table.specs.Draws.{drawn_touches}
use Rattle.ca_table.specs.Grips.{SameHand}
use Rattle.ca_table.specs.LoneHands.{DrewTurn, HoldsLeft, left_now}
use Rattle.ca_table.specs.Parts.{part_away, clockwork_seen, part_seen}
use Rattle.ca_table.specs.Seen.{HeldSeen, PartSeen, held_of, seen_timers}
use Rattle.ca_table.specs.Workers.{SameWorker}
use Rattle.ca_table.specs.declared.drawn.Drawn.{Drawn}
use Rattle.ca_table.specs.declared.part.Contents.TheVariants as V
use Rattle.ca_table.specs.declared.part.Lane.{Lane}
use Rattle.ca_table.specs.declared.worker.Worker.{Worker}
use Rattle.ca_solo.specs.Positions.{HasUsed, Position}
use Rattle.ca_solo.specs.Stirs.{Ordered}
use Rattle.ca_alone.specs.OwnTurn.{IsDue, IsEarly}
use Rattle.ca_alone.specs.Schedule.{AtEmpty, AtPicked, Follow, MaySettle, MayTick, StandsAt, to_rest, to_turn}
use Rattle.ca_alone.proofs.HeldDesk.{left_there, parts_now, timers_there}
use Rattle.ca_alone.proofs.HeldPosition.{with_timers}
use Rattle.ca_alone.proofs.HeldWithin.{carried_settled}
use Rattle.ca_alone.proofs.Leading as leading
use Rattle.ca_alone.proofs.Standings as standings
use Rattle.ca_pool.specs.Asking.{IsAsked, IsFirstMoment}
use Rattle.ca_pool.specs.Desk.{ClockBox, settled_as, desk_taken}
use Rattle.ca_pool.specs.Lone.{HasAsked, IsLone, LoneAt, LoneStopped, MayGo, Stayed, Went}
use Rattle.ca_pool.specs.declared.clock.Asked.{Asked}
use Rattle.ca_pool.specs.declared.clock.Asked.TheVariants.{Ticked}
use Rattle.ca_pool.proofs.AllParts.{some_same}
use Rattle.ca_pool.proofs.Lone as lone
use Rattle.ca_pool.proofs.Ranges.{did_none}

pub stayed_none : {A C : Type 0} (w : Worker A C) → Stayed w w
stayed_none w = let d = did_none w in lone.stayed_same d.same d.turns

-- The first deadline.
-- the clock's answer is before it, or isn't
pub is_early : (first m : ℕ) (ds : List Deadline) → IsFirstMoment first ds → m < first → IsEarly ds m
is_early first m [] e lt = absurd (let k : None ≡ Some first = e in cc)
is_early first m (d ∷ ds) e lt = let k : d.moment ≡ first = some_same d.moment first e in omega (arith, k, lt)

pub is_due : (first m : ℕ) (ds : List Deadline) → IsFirstMoment first ds → first ≤ m → IsDue ds m
is_due first m [] e le = absurd (let k : None ≡ Some first = e in cc)
is_due first m (d ∷ ds) e le = let k : d.moment ≡ first = some_same d.moment first e in omega (arith, k, le)

-- there is none
pub none_open : (ds : List Deadline) → option_map (λ (d : Deadline). d.moment) (slice_get ds 0) ≡ None → ds ≡ []
none_open [] e = refl
none_open (d ∷ ds) e = absurd (let k : Some d.moment ≡ None = e in cc)

-- the timers, which are part 33, as the turns left them
timers_left : {A : Type 0} (v : View (PartSeen A) Drawn) (c : PartSeen A) (t : TimersPart) → get_elem? (left_now drawn_touches v) 33 ≡ core.some c → c.held ≡ seen_timers t → (parts_now v).timers ≡ Some t
timers_left {A} v c t e is = ap (sorted timers_of) (left_there v 33 c e) ∙ ap (λ (x : HeldSeen A). timers_of (held_of x)) is

module _ {A C : Type 0} (over : CodeView → A → Type 0) (place : A → At) (stands_as : ProgramView → A → TaskBody → Type 0) (advances : ProgramView → A → A → Type 0) (gives : A → Tree → A → Type 0) (starts : ProgramView → SeedView → A → Type 0)
    (advance_law : Advanced stands_as place advances) (answer_law : Answered stands_as place gives) (start_law : Started stands_as place starts) (code : ValidCode) where
  abbrev Stands : (Position → Type 0) → Worker A C → Type 0
  Stands P w = LoneAt over place stands_as advances gives starts code P w

  abbrev May : (Position → Type 0) → ℕ → Worker A C → Type 0
  May P most w = MayGo over place stands_as advances gives starts code P most w

  abbrev Gone : (Position → Type 0) → ℕ → Worker A C → Type 0
  Gone P most w = Went over place stands_as advances gives starts code P most w

  abbrev Stops : ℕ → Worker A C → Type 0
  Stops most w = LoneStopped over place stands_as advances gives starts code most w

  -- nobody is ready, and nothing was drawn
  pub rests_empty : (us : List ℕ) {most : ℕ} {w : Worker A C} → May AtEmpty most w → Gone (MaySettle to_rest us) most w
  rests_empty us {most} {w} m = record {
    at = lone.lone_as over place stands_as advances gives starts advance_law answer_law start_law code {P = AtEmpty} {Q = MaySettle to_rest us} {w = w} (λ x e. (e.0.1, inr e.0.0)) m.at;
    stopped = lone.may_stop over place stands_as advances gives starts advance_law answer_law start_law code {P = AtEmpty} {most = most} {w = w} (λ x e. subst HasUsed (sym e.0.0) tt) m;
  }

  -- the run's mark was found set, after a pick
  pub stops_picked : {most : ℕ} {w : Worker A C} → May AtPicked most w → Stops most w
  stops_picked {most} {w} m = lone.may_stop over place stands_as advances gives starts advance_law answer_law start_law code {P = AtPicked} {most = most} {w = w} (λ x e. subst HasUsed (sym e.0) tt) m

  -- nothing closed
  pub none_closed : (us : List ℕ) {w : Worker A C} → us ≡ [] → Stands (MaySettle to_turn []) w → Stands (MaySettle to_turn us) w
  none_closed us {w} e s = subst (λ (xs : List ℕ). Stands (MaySettle to_turn xs) w) (sym e) s

  -- a tick came
  abbrev pub HasTicked : Follow → List ℕ → ℕ → Asked → Worker A C → Type 0
  HasTicked k us most a w = (cost : ℕ) × (a ≡ Ticked cost) × Gone (MaySettle k us) most w

  pub ticked_asked : (us : List ℕ) (most : ℕ) (a : Asked) (w : Worker A C) → HasTicked to_turn us most a w → HasAsked over place stands_as advances gives starts code us most a w
  ticked_asked us most a w t = subst (λ (x : Asked). HasAsked over place stands_as advances gives starts code us most x w) (sym t.1) t.2

  module _ (least faults : C → ℕ) (readings : C → Option (List ℕ)) (id : TableId) (program : ProgramView) (n : ℕ) (l : Lane A) (clock : ClockBox C) (held : Held A) (w : Worker A C)
      (alone : IsLone w) (s : IsCarrying over stands_as program code id n w (desk_taken (part_seen least faults readings) n code w.number l (Some clock) held)) where
    abbrev shown : TimersPart
    shown = clockwork_seen least faults readings clock.value

    one : n ≡ 1
    one = sym s.one.of ∙ alone.0

    left : HoldsLeft drawn_touches w.hand.view
    left = s.one.left alone.1

    -- the timers, as they were settled
    abbrev settled : ClockBox C → PartSeen A
    settled c = settled_as (part_seen least faults readings) 1 code (V.Timers c)

    lies : get_elem? w.hand.view.held 33 ≡ core.some (Some (settled clock))
    lies = carried_settled over stands_as program code id w (desk_taken (part_seen least faults readings) 1 code w.number l (Some clock) held)
        (subst (λ (m : ℕ). IsCarrying over stands_as program code id m w (desk_taken (part_seen least faults readings) m code w.number l (Some clock) held)) one s) timers_place (part_away 1 code, settled clock) tt refl

    was : (parts_now w.hand.view).timers ≡ Some shown
    was = timers_there w.hand.view left (settled clock) shown lies refl

    abbrev Here : ProgramView → (Position → Type 0) → View (PartSeen A) Drawn → Type 0
    Here p P v = StandsAt over place stands_as advances gives starts p (valid_code code) P v

    dated : {P : Position → Type 0} (p : ProgramView) → Here p P w.hand.view → Here p (λ x. P x × (x.state.deadlines ≡ clock.value.timers.deadlines)) w.hand.view
    dated {P} p at = with_timers over place stands_as advances gives starts p (valid_code code) w.hand.view P left (settled clock) shown lies refl at

    -- no deadline is open
    pub untimed_lone : clock.value.timers.deadlines ≡ [] → Stands AtPicked w → Stands (MaySettle to_turn []) w
    untimed_lone none at = record {
      lone = at.lone;
      at = standings.untimed over place stands_as advances gives starts advance_law answer_law start_law (program_view w.program.value) (valid_code code) w.hand.view
          (standings.stands_as over place stands_as advances gives starts advance_law answer_law start_law (program_view w.program.value) (valid_code code) {P = λ x. AtPicked x × (x.state.deadlines ≡ clock.value.timers.deadlines)} {Q = λ x. AtPicked x × (x.state.deadlines ≡ [])} w.hand.view
          (λ x e. (e.0, e.1 ∙ none)) (dated {P = AtPicked} (program_view w.program.value) at.at));
    }

    -- the clock's answer is before the first deadline
    pub reads_lone : (new : Worker A C) (clock2 : ClockBox C) (m : ℕ) → IsAsked m shown (clockwork_seen least faults readings clock2.value) → IsEarly clock.value.timers.deadlines m → SameWorker w new → SameHand w.hand new.hand → DrewTurn said.asks_clock w.hand.view new.hand.view
        → get_elem? (left_now drawn_touches new.hand.view) (n + 32) ≡ core.some (settled_as (part_seen least faults readings) n code (V.Timers clock2)) → Stands AtPicked w → Stands (MaySettle to_turn []) new
    reads_lone new clock2 m asked early same hand turn is at = lone.lone_by over place stands_as advances gives starts advance_law answer_law start_law code {P = AtPicked} {Q = MaySettle to_turn []} {old = w} {new = new} same hand
        (λ p here. leading.reads over place stands_as advances gives starts advance_law answer_law start_law p (valid_code code) w.hand.view new.hand.view m
        (standings.stands_as over place stands_as advances gives starts advance_law answer_law start_law p (valid_code code) {P = λ x. AtPicked x × (x.state.deadlines ≡ clock.value.timers.deadlines)} {Q = λ x. AtPicked x × IsEarly x.state.deadlines m} w.hand.view
        (λ x e. (e.0, subst (λ (ds : List Deadline). IsEarly ds m) (sym e.1) early)) (dated {P = AtPicked} p here))
        turn (λ r c e. ap (λ (t : TimersPart). t.least) (some_same c (clockwork_seen least faults readings clock2.value) (sym e ∙ now)) ∙ asked.least)) at where
          now : (parts_now new.hand.view).timers ≡ Some (clockwork_seen least faults readings clock2.value)
          now = timers_left new.hand.view (settled clock2) (clockwork_seen least faults readings clock2.value) (subst (λ (k : ℕ). get_elem? (left_now drawn_touches new.hand.view) (k + 32) ≡ core.some (settled_as (part_seen least faults readings) k code (V.Timers clock2))) one is) refl

    -- it isn't, and the tick comes
    pub ticks_lone : (new : Worker A C) (k : Follow) (us : List ℕ) (most m : ℕ) (c1 : TimersPart) → IsAsked m shown c1 → IsDue c1.deadlines m → Ordered (due m c1.deadlines) us → SameWorker w new → SameHand w.hand new.hand
        → DrewTurn (said.shown (ticked m (due m c1.deadlines))) w.hand.view new.hand.view → May (MayTick k) most w → Gone (MaySettle k us) most new
    ticks_lone new k us most m c1 asked is up same hand turn may = lone.went_as over place stands_as advances gives starts advance_law answer_law start_law code {P = λ x. MaySettle k us x × HasUsed x.phase} {Q = MaySettle k us} {most = most} {w = new} (λ x e. e.0)
        (lone.may_show over place stands_as advances gives starts advance_law answer_law start_law code {P = MayTick k} {Q = λ x. MaySettle k us x × HasUsed x.phase} {most = most} {old = w} {new = new}
        (ticked m (due m c1.deadlines)) same hand turn (λ x e. e.1)
        (λ p here. leading.ticks over place stands_as advances gives starts advance_law answer_law start_law p (valid_code code) w.hand.view new.hand.view k m (due m c1.deadlines) us
        (standings.stands_as over place stands_as advances gives starts advance_law answer_law start_law p (valid_code code) {P = λ x. MayTick k x × (x.state.deadlines ≡ clock.value.timers.deadlines)} {Q = λ x. MayTick k x × IsDue x.state.deadlines m} w.hand.view
        (λ x e. (e.0, subst (λ (ds : List Deadline). IsDue ds m) (asked.deadlines ∙ sym e.1) is)) (dated {P = MayTick k} p here))
        turn up) may)
