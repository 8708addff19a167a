-- The event of a plan that was applied to what a worker has taken: the worker may draw it.
use Rattle.std.proofs.Common.{◌≡◌, ◌∙◌, ℕ, ◌+◌, ◌≤◌, List, ◌∷◌, ◌++◌, [], refl, sym, ap, subst, arith, true, false, Option, Some, None, is_some}
use Rattle.std.specs.Prelude.{option_map}
use Rattle.ca_value.specs.Tree.{Tree}
use Rattle.ca_timers.specs.Timers.{TimersView}
use Rattle.ca_term.specs.Event.{EventView}
use Rattle.ca_term.specs.Operation.{SeedView, WhatView, dropping, fixed, mix, mult, promise, publication, sliding, timeout, unbuffered}
use Rattle.ca_term.specs.Program.{ProgramView, program_view}
use Rattle.ca_meaning.specs.Body.{At}
use Rattle.ca_meaning.specs.ChannelSteps.{other_side}
use Rattle.ca_meaning.specs.Task.{TaskBody}
use Rattle.ca_meaning.specs.Wait.{port_of, side_of, told}
use Rattle.ca_states.specs.Code.{CodeView}
use Rattle.ca_states.specs.ValidCode.{valid_code}
use Rattle.ca_states.specs.declared.valid_code.ValidCode.{ValidCode}
use Rattle.ca_agent.specs.Agents.{StaysOverCode}
use Rattle.ca_turns.specs.Hands.{TableId}
use Rattle.ca_commit.specs.Agents.{TaskAgent, advances_of}
use Rattle.ca_commit.specs.Applying.{IsTimely, ReadyBy, RunsBy, event_of, number_of, times_by}
use Rattle.ca_commit.specs.Contents.{Counts, LaneView, Parked, TimersPart, nobody, owner, whole}
use Rattle.ca_commit.specs.EventMoves.{TimesMade}
use Rattle.ca_commit.specs.NewPort.{IsNoEarlier, timed, times_in, times_of}
use Rattle.ca_commit.specs.PlanMoves.{TimesTo, counts_by, next_port, next_task, next_wait}
use Rattle.ca_commit.specs.Planning.{Planned, to_close, to_default, to_do, to_look, to_make, to_meet, to_park, to_post, to_print, to_prune, to_refuse, to_register, to_spawn}
use Rattle.ca_commit.specs.Plans.{plan_view}
use Rattle.ca_commit.specs.Showing.{channels_held, registries_held, waits_held}
use Rattle.ca_commit.specs.Tasks.{agent_of, task_view, tasks_in}
use Rattle.ca_commit.specs.Touched.{shown}
use Rattle.ca_commit.specs.Waking.{WakesBy, passing, ready_in}
use Rattle.ca_commit.specs.declared.held.Held.{Held}
use Rattle.ca_commit.specs.declared.planned.Plan.{Plan}
use Rattle.ca_commit.specs.declared.task.Task.{Task}
use Rattle.ca_table.specs.Carriers.{LaneBox}
use Rattle.ca_table.specs.Committing.{IsDone, IsPlanDue}
use Rattle.ca_table.specs.Needing.{is_timeout, needs_ready, needs_timers}
use Rattle.ca_table.specs.OneCode.{advances_over, gives_over, starts_over}
use Rattle.ca_table.specs.Parts.{clockwork_seen, counts_view, lane_seen, part_seen}
use Rattle.ca_table.specs.Seen.{lane_of_seen}
use Rattle.ca_table.specs.declared.part.Lane.{Lane}
use Rattle.ca_table.specs.declared.worker.Worker.{Worker}
use Rattle.ca_table.proofs.Committed.{commit_moved}
use Rattle.ca_table.proofs.Lifted.{ready_more, runs_more}
use Rattle.ca_table.proofs.Staying.{parts_stay, shows_there}
use Rattle.ca_pool.specs.AtEvent.{HasTaken}
use Rattle.ca_pool.specs.Desk.{ClockBox, IsMovedWith, SameHeld, all_laid, holds_banks, holds_shards}
use Rattle.ca_pool.specs.Prepared.{HasGone, IsClockworkAsked, IsReadied, IsStarted}
use Rattle.ca_pool.specs.Preparing.{AskedFor, ButTimers, ClockAnswered, AreTimersTimely as IsTimelyClock, clock_seen as shown_by, clock_with, in_place}
use Rattle.ca_pool.proofs.Desk.{all_brings, all_turned, clock_seen}
use Rattle.ca_pool.proofs.PlansReadied.{from_its_start}

some_same : {X : Type 0} (x y : X) → Some x ≡ Some y → x ≡ y
some_same x y e = cc

module _ {C : Type 0} (least faults : C → ℕ) (readings : C → Option (List ℕ)) (m p : ℕ) where
  abbrev timed_with : Option (ClockBox C) → Option TimersView → Option TimersPart
  timed_with = clock_with least faults readings

  abbrev seen_as : ClockBox C → TimersPart
  seen_as c = clockwork_seen least faults readings c.value

  -- no clock was there
  none_asked : (s : Option TimersPart) (clock : Option (ClockBox C)) (old new : Option TimersView) → is_some s ≡ false → AskedFor m s (timed_with clock old) → timed_with clock new ≡ s
  none_asked None None old new e a = refl
  none_asked None (Some c) old new e a = absurd (let k : Some (in_place (seen_as c) old) ≡ None = a in cc)
  none_asked (Some s) clock old new e a = absurd (let k : true ≡ false = e in cc)

  -- the clock was asked for a timeout
  made_timed : (n : ℕ) (s : Option TimersPart) (clock : Option (ClockBox C)) (old new : Option TimersView) → is_some s ≡ true → is_some old ≡ true → (c : TimersPart) → s ≡ Some c → c.now ≤ c.least → AskedFor m s (timed_with clock old) → times_in new ≡ option_map (timed p (timeout n) m) (times_in old) → TimesMade p (timeout n) m s (timed_with clock new)
  made_timed n None clock old new e t c is early a times = absurd (let k : false ≡ true = e in cc)
  made_timed n (Some s) None old new e t c is early a times = absurd (let k : None ≡ Some a.0 = a.1 in cc)
  made_timed n (Some s) (Some k) None new e t c is early a times = absurd (let z : false ≡ true = t in cc)
  made_timed n (Some s) (Some k) (Some x) None e t c is early a times = absurd (let z : None ≡ Some (timed p (timeout n) m (times_of x)) = times in cc)
  made_timed n (Some s) (Some k) (Some x) (Some y) e t c is early a times =
      let at = some_same (in_place (seen_as k) (Some x)) a.0 a.1 in
      let answered = subst (ClockAnswered m s) (sym at) a.2 in
      let came = some_same (times_of y) (timed p (timeout n) m (times_of x)) times in
      let same = some_same s c is in
      let early_s : s.now ≤ s.least = subst (λ (z : TimersPart). z.now ≤ z.least) (sym same) early in (
        s,
        in_place (seen_as k) (Some y),
        refl,
        refl,
        (let l = answered.later in omega (arith, early_s, l)),
        answered.bound,
        came ∙ ap (timed p (timeout n) m) (λ i. record { deadlines = answered.deadlines i; now = answered.now i }),
        record { now = ap (λ z. z.now) came; later = answered.later; least = answered.least; faults = answered.faults; readings = answered.readings; mark = answered.mark },
      )

  timed_what : (what : WhatView) (s : Option TimersPart) (clock : Option (ClockBox C)) (old new : Option TimersView) → is_some s ≡ is_timeout what → is_some old ≡ is_some s → ((c : TimersPart) → s ≡ Some c → c.now ≤ c.least) → AskedFor m s (timed_with clock old) → times_in new ≡ option_map (timed p what m) (times_in old) → TimesMade p what m s (timed_with clock new)
  timed_what (timeout n) None clock old new e t early a times = absurd (let k : false ≡ true = e in cc)
  timed_what (timeout n) (Some c) clock old new e t early a times = made_timed n (Some c) clock old new e t c refl (early c refl) a times
  timed_what unbuffered s clock old new e t early a times = none_asked s clock old new e a
  timed_what (fixed n) s clock old new e t early a times = none_asked s clock old new e a
  timed_what (dropping n) s clock old new e t early a times = none_asked s clock old new e a
  timed_what (sliding n) s clock old new e t early a times = none_asked s clock old new e a
  timed_what promise s clock old new e t early a times = none_asked s clock old new e a
  timed_what (mult x) s clock old new e t early a times = none_asked s clock old new e a
  timed_what (mix x y) s clock old new e t early a times = none_asked s clock old new e a
  timed_what (publication x) s clock old new e t early a times = none_asked s clock old new e a

  -- the timers as the event leaves them
  times_to : (q : Planned) (s : Option TimersPart) (clock : Option (ClockBox C)) (old new : Option TimersView) → is_some s ≡ needs_timers q → is_some old ≡ is_some s → ((c : TimersPart) → s ≡ Some c → c.now ≤ c.least) → AskedFor m s (timed_with clock old) → times_in new ≡ times_by p m q (times_in old) → TimesTo p m q s (timed_with clock new)
  times_to (to_make what) s clock old new e t early a times = timed_what what s clock old new e t early a times
  times_to (to_do k b alts) s clock old new e t early a times = none_asked s clock old new e a
  times_to (to_meet k b alts w o) s clock old new e t early a times = none_asked s clock old new e a
  times_to (to_park bs) s clock old new e t early a times = none_asked s clock old new e a
  times_to (to_post bs) s clock old new e t early a times = none_asked s clock old new e a
  times_to (to_default v) s clock old new e t early a times = none_asked s clock old new e a
  times_to (to_spawn kind r) s clock old new e t early a times = none_asked s clock old new e a
  times_to (to_close q) s clock old new e t early a times = none_asked s clock old new e a
  times_to (to_register name args) s clock old new e t early a times = none_asked s clock old new e a
  times_to (to_print line) s clock old new e t early a times = none_asked s clock old new e a
  times_to (to_look w) s clock old new e t early a times = none_asked s clock old new e a
  times_to (to_prune q side i) s clock old new e t early a times = none_asked s clock old new e a
  times_to (to_refuse f) s clock old new e t early a times = none_asked s clock old new e a

  no_earlier : (what : WhatView) (s : Option TimersPart) (clock : Option (ClockBox C)) (old : Option TimersView) → is_some s ≡ is_timeout what → ((c : TimersPart) → s ≡ Some c → c.now ≤ c.least) → AskedFor m s (timed_with clock old) → IsNoEarlier what old m
  no_earlier (timeout n) None clock old e early a = absurd (let k : false ≡ true = e in cc)
  no_earlier (timeout n) (Some c) None old e early a = absurd (let k : None ≡ Some a.0 = a.1 in cc)
  no_earlier (timeout n) (Some c) (Some k) None e early a = tt
  no_earlier (timeout n) (Some c) (Some k) (Some x) e early a =
      let at = some_same (in_place (seen_as k) (Some x)) a.0 a.1 in
      let answered = subst (ClockAnswered m c) (sym at) a.2 in
      let is = answered.now in let l = answered.later in let b = early c refl in omega (arith, is, l, b)
  no_earlier unbuffered s clock old e early a = tt
  no_earlier (fixed n) s clock old e early a = tt
  no_earlier (dropping n) s clock old e early a = tt
  no_earlier (sliding n) s clock old e early a = tt
  no_earlier promise s clock old e early a = tt
  no_earlier (mult x) s clock old e early a = tt
  no_earlier (mix x y) s clock old e early a = tt
  no_earlier (publication x) s clock old e early a = tt

early_by : (s : Option TimersPart) → IsTimelyClock s → (c : TimersPart) → s ≡ Some c → c.now ≤ c.least
early_by None t c e = absurd (let k : None ≡ Some c = e in cc)
early_by (Some x) t c e = subst (λ (z : TimersPart). z.now ≤ z.least) (some_same x c e) t

-- a timeout's moment is no earlier than the timers'
pub is_timely : {A C : Type 0} (least faults : C → ℕ) (readings : C → Option (List ℕ)) (q : Planned) (clock0 clock : Option (ClockBox C)) (held : Held A) → IsClockworkAsked least faults readings q clock0 clock held → IsTimely held q
is_timely least faults readings (to_make what) clock0 clock held a = no_earlier least faults readings held.moment 0 what (shown_by least faults readings clock0) clock held.timers (shows_there (λ t. clockwork_seen least faults readings t.value) clock0 ∙ a.needed) (early_by (shown_by least faults readings clock0) a.timely) a.asked
is_timely least faults readings (to_do k b alts) clock0 clock held a = tt
is_timely least faults readings (to_meet k b alts w o) clock0 clock held a = tt
is_timely least faults readings (to_park bs) clock0 clock held a = tt
is_timely least faults readings (to_post bs) clock0 clock held a = tt
is_timely least faults readings (to_default v) clock0 clock held a = tt
is_timely least faults readings (to_spawn kind r) clock0 clock held a = tt
is_timely least faults readings (to_close q) clock0 clock held a = tt
is_timely least faults readings (to_register name args) clock0 clock held a = tt
is_timely least faults readings (to_print line) clock0 clock held a = tt
is_timely least faults readings (to_look w) clock0 clock held a = tt
is_timely least faults readings (to_prune q side i) clock0 clock held a = tt
is_timely least faults readings (to_refuse f) clock0 clock held a = tt

module _ {A : Type 0} (place : A → At) (gives : A → Tree → A → Type 0) where
  map_there : {X : Type 0} (f : X → X) (o z : Option X) → z ≡ option_map f o → is_some z ≡ is_some o
  map_there f o z e = ap is_some e ∙ shows_there f o

  woken_there : (x : Option (Parked (TaskAgent A))) (p : ℕ) (v : Tree) (old new : Option (List (ℕ × TaskAgent A))) → WakesBy place gives x p v old new → is_some new ≡ is_some old
  woken_there None p v old new e = ap is_some e
  woken_there (Some nobody) p v old new e = ap is_some e
  woken_there (Some (owner u a)) p v old new e = map_there (λ q. q ++ (u, e.0) ∷ []) old new e.4

  -- the ready part is there as it was
  ready_there : (old new : Held A) (s : Option (Task A)) (q : Planned) → ReadyBy place gives old new s q → is_some (ready_in new.ready) ≡ is_some (ready_in old.ready)
  ready_there old new s (to_meet k b alts w o) e = woken_there (whole (waits_held old.shards) w) (port_of b) (told (other_side (side_of b)) (passing (whole (channels_held old.banks) (port_of b)) b)) (ready_in old.ready) (ready_in new.ready) e
  ready_there old new s (to_spawn kind r) e = map_there (λ q. q ++ task_view e.0 ∷ []) (ready_in old.ready) (ready_in new.ready) e.2
  ready_there old new s (to_do k b alts) e = ap is_some e
  ready_there old new s (to_park bs) e = ap is_some e
  ready_there old new s (to_post bs) e = ap is_some e
  ready_there old new s (to_default v) e = ap is_some e
  ready_there old new s (to_make what) e = ap is_some e
  ready_there old new s (to_close p) e = ap is_some e
  ready_there old new s (to_register name args) e = ap is_some e
  ready_there old new s (to_print line) e = ap is_some e
  ready_there old new s (to_look v) e = ap is_some e
  ready_there old new s (to_prune p side i) e = ap is_some e
  ready_there old new s (to_refuse f) e = ap is_some e

  -- and whatever else has the same ready part
  ready_as : (old new new2 : Held A) (s : Option (Task A)) (q : Planned) → ready_in new2.ready ≡ ready_in new.ready → ReadyBy place gives old new s q → ReadyBy place gives old new2 s q
  ready_as old new new2 s (to_meet k b alts w o) same e = subst (λ (r : Option (List (ℕ × TaskAgent A))). WakesBy place gives (whole (waits_held old.shards) w) (port_of b) (told (other_side (side_of b)) (passing (whole (channels_held old.banks) (port_of b)) b)) (ready_in old.ready) r) (sym same) e
  ready_as old new new2 s (to_spawn kind r) same e = (e.0, e.1, same ∙ e.2)
  ready_as old new new2 s (to_do k b alts) same e = same ∙ e
  ready_as old new new2 s (to_park bs) same e = same ∙ e
  ready_as old new new2 s (to_post bs) same e = same ∙ e
  ready_as old new new2 s (to_default v) same e = same ∙ e
  ready_as old new new2 s (to_make what) same e = same ∙ e
  ready_as old new new2 s (to_close p) same e = same ∙ e
  ready_as old new new2 s (to_register name args) same e = same ∙ e
  ready_as old new new2 s (to_print line) same e = same ∙ e
  ready_as old new new2 s (to_look v) same e = same ∙ e
  ready_as old new new2 s (to_prune p side i) same e = same ∙ e
  ready_as old new new2 s (to_refuse f) same e = same ∙ e

module _ {A : Type 0} (gives : A → Tree → A → Type 0) (P : A → Type 0) (stays : (a c : A) (v : Tree) → gives a v c → P a → P c) (held : Held A) (t : Task A) (has : P t.agent) where
  -- whoever runs on is as the task was
  pub runs_within : (q : Planned) (o : Option (Task A)) → RunsBy gives held t q o → (u : Task A) → o ≡ Some u → P u.agent
  runs_within (to_park bs) o e u is = absurd (let k : None ≡ Some u = sym e ∙ is in cc)
  runs_within (to_do k b alts) None e u is = absurd e
  runs_within (to_do k b alts) (Some c) e u is = subst (λ (x : Task A). P x.agent) (some_same c u is) (stays _ _ _ e.1.2 has)
  runs_within (to_meet k b alts w o) None e u is = absurd e
  runs_within (to_meet k b alts w o) (Some c) e u is = subst (λ (x : Task A). P x.agent) (some_same c u is) (stays _ _ _ e.1.2 has)
  runs_within (to_post bs) None e u is = absurd e
  runs_within (to_post bs) (Some c) e u is = subst (λ (x : Task A). P x.agent) (some_same c u is) (stays _ _ _ e.1.2 has)
  runs_within (to_default v) None e u is = absurd e
  runs_within (to_default v) (Some c) e u is = subst (λ (x : Task A). P x.agent) (some_same c u is) (stays _ _ _ e.1.2 has)
  runs_within (to_make what) None e u is = absurd e
  runs_within (to_make what) (Some c) e u is = subst (λ (x : Task A). P x.agent) (some_same c u is) (stays _ _ _ e.1.2 has)
  runs_within (to_spawn kind r) None e u is = absurd e
  runs_within (to_spawn kind r) (Some c) e u is = subst (λ (x : Task A). P x.agent) (some_same c u is) (stays _ _ _ e.1.2 has)
  runs_within (to_close p) None e u is = absurd e
  runs_within (to_close p) (Some c) e u is = subst (λ (x : Task A). P x.agent) (some_same c u is) (stays _ _ _ e.1.2 has)
  runs_within (to_register name args) None e u is = absurd e
  runs_within (to_register name args) (Some c) e u is = subst (λ (x : Task A). P x.agent) (some_same c u is) (stays _ _ _ e.1.2 has)
  runs_within (to_print line) None e u is = absurd e
  runs_within (to_print line) (Some c) e u is = subst (λ (x : Task A). P x.agent) (some_same c u is) (stays _ _ _ e.1.2 has)
  runs_within (to_look v) None e u is = absurd e
  runs_within (to_look v) (Some c) e u is = subst (λ (x : Task A). P x.agent) (some_same c u is) (stays _ _ _ e.1.2 has)
  runs_within (to_prune p side i) None e u is = absurd e
  runs_within (to_prune p side i) (Some c) e u is = subst (λ (x : Task A). P x.agent) (some_same c u is) (stays _ _ _ e.1.2 has)
  runs_within (to_refuse f) None e u is = absurd e
  runs_within (to_refuse f) (Some c) e u is = subst (λ (x : Task A). P x.agent) (some_same c u is) (stays _ _ _ e.1.2 has)

module _ {A C : Type 0} (over : CodeView → A → Type 0) (stands_as : ProgramView → A → TaskBody → Type 0) (place : A → At) (advances : ProgramView → A → A → Type 0) (gives : A → Tree → A → Type 0) (starts : ProgramView → SeedView → A → Type 0) (stays : StaysOverCode over gives) (least faults : C → ℕ) (readings : C → Option (List ℕ)) (code : ValidCode) (id : TableId) (program : ProgramView) (n : ℕ) (l : Lane A)
    (clock0 clock clock2 : Option (ClockBox C)) (held held2 held3 : Held A) (w : Worker A C) (lane : Lane A) (lane2 : LaneBox A) (task : Task A) (plan : Plan) (spawned running : Option (Task A))
    (s : HasTaken over stands_as code id program n l (part_seen least faults readings) clock0 held w) (gone : HasGone over advances program code l lane task) (asked : IsClockworkAsked least faults readings (plan_view plan) clock0 clock held) (ready : IsReadied place (counts_view lane.counts) w.number w.workers held task plan spawned) (started : IsStarted place starts over program (valid_code code) held.new_task task spawned)
    (done : IsDone place advances gives starts (plan_view plan) (lane_of_seen (lane_seen lane)) (lane_of_seen (lane_seen lane2.value)) held held2 task spawned running)
    (times : times_in held2.timers ≡ times_by held.new_port held.moment (plan_view plan) (times_in held.timers))
    (back : shown_by least faults readings clock2 ≡ clock_with least faults readings clock held2.timers) (there : is_some clock2 ≡ is_some clock) (but : ButTimers held2 held3) where
  abbrev q : Planned
  q = plan_view plan

  abbrev adv : ProgramView → A → A → Type 0
  adv = advances_over over (valid_code code) advances

  abbrev giv : A → Tree → A → Type 0
  giv = gives_over over (valid_code code) gives

  abbrev sta : ProgramView → SeedView → A → Type 0
  sta = starts_over over (valid_code code) starts

  abbrev was_lane : LaneView (TaskAgent A)
  was_lane = lane_of_seen (lane_seen l)

  its_counts : counts_view lane.counts ≡ counts_view l.counts
  its_counts = ap counts_view gone.left.counts_are

  by_run : (f : ℕ → ℕ → Counts → ℕ) → f w.number w.workers (counts_view lane.counts) ≡ f w.number n (counts_view l.counts)
  by_run f = ap (λ (k : ℕ). f w.number k (counts_view lane.counts)) s.one.of ∙ ap (f w.number n) its_counts

  due : IsPlanDue place adv giv sta w.number n q was_lane held task spawned
  due = record {
    agent = gone.left.agent;
    has_task = gone.left.was;
    advanced = subst (λ P. advances_of adv P gone.left.agent (agent_of task)) (sym gone.program_is) gone.left.advanced;
    plan_for = from_its_start place held q (agent_of task) ready.plan_for;
    is_event = ready.is_event;
    placed = ready.placed;
    has_parts = ready.has_parts;
    port_is = ready.numbers.port ∙ by_run next_port;
    wait_is = ready.numbers.wait ∙ by_run next_wait;
    new_port = (ready.no_channel, ready.no_registry);
    new_task = λ u e. started.number u e ∙ ready.numbers.task ∙ by_run next_task;
    started = λ u e want at seed op. let st = started.begins u e want at seed op in (st.0, st.1, (subst (λ P. starts P seed u.agent) (sym gone.program_is) st.2, started.within u e));
  }

  lift : (a : A) (v : Tree) (c : A) → gives a v c → giv a v c
  lift a v c h = (h, stays (valid_code code) a c v h)

  did : IsDone place adv giv sta q was_lane (lane_of_seen (lane_seen lane2.value)) held held3 task spawned running
  did = record {
    channels = λ i. ap (λ b. channels_held b i) but.banks ∙ done.channels i;
    registries = λ i. ap (λ b. registries_held b i) but.banks ∙ done.registries i;
    waits = λ i. ap (λ b. waits_held b i) but.shards ∙ done.waits i;
    ready = ready_as place giv held held2 held3 spawned q (ap ready_in but.ready) (ready_more place gives giv lift held held2 spawned q done.ready);
    runs = runs_more place gives giv lift held task q running done.runs;
    in_lane = done.in_lane;
    program = done.program ∙ ap (λ p. program_view p.value) gone.left.program_is;
    since = done.since ∙ ap (λ (k : ℕ). k + 1) gone.left.since_is;
    counts = done.counts ∙ ap (counts_by q) its_counts;
  }

  clocks : is_some clock2 ≡ is_some clock0
  clocks = there ∙ asked.there

  pub plan_same : SameHeld clock0 clock2 held held3
  plan_same = let parts = parts_stay over place advances gives starts (part_seen least faults readings) code q was_lane (lane_of_seen (lane_seen lane2.value)) held held3 task spawned running did in
      record {
        banks = parts.0;
        shards = parts.1;
        ready = sym (shows_there tasks_in held3.ready) ∙ ready_there place giv held held3 spawned q did.ready ∙ shows_there tasks_in held.ready;
        timers = clocks;
      }

  pub plan_moved : (e : EventView) → e ≡ event_of (channels_held held.banks) (registries_held held.banks) task.number (number_of spawned) held.new_port held.new_wait held.moment q
      → IsMovedWith over place advances gives starts (part_seen least faults readings) code n w.number (holds_banks held3) (holds_shards held3) (shown e) (all_laid (part_seen least faults readings) n code w.number l lane2 clock0 held clock2 held3)
  plan_moved e event = λ ports looked banks shards.
      commit_moved over place advances gives starts (part_seen least faults readings) code w.number n q was_lane (lane_of_seen (lane_seen lane2.value)) (clock_seen least faults readings clock0) (clock_seen least faults readings clock2) held held3 task spawned running
      (all_laid (part_seen least faults readings) n code w.number l lane2 clock0 held clock2 held3)
      (all_turned least faults readings n code w.number l clock0 clock2 held held3 plan_same lane2) due did
      (subst (λ (z : Option TimersPart). TimesTo held.new_port held.moment q (clock_seen least faults readings clock0) z) (sym back)
      (times_to least faults readings held.moment held.new_port q (clock_seen least faults readings clock0) clock held.timers held2.timers (shows_there (λ c. clockwork_seen least faults readings c.value) clock0 ∙ asked.needed) (asked.timers ∙ sym (shows_there (λ c. clockwork_seen least faults readings c.value) clock0)) (early_by (clock_seen least faults readings clock0) asked.timely) asked.asked times))
      e event ports looked
      (all_brings least faults readings n code w.number l clock0 clock2 held held3 plan_same ports looked (needs_timers q) (needs_ready q) banks shards (sym (clocks ∙ asked.needed)) (sym (plan_same.ready ∙ ready.readied)) lane2)
