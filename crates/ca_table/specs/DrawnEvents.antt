-- The events that a worker may draw over what it carries: a plan's, a task's end, what a channel settles by itself, and
-- a stale handler that leaves its queue.
use Rattle.std.specs.Prelude.{◌≡◌, ℕ, List, Option, Some, None, false, true, option_map, is_some, eqb}
use Rattle.ca_value.specs.Tree.{Tree}
use Rattle.ca_term.specs.declared.event.Ending.TheVariants.{Ended, Faulted}
use Rattle.ca_term.specs.declared.event.Event.{Event}
use Rattle.ca_term.specs.declared.event.Side.{Side}
use Rattle.ca_term.specs.declared.fault.Fault.{Fault}
use Rattle.ca_term.specs.declared.place.Place.{Place}
use Rattle.ca_term.specs.Event.{EventView, event_view, over, port_number}
use Rattle.ca_term.specs.Operation.{SeedView}
use Rattle.ca_term.specs.Program.{ProgramView}
use Rattle.ca_meaning.specs.Body.{At, at_op, ended, faulted}
use Rattle.ca_meaning.specs.Wait.{is_among}
use Rattle.ca_bank.specs.Kept.{pruned}
use Rattle.ca_commit.specs.Agents.{TaskAgent}
use Rattle.ca_commit.specs.Applying.{IsPlanFor, event_of, number_of}
use Rattle.ca_commit.specs.Contents.{LaneView, TimersPart, home, whole}
use Rattle.ca_commit.specs.Deciding.{IsStale}
use Rattle.ca_commit.specs.Finding.{glance, serves, settle_at}
use Rattle.ca_commit.specs.Gathered.{Alike}
use Rattle.ca_commit.specs.Listing.{changed_at, listed}
use Rattle.ca_commit.specs.Listings.{parts}
use Rattle.ca_commit.specs.Naming.{named_ports}
use Rattle.ca_commit.specs.Numbers.{number_of_bank, number_of_shard}
use Rattle.ca_commit.specs.Planning.{Planned, to_refuse}
use Rattle.ca_commit.specs.PlanMoves.{IsApplied, TimesTo}
use Rattle.ca_commit.specs.Settling.{IsSettled}
use Rattle.ca_commit.specs.Showing.{channels_held, registries_held, waits_held}
use Rattle.ca_commit.specs.TaskMoves.{MarksEnd}
use Rattle.ca_commit.specs.Tasks.{agent_of}
use Rattle.ca_commit.specs.Ticking.{closed_result}
use Rattle.ca_commit.specs.Touched.{prunes, shown}
use Rattle.ca_commit.specs.declared.held.Held.{Held}
use Rattle.ca_commit.specs.declared.task.Task.{Task}
use Rattle.ca_states.specs.Code.{CodeView}
use Rattle.ca_states.specs.ValidCode.{valid_code}
use Rattle.ca_states.specs.declared.valid_code.ValidCode.{ValidCode}
use Rattle.ca_table.specs.OneCode.{advances_over, gives_over, starts_over}
use Rattle.ca_table.specs.Bearing.{IsMadeOf, ShowSame, parts_held}
use Rattle.ca_table.specs.Carriers.{IsMoved, is_now, was}
use Rattle.ca_table.specs.Carrying.{Carries, EachCarried, carried}
use Rattle.ca_table.specs.Committing.{IsDone, IsPlanDue}
use Rattle.ca_table.specs.Covering.{plain_drawn}
use Rattle.ca_table.specs.Halting.{KeepAll, LeavesLane}
use Rattle.ca_table.specs.Needing.{Brings, drawn_with, needs_ready, needs_timers, own_if, ports_needed, waits_needed}
use Rattle.ca_table.specs.Seen.{PartSeen}
use Rattle.ca_table.specs.declared.part.Part.{Part}

-- what worker w of n carries at an event, as it was settled and as it is now: its lane, the timers, and what is held
pub record IsTurned {A C : Type 0} (seen : Part A C → PartSeen A) (w n : ℕ) (h : Carries (Part A C × PartSeen A)) (lane lane2 : Option (LaneView (TaskAgent A))) (timers timers2 : Option TimersPart) (held held2 : Held A) : Type 0 where
  pub before : IsMadeOf n was w h lane timers held
  pub after : IsMadeOf n (is_now seen) w h lane2 timers2 held2

-- the banks and shards that are held are those of the same numbers
abbrev pub SameParts : {A : Type 0} → Held A → Held A → Type 0
SameParts old new =
    ((i : ℕ) → is_some (listed number_of_bank (parts new.banks) i) ≡ is_some (listed number_of_bank (parts old.banks) i))
    × ((i : ℕ) → is_some (listed number_of_shard (parts new.shards) i) ≡ is_some (listed number_of_shard (parts old.shards) i))

-- the banks that are held are those of these ports, among others
abbrev pub HasBanks : {A : Type 0} → Held A → (ℕ → Type 0) → Type 0
HasBanks held P = (p : ℕ) → P p → is_some (channels_held held.banks (home p)) ≡ true

-- the bank of its result is held, if it has one, and the channel is closed
pub record ClosesIts {A : Type 0} (task : Task A) (old new : Held A) : Type 0 where
  pub held : HasBanks old (λ p. option_map port_number task.result ≡ Some p)
  pub banks : (i : ℕ) → channels_held new.banks i ≡ closed_result (option_map port_number task.result) (channels_held old.banks) i

module _ {A C : Type 0} (over_code : CodeView → A → Type 0) (place : A → At) (advances : ProgramView → A → A → Type 0) (gives : A → Tree → A → Type 0) (starts : ProgramView → SeedView → A → Type 0) (seen : Part A C → PartSeen A) (code : ValidCode) where
  -- the event of a plan
  abbrev pub PlansDraw : Type 0
  PlansDraw = (w n : ℕ) (h : Carries (Part A C × PartSeen A)) (lane lane2 : LaneView (TaskAgent A)) (timers timers2 : Option TimersPart) (held held2 : Held A) (q : Planned) (task : Task A) (spawned running : Option (Task A)) (e : EventView) (ports looked : List ℕ)
      → IsTurned seen w n h (Some lane) (Some lane2) timers timers2 held held2
      → IsPlanDue place (advances_over over_code (valid_code code) advances) (gives_over over_code (valid_code code) gives) (starts_over over_code (valid_code code) starts) w n q lane held task spawned → IsDone place (advances_over over_code (valid_code code) advances) (gives_over over_code (valid_code code) gives) (starts_over over_code (valid_code code) starts) q lane lane2 held held2 task spawned running → TimesTo held.new_port held.moment q timers timers2
      → e ≡ event_of (channels_held held.banks) (registries_held held.banks) task.number (number_of spawned) held.new_port held.new_wait held.moment q
      → Brings ports looked (needs_timers q) (own_if (needs_ready q) w) h
      → IsMoved over_code place advances gives starts seen code n w (drawn_with w n (shown e) ports looked) h

  -- The event of a plan that was applied to just the parts that it needs, where they lie. It names all that it touches.
  abbrev pub PlacesDraw : Type 0
  PlacesDraw = (w n t u p v m : ℕ) (q : Planned) (h : Carries (Part A C × PartSeen A)) (e : EventView)
      → IsApplied place (advances_over over_code (valid_code code) advances) (gives_over over_code (valid_code code) gives) (starts_over over_code (valid_code code) starts) w n t u p v m q (carried was w h) (carried (is_now seen) w h)
      → e ≡ event_of (carried was w h).bank (carried was w h).registry t u p v m q
      → EachCarried (λ x. Alike n (was x) (is_now seen x)) h
      → Brings (ports_needed p q) (waits_needed v q) (needs_timers q) (own_if (needs_ready q) w) h
      → IsMoved over_code place advances gives starts seen code n w (plain_drawn w n (shown e)) h

  -- the end of a task, which touches the timers where it is that of the main text
  pub record Ends (w n : ℕ) (h : Carries (Part A C × PartSeen A)) (at : At) (lane lane2 : LaneView (TaskAgent A)) (timers timers2 : Option TimersPart) (held held2 : Held A) (task : Task A) (ports looked : List ℕ) : Type 0 where
    pub turned : IsTurned seen w n h (Some lane) (Some lane2) timers timers2 held held2
    pub leaves : LeavesLane place (advances_over over_code (valid_code code) advances) at lane lane2 task
    pub marks : MarksEnd (eqb task.number 0) timers timers2
    pub keep : KeepAll held held2
    pub brings : Brings ports looked (eqb task.number 0) None h

  -- by a value
  abbrev pub EndsDraw : Type 0
  EndsDraw = (w n : ℕ) (h : Carries (Part A C × PartSeen A)) (v : Tree) (lane lane2 : LaneView (TaskAgent A)) (timers timers2 : Option TimersPart) (held held2 : Held A) (task : Task A) (ports looked : List ℕ)
      → Ends w n h (ended v) lane lane2 timers timers2 held held2 task ports looked → ((i : ℕ) → channels_held held2.banks i ≡ channels_held held.banks i)
      → IsMoved over_code place advances gives starts seen code n w (drawn_with w n (shown (over task.number Ended)) ports looked) h

  -- by a fault of its own
  abbrev pub FaultsDraw : Type 0
  FaultsDraw = (w n : ℕ) (h : Carries (Part A C × PartSeen A)) (f : Fault) (at : Place) (lane lane2 : LaneView (TaskAgent A)) (timers timers2 : Option TimersPart) (held held2 : Held A) (task : Task A) (ports looked : List ℕ)
      → Ends w n h (faulted f at) lane lane2 timers timers2 held held2 task ports looked → ClosesIts task held held2
      → IsMoved over_code place advances gives starts seen code n w (drawn_with w n (shown (over task.number (Faulted f at task.result))) ports looked) h

  -- at an operation that is refused, where the banks of all ports that it names are held
  abbrev pub RefusalsDraw : Type 0
  RefusalsDraw = (w n : ℕ) (h : Carries (Part A C × PartSeen A)) (f : Fault) (lane lane2 : LaneView (TaskAgent A)) (timers timers2 : Option TimersPart) (held held2 : Held A) (task : Task A) (ports looked : List ℕ) (plan : IsPlanFor place held (to_refuse f) (agent_of task))
      → HasBanks held (λ p. is_among p (named_ports plan.0.op) ≡ true)
      → Ends w n h (at_op plan.0) lane lane2 timers timers2 held held2 task ports looked → ClosesIts task held held2
      → IsMoved over_code place advances gives starts seen code n w (drawn_with w n (shown (over task.number (Faulted f plan.0.place task.result))) ports looked) h

  -- what a channel served, beside the lane
  abbrev pub SettlesDraw : Type 0
  SettlesDraw = (w n p wait o : ℕ) (side : Side) (h : Carries (Part A C × PartSeen A)) (held held2 : Held A) (e : Event) (ports looked : List ℕ)
      → IsTurned seen w n h None None None None held held2 → h.lane ≡ None
      → settle_at (glance (waits_held held.shards)) (whole (channels_held held.banks) p) ≡ serves side wait o → is_some held.ready ≡ true → IsSettled place (gives_over over_code (valid_code code) gives) held held2 p side wait o e
      → Brings ports looked false (Some w) h
      → IsMoved over_code place advances gives starts seen code n w (drawn_with w n (shown (event_view e)) ports looked) h

  -- the stale handler of that wait leaves its queue, beside the lane
  abbrev pub PrunesDraw : Type 0
  PrunesDraw = (w n p wait i : ℕ) (side : Side) (h : Carries (Part A C × PartSeen A)) (held held2 : Held A) (ports looked : List ℕ)
      → IsTurned seen w n h None None None None held held2 → h.lane ≡ None
      → (stale : IsStale (parts_held w None None held) p side i) → wait ≡ stale.handler.wait
      → ((j : ℕ) → channels_held held2.banks j ≡ changed_at p (option_map (pruned side i)) (channels_held held.banks) j) → KeepAll held held2
      → Brings ports looked false None h
      → IsMoved over_code place advances gives starts seen code n w (drawn_with w n (prunes side p wait) ports looked) h

  -- an event changes what is in the parts that are held, and not which these are
  abbrev pub PartsStay : Type 0
  PartsStay = (q : Planned) (lane lane2 : LaneView (TaskAgent A)) (held held2 : Held A) (task : Task A) (spawned running : Option (Task A)) → IsDone place (advances_over over_code (valid_code code) advances) (gives_over over_code (valid_code code) gives) (starts_over over_code (valid_code code) starts) q lane lane2 held held2 task spawned running → SameParts held held2

-- reserving leaves what is carried as it was settled
abbrev pub ReservingKeeps : Type 0 → Type 0 → Type 0
ReservingKeeps A C = (w n : ℕ) (h : Carries (Part A C × PartSeen A)) (lane : Option (LaneView (TaskAgent A))) (timers : Option TimersPart) (held held2 : Held A) → ShowSame held held2 → IsMadeOf n was w h lane timers held → IsMadeOf n was w h lane timers held2
