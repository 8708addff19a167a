-- The end of a lane's task: the worker may draw it.
use Rattle.std.proofs.Common.{◌≡◌, ℕ, List, [], refl, sym, ap, true, cond, Option, Some, None, option_map, eqb, is_some}
use Rattle.ca_value.specs.Tree.{Tree}
use Rattle.ca_value.specs.declared.value.PortId.{PortId}
use Rattle.ca_term.specs.declared.event.Ending.TheVariants.{Ended, Faulted}
use Rattle.ca_term.specs.declared.fault.Fault.{Fault}
use Rattle.ca_term.specs.declared.place.Place.{Place}
use Rattle.ca_term.specs.Event.{EventView, over, port_number}
use Rattle.ca_term.specs.Operation.{OpView, SeedView}
use Rattle.ca_term.specs.Program.{ProgramView}
use Rattle.ca_meaning.specs.Body.{At, at_op, ended, faulted}
use Rattle.ca_meaning.specs.Wait.{is_among}
use Rattle.ca_commit.specs.Agents.{TaskAgent, advances_of, place_of}
use Rattle.ca_commit.specs.Applying.{IsPlanFor}
use Rattle.ca_commit.specs.Contents.{Content, LaneView, Parts, TimersPart, home}
use Rattle.ca_commit.specs.Ending.{ClosesResult}
use Rattle.ca_commit.specs.Moving.{MovesTurn}
use Rattle.ca_commit.specs.Naming.{NamesHeld, named_ports}
use Rattle.ca_commit.specs.Planning.{to_refuse}
use Rattle.ca_commit.specs.Showing.{channels_held, registries_held}
use Rattle.ca_commit.specs.Tasks.{agent_of}
use Rattle.ca_commit.specs.TaskMoves.{Halts, MarksEnd}
use Rattle.ca_commit.specs.Ticking.{closed_result}
use Rattle.ca_commit.specs.Touched as said
use Rattle.ca_commit.specs.declared.held.Held.{Held}
use Rattle.ca_commit.specs.declared.task.Task.{Task}
use Rattle.ca_commit.proofs.Ends.{end_moves, fault_moves, refused_moves}
use Rattle.ca_table.specs.Bearing.{Bears, parts_held}
use Rattle.ca_table.specs.Carrying.{Carries}
use Rattle.ca_table.specs.Covering.{Covers, turn_names}
use Rattle.ca_table.specs.Halting.{KeepAll, LeavesLane, result_ports}
use Rattle.ca_table.specs.Needing.{Brings, drawn_with}
use Rattle.ca_table.proofs.Applied.{is_there, lane_goes, registries_there}
use Rattle.ca_table.proofs.Bearing.{has_bank, has_lane}
use Rattle.ca_table.proofs.Needing.{BanksOf, covers_by}
use Rattle.ca_table.proofs.PlanCovered.{no_stall}

-- what the end of task t names
abbrev end_names : ℕ → Option PortId → said.NamedParts
end_names t r = record { lane = true; ports = result_ports r; waits = []; timers = eqb t 0; ready = None }

fault_names : (w t : ℕ) (f : Fault) (at : Place) (r : Option PortId) → turn_names w (said.shown (over t (Faulted f at r))) ≡ end_names t r
fault_names w t f at None = refl
fault_names w t f at (Some p) = refl

module _ {A : Type 0} (place : A → At) (advances : ProgramView → A → A → Type 0) (gives : A → Tree → A → Type 0) (starts : ProgramView → SeedView → A → Type 0)
    (w n : ℕ) (lane lane2 : LaneView (TaskAgent A)) (timers timers2 : Option TimersPart) (held held2 : Held A) (task : Task A) (marks : MarksEnd (eqb task.number 0) timers timers2) (keep : KeepAll held held2) where
  abbrev before : Parts (TaskAgent A)
  before = parts_held w (Some lane) timers held

  abbrev after : Parts (TaskAgent A)
  after = parts_held w (Some lane2) timers2 held2

  abbrev halts : (at : At) → LeavesLane place advances at lane lane2 task → Halts (place_of place) (advances_of advances) w task.number at before after
  halts at l = record {
    stands = record { lane = lane; lane2 = lane2; agent = l.agent; agent1 = agent_of task; lanes = lane_goes w lane lane2; task = l.has_task; advanced = l.advanced; stood = l.stands; program_stays = l.program; since = l.since };
    empty = l.empty;
    counts = l.counts;
    registries = keep.registries;
    shards = keep.waits;
    readys = λ i. ap (λ o. cond (eqb w i) o None) keep.ready;
    timers = marks;
  }

  abbrev HasResult : Type 0
  HasResult = (p : ℕ) → option_map port_number task.result ≡ Some p → is_some (channels_held held.banks (home p)) ≡ true

  abbrev Closes : Type 0
  Closes = (i : ℕ) → channels_held held2.banks i ≡ closed_result (option_map port_number task.result) (channels_held held.banks) i

  closes : HasResult → Closes → ClosesResult task.result (agent_of task) before after
  closes has closed = record { result_is = refl; held = λ p e. is_there (channels_held held.banks (home p)) (has p e); banks = closed }

  abbrev Turns : EventView → Type 0
  Turns e = MovesTurn place advances gives starts w n (said.shown e) before after

  pub ended_turns : (v : Tree) → LeavesLane place advances (ended v) lane lane2 task → ((i : ℕ) → channels_held held2.banks i ≡ channels_held held.banks i) → Turns (over task.number Ended)
  ended_turns v l same = end_moves place advances gives starts before after w n task.number v (halts (ended v) l) same

  pub faulted_turns : (f : Fault) (at : Place) → LeavesLane place advances (faulted f at) lane lane2 task → HasResult → Closes → Turns (over task.number (Faulted f at task.result))
  faulted_turns f at l has closed = fault_moves place advances gives starts before after w n task.number f at task.result (halts (faulted f at) l) (closes has closed)

  abbrev HasNamed : OpView → Type 0
  HasNamed op = (p : ℕ) → is_among p (named_ports op) ≡ true → is_some (channels_held held.banks (home p)) ≡ true

  names_held : (op : OpView) → HasNamed op → NamesHeld before op
  names_held op has p e =
      let a = is_there (channels_held held.banks (home p)) (has p e) in
      let b = is_there (registries_held held.banks (home p)) (registries_there w (Some lane) timers held (home p) (has p e)) in
      (a.0, b.0, a.1, b.1)

  pub refused_turns : (f : Fault) (plan : IsPlanFor place held (to_refuse f) (agent_of task)) → HasNamed plan.0.op → LeavesLane place advances (at_op plan.0) lane lane2 task → HasResult → Closes → Turns (over task.number (Faulted f plan.0.place task.result))
  refused_turns f plan named l has closed = refused_moves place advances gives starts before after w n task.number plan.2 plan.0.op f plan.0.place task.result (sym plan.3) (names_held plan.0.op named) (halts (at_op plan.0) l) (closes has closed)

module _ {A X : Type 0} (f : X → Content (TaskAgent A)) (w n : ℕ) (h : Carries X) (lane : LaneView (TaskAgent A)) (timers : Option TimersPart) (held : Held A) (b : Bears f w h (Some lane) timers held) where
  result_held : (r : Option PortId) → ((p : ℕ) → option_map port_number r ≡ Some p → is_some (channels_held held.banks (home p)) ≡ true) → BanksOf h (result_ports r)
  result_held None has = tt
  result_held (Some p) has = (has_bank f w h (Some lane) timers held b (home (port_number p)) (has (port_number p) refl), tt)

  -- the end of task t covers what is carried
  pub end_covers : (t : ℕ) (ports looked : List ℕ) → Brings ports looked (eqb t 0) None h → Covers (drawn_with w n (said.shown (over t Ended)) ports looked) h
  end_covers t ports looked brings = covers_by h w n (said.shown (over t Ended)) ports looked (end_names t None) (no_stall (over t Ended)) refl (sym (has_lane f w h lane timers held b)) brings tt tt

  pub fault_covers : (t : ℕ) (fault : Fault) (at : Place) (r : Option PortId) (ports looked : List ℕ) → ((p : ℕ) → option_map port_number r ≡ Some p → is_some (channels_held held.banks (home p)) ≡ true) → Brings ports looked (eqb t 0) None h
      → Covers (drawn_with w n (said.shown (over t (Faulted fault at r))) ports looked) h
  fault_covers t fault at r ports looked has brings = covers_by h w n (said.shown (over t (Faulted fault at r))) ports looked (end_names t r) (no_stall (over t (Faulted fault at r))) (fault_names w t fault at r) (sym (has_lane f w h lane timers held b)) brings (result_held r has) tt
