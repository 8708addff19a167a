-- The silent turns of a lone worker, and its Ticks, are moves of the schedule.
use Rattle.std.proofs.Common.{◌≡◌, ℕ, ◌≤◌, List, [], ◌∷◌, ◌++◌, refl, sym, ap, ◌∙◌, subst, map, Option, Some, None}
use Rattle.ca_value.specs.Tree.{Tree}
use Rattle.ca_term.specs.declared.event.Side.{Side}
use Rattle.ca_term.specs.Program.{ProgramView}
use Rattle.ca_term.specs.Operation.{SeedView}
use Rattle.ca_term.specs.Event.{ticked}
use Rattle.ca_meaning.specs.Body.{At}
use Rattle.ca_meaning.specs.Task.{TaskBody}
use Rattle.ca_meaning.specs.State.{State, Deadline}
use Rattle.ca_meaning.specs.Steps.{Step}
use Rattle.ca_meaning.specs.Solo.{Lane, Desk, AsksAfter, AsksBefore, CanSettle, patience}
use Rattle.ca_meaning.proofs.Soundness.{step_sound}
use Rattle.ca_agent.specs.Agents.{Advanced, Answered, Started}
use Rattle.ca_commit.specs.Agents.{TaskAgent}
use Rattle.ca_commit.specs.Contents.{Content}
use Rattle.ca_commit.specs.Gathered.{parts_of}
use Rattle.ca_commit.specs.Moves.{Stays}
use Rattle.ca_commit.specs.Moving.{Moves, MovesTurn, visible}
use Rattle.ca_commit.specs.Running.{AreAt, RunStands, contents_written}
use Rattle.ca_commit.specs.Touched.{Drawn, Turn, asks_clock, halts, picks, prunes, shown, stalls, touches, yields}
use Rattle.ca_commit.proofs.Laid.{laid_parts}
use Rattle.ca_solo.specs.Moves.{IsInTime, IsLate, PassesOne, PicksFront, Rests, WaitsIdle, Yields}
use Rattle.ca_solo.specs.Positions.{Position, also_later, free, in_time, on_lane, picked, settling, with_readings}
use Rattle.ca_solo.specs.Stirs.{Ordered}
use Rattle.ca_alone.specs.OwnTurn.{IsDue, IsEarly}
use Rattle.ca_alone.specs.Reading.{DeskReads, task_number}
use Rattle.ca_alone.specs.Standing.{IsPosition}
use Rattle.ca_alone.proofs.Laying.{held_before}
use Rattle.ca_alone.proofs.LoneTurns.{lone_moves, lone_part, lone_reads, lone_shown, lone_silent}
use Rattle.ca_alone.proofs.Picking.{picks_reads, same_reads, yields_reads}

early_asks : (ds : List Deadline) (m : ℕ) (readings : List ℕ) → readings ≡ m ∷ [] → IsEarly ds m → AsksBefore ds readings []
early_asks [] m readings e lt = absurd lt
early_asks (d ∷ ds) m readings e lt = (m, e, lt)

due_asks : (ds : List Deadline) (m : ℕ) (readings : List ℕ) → readings ≡ m ∷ [] → IsDue ds m → AsksAfter ds m readings []
due_asks [] m readings e le = absurd le
due_asks (d ∷ ds) m readings e le = (e, le)

module _ {A : Type 0} (place : A → At) (stands : ProgramView → A → TaskBody → Type 0) (program : ProgramView) (now : ℕ → Option (Content (TaskAgent A))) (w : Position) (p : IsPosition place stands program now w) where
  -- Where no deadline is open the clock isn't asked.
  pub untimed_is_move : w.phase ≡ picked → w.state.deadlines ≡ [] → (w2 : Position) × IsInTime w w2 × IsPosition place stands program now w2
  untimed_is_move phase none = (
    record { state = w.state; desk = with_readings w.desk.readings w.desk; phase = in_time },
    (w.desk.readings, phase, subst (λ ds. AsksBefore ds w.desk.readings w.desk.readings) (sym none) refl, refl),
    record { run = p.run; sound = p.sound; reads = p.reads; uncounted = p.uncounted; used = p.used },
  )

  -- The least of the channels that may settle doesn't.
  pub rested_is_move : (q : ℕ) (us : List ℕ) → w.phase ≡ settling (q ∷ us) → (CanSettle w.state q → ⊥) → (w2 : Position) × PassesOne w w2 × (w2.phase ≡ settling us) × IsPosition place stands program now w2
  rested_is_move q us phase can = (record w { phase = settling us }, (q, us, phase, can, refl), refl, record { run = p.run; sound = p.sound; reads = p.reads; uncounted = p.uncounted; used = p.used })

  -- The lane is empty, and nothing is left to settle.
  pub empty_is_move : w.phase ≡ settling [] → w.desk.lane ≡ None → (w2 : Position) × Rests w w2 × (w2.phase ≡ free) × IsPosition place stands program now w2
  empty_is_move phase empty = (record w { phase = free }, (phase, empty, refl), refl, record { run = p.run; sound = p.sound; reads = p.reads; uncounted = p.uncounted; used = p.used })

  module _ (advances : ProgramView → A → A → Type 0) (gives : A → Tree → A → Type 0) (starts : ProgramView → SeedView → A → Type 0) (advance_law : Advanced stands place advances) (answer_law : Answered stands place gives) (start_law : Started stands place starts)
      (d : Drawn) (before after : List (Content (TaskAgent A))) (one : d.workers ≡ 1) (at : AreAt now (touches d) before) (m : Moves place advances gives starts d before after) where
    abbrev then : ℕ → Option (Content (TaskAgent A))
    then = contents_written now (touches d) after

    moved : (what : Turn) → d.what ≡ what → MovesTurn place advances gives starts 0 1 what (held_before d before) (held_before d after)
    moved what is = subst (λ x. MovesTurn place advances gives starts 0 1 x (held_before d before) (held_before d after)) is (lone_moves place stands advances gives starts d now before after one at m)

    hidden : (what : Turn) → d.what ≡ what → visible what ≡ [] → RunStands place stands program 1 then w.state
    hidden what is none = lone_silent place stands advances gives starts d now before after one at m advance_law answer_law start_law program w.state p.run (ap visible is ∙ none)

    reads_then : (desk : Desk) → DeskReads (laid_parts (parts_of 1 now) (held_before d after)) desk → DeskReads (parts_of 1 then) desk
    reads_then desk r = lone_reads place stands advances gives starts d now before after one at m desk r

    -- Pick
    pub pick_is_move : d.what ≡ picks 0 → w.phase ≡ free → (w2 : Position) × PicksFront w w2 × (w2.phase ≡ picked) × IsPosition place stands program then w2
    pick_is_move is phase =
        let x = moved (picks 0) is in
        let r = picks_reads (parts_of 1 now) (held_before d before) (held_before d after) w.desk p.reads (lone_part place stands advances gives starts d now before after one at m) x in
        let desk = on_lane w.desk x.x.0 (map task_number x.rest) in (
          record { state = w.state; desk = desk; phase = picked },
          (x.x.0, map task_number x.rest, phase, r.0, refl),
          refl,
          record { run = hidden (picks 0) is refl; sound = p.sound; reads = reads_then desk r.1; uncounted = p.uncounted; used = p.used },
        )

    -- Yield, after all its events
    pub yield_is_move : d.what ≡ yields → w.phase ≡ settling [] → ((lane : Lane) → w.desk.lane ≡ Some lane → patience ≤ lane.events) → (w2 : Position) × Yields w w2 × (w2.phase ≡ free) × IsPosition place stands program then w2
    yield_is_move is phase enough =
        let x = moved yields is in
        let r = yields_reads (parts_of 1 now) (held_before d before) (held_before d after) w.desk p.reads (lone_part place stands advances gives starts d now before after one at m) x in
        let lane : Lane = record { task = x.t; events = x.lane.since } in (
          record w { desk = record w.desk { ready = w.desk.ready ++ x.t ∷ []; lane = None }; phase = free },
          (lane, phase, r.0, enough lane r.0, refl),
          refl,
          record { run = hidden yields is refl; sound = p.sound; reads = reads_then (record w.desk { ready = w.desk.ready ++ x.t ∷ []; lane = None }) r.1; uncounted = p.uncounted; used = p.used },
        )

    -- lane, ready part and shards stay
    abbrev Untouched : Type 0
    Untouched = Stays (held_before d before).lane (held_before d after).lane × Stays (held_before d before).ready (held_before d after).ready × Stays (held_before d before).shard (held_before d after).shard

    same_then : (rs : List ℕ) → Untouched → DeskReads (parts_of 1 then) (with_readings rs w.desk)
    same_then rs u = reads_then (with_readings rs w.desk) (same_reads (parts_of 1 now) (held_before d before) (held_before d after) w.desk rs p.reads (lone_part place stands advances gives starts d now before after one at m) u.0 u.1 u.2)

    still : (what : Turn) → d.what ≡ what → visible what ≡ [] → Untouched → IsPosition place stands program then w
    still what is none u = record { run = hidden what is none; sound = p.sound; reads = same_then w.desk.readings u; uncounted = p.uncounted; used = p.used }

    -- the silent events that move nothing of the schedule
    pub prune_stays : (side : Side) (q wait : ℕ) → d.what ≡ prunes side q wait → IsPosition place stands program then w
    prune_stays side q wait is = let x = moved (prunes side q wait) is in still (prunes side q wait) is refl (x.lanes, x.readys, x.shards)

    pub stall_stays : d.what ≡ stalls → IsPosition place stands program then w
    stall_stays is = let x = moved stalls is in still stalls is refl (x.lanes, x.readys, x.others.shards)

    pub halt_stays : d.what ≡ halts → IsPosition place stands program then w
    halt_stays is = let x = moved halts is in still halts is refl (x.lanes, x.readys, x.shards)

    -- The clock is asked at a pick, and answers in time.
    pub read_is_move : (a : ℕ) → d.what ≡ asks_clock → w.phase ≡ picked → IsEarly w.state.deadlines a → (w2 : Position) × IsInTime (also_later (a ∷ []) w) w2 × (w2.phase ≡ in_time) × IsPosition place stands program then w2
    read_is_move a is phase early =
        let x = moved asks_clock is in (
          record { state = w.state; desk = with_readings [] w.desk; phase = in_time },
          ([], phase, early_asks w.state.deadlines a (w.desk.readings ++ a ∷ []) (ap (λ rs. rs ++ a ∷ []) p.used) early, refl),
          refl,
          record { run = hidden asks_clock is refl; sound = p.sound; reads = same_then [] (x.lanes, x.readys, x.shards); uncounted = p.uncounted; used = refl },
        )

    -- A Tick leaves the desk, and the state is that of its step.
    ticked_position : (a : ℕ) (ports us : List ℕ) → d.what ≡ shown (ticked a ports) → (s2 : State) × Step program w.state (ticked a ports) s2 × IsPosition place stands program then (record { state = s2; desk = with_readings [] w.desk; phase = settling us })
    ticked_position a ports us is =
        let x = moved (shown (ticked a ports)) is in
        let k = lone_shown place stands advances gives starts d now before after one at m advance_law answer_law start_law program w.state p.run (ticked a ports) (ap visible is) in
        (k.0, k.1, record { run = k.2; sound = step_sound program w.state k.0 (ticked a ports) k.1 p.sound; reads = same_then [] (x.lanes, x.readys, x.shards); uncounted = λ u n. p.uncounted u (sym (ap (λ (z : State). z.tasks u) k.1.4) ∙ n); used = refl })

    -- The clock is asked at a pick, and its answer is a Tick.
    pub late_is_move : (a : ℕ) (ports us : List ℕ) → d.what ≡ shown (ticked a ports) → w.phase ≡ picked → IsDue w.state.deadlines a → Ordered ports us
        → (w2 : Position) × IsLate program (also_later (a ∷ []) w) a ports w2 × (w2.phase ≡ settling us) × IsPosition place stands program then w2
    late_is_move a ports us is phase due order =
        let k = ticked_position a ports us is in (
          record { state = k.0; desk = with_readings [] w.desk; phase = settling us },
          ([], us, k.0, phase, due_asks w.state.deadlines a (w.desk.readings ++ a ∷ []) (ap (λ rs. rs ++ a ∷ []) p.used) due, k.1, order, refl),
          refl,
          k.2,
        )

    -- Nobody is ready, and the clock's answer is a Tick.
    pub idle_is_move : (a : ℕ) (ports us : List ℕ) → d.what ≡ shown (ticked a ports) → w.phase ≡ free → w.desk.ready ≡ [] → IsDue w.state.deadlines a → Ordered ports us
        → (w2 : Position) × WaitsIdle program (also_later (a ∷ []) w) a ports w2 × (w2.phase ≡ settling us) × IsPosition place stands program then w2
    idle_is_move a ports us is phase none due order =
        let k = ticked_position a ports us is in (
          record { state = k.0; desk = with_readings [] w.desk; phase = settling us },
          ([], us, k.0, phase, none, due_asks w.state.deadlines a (w.desk.readings ++ a ∷ []) (ap (λ rs. rs ++ a ∷ []) p.used) due, k.1, order, refl),
          refl,
          k.2,
        )
