-- An event of the lane's task that moves the contents is the schedule's move.
use Rattle.std.proofs.Common.{⊎_elim, ◌≡◌, ℕ, ◌<◌, List, [], ◌∷◌, ◌++◌, refl, sym, ap, ◌∙◌, subst, true, false, Option, Some, None, eqb, eqb-true}
use Rattle.ca_value.specs.Tree.{Tree}
use Rattle.ca_term.specs.declared.event.Ending.TheVariants.{Ended, Faulted}
use Rattle.ca_term.specs.declared.event.TaskKind.{TaskKind}
use Rattle.ca_term.specs.Program.{ProgramView}
use Rattle.ca_term.specs.Operation.{SeedView}
use Rattle.ca_term.specs.Event.{EventView, made, spawned, done, met, parked, posted, settled, defaulted, closed, registered, printed, ticked, over}
use Rattle.ca_meaning.specs.Body.{At}
use Rattle.ca_meaning.specs.EndsLaw.{is_of}
use Rattle.ca_meaning.specs.Solo.{Lane, Desk, patience}
use Rattle.ca_meaning.specs.State.{State}
use Rattle.ca_meaning.specs.Steps.{Step, Steps}
use Rattle.ca_meaning.specs.Task.{TaskBody}
use Rattle.ca_meaning.proofs.Soundness.{step_sound}
use Rattle.ca_meaning.proofs.Tasks.{IsRested, rested_kept, step_puts}
use Rattle.ca_agent.specs.Agents.{Advanced, Answered, Started}
use Rattle.ca_commit.specs.Agents.{TaskAgent, advances_of, place_of}
use Rattle.ca_commit.specs.Contents.{Content, Parts}
use Rattle.ca_commit.specs.Gathered.{parts_of, pick}
use Rattle.ca_commit.specs.Moves.{Stood}
use Rattle.ca_commit.specs.Moving.{Moves, MovesShown, MovesTurn, visible}
use Rattle.ca_commit.specs.Running.{AreAt, RunStands, contents_written}
use Rattle.ca_commit.specs.Touched.{Drawn, shown, touches}
use Rattle.ca_commit.proofs.Laid.{laid_parts}
use Rattle.ca_commit.proofs.Locality.{locality}
use Rattle.ca_solo.specs.Moves.{MayMake, SoloMove, makes_one}
use Rattle.ca_solo.specs.Positions.{Position, also_later, and_later, settling}
use Rattle.ca_solo.specs.Stirs.{stirred}
use Rattle.ca_solo.proofs.Counts.{leaves_alts, not_before}
use Rattle.ca_alone.specs.Reading.{DeskReads, lane_read}
use Rattle.ca_alone.specs.Standing.{ChoosesWell, IsOn, IsPosition, clock_answers}
use Rattle.ca_alone.proofs.Laying.{IsLaid, held_before, laid_over, lone_by_lane}
use Rattle.ca_alone.proofs.Leaving.{Left, shown_leaves}
use Rattle.ca_alone.proofs.Turned.{lane_found}

on_it : (o : Option Lane) → IsOn o → (lane : Lane) × (o ≡ Some lane) × (lane.events < patience)
on_it None h = absurd h
on_it (Some lane) h = (lane, refl, h)

same_task : (o : Option Lane) (lane : Lane) (t n : ℕ) → o ≡ Some lane → o ≡ Some (record { task = t; events = n }) → t ≡ lane.task
same_task o lane t n e f = let k : record { task = t; events = n } ≡ lane = (let j : Some (record { task = t; events = n }) ≡ Some lane = sym f ∙ e in cc) in ap (λ (z : Lane). z.task) k

module _ {A : Type 0} where
  -- further answers of the clock change nothing of it
  pub reads_later : (h : Parts (TaskAgent A)) (d : Desk) (rs : List ℕ) → DeskReads h d → DeskReads h (and_later rs d)
  reads_later h d rs r = let k = r.reads in record {
    lane = r.lane;
    in_lane = r.in_lane;
    queue = r.queue;
    in_ready = r.in_ready;
    reads = record { lane_is = k.lane_is; ready_is = k.ready_is; tasks = k.tasks; ports = k.ports; waits = k.waits; lane_counts = k.lane_counts; ready_counts = k.ready_counts; parked_counts = k.parked_counts };
  }

module _ {A : Type 0} (place : A → At) (advances : ProgramView → A → A → Type 0) (gives : A → Tree → A → Type 0) (starts : ProgramView → SeedView → A → Type 0) (w n : ℕ) (old new : Parts (TaskAgent A)) where
  abbrev StoodAt : ℕ → Type 0
  StoodAt t = (at : At) × Stood (place_of place) (advances_of advances) w t at old new

  of_it : (u t : ℕ) → eqb u t ≡ true → StoodAt u → StoodAt t
  of_it u t is a = subst (λ z. StoodAt z) (eqb-true u t is) a

  -- the task of an event stood in the worker's lane
  pub stood_in : (t : ℕ) (e : EventView) → is_of t e ≡ true → MovesShown place advances gives starts w n e old new → StoodAt t
  stood_in t (made u p what moment) is m = of_it u t is (_, m.answers.stands)
  stood_in t (spawned u v kind r) is m = of_it u t is (_, m.answers.stands)
  stood_in t (done u k b v) is m = of_it u t is (_, m.answers.stands)
  stood_in t (met u k side p v wait o) is m = of_it u t is (_, m.answers.stands)
  stood_in t (parked u wait bs) is m = of_it u t is (_, m.stands)
  stood_in t (posted u wait p v) is m = of_it u t is (_, m.answers.stands)
  stood_in t (settled wait k side p v) is m = absurd (let q : false ≡ true = is in cc)
  stood_in t (defaulted u v) is m = of_it u t is (_, m.answers.stands)
  stood_in t (closed u p) is m = of_it u t is (_, m.answers.stands)
  stood_in t (registered u name args v) is m = of_it u t is (_, m.acts.stands)
  stood_in t (printed u line) is m = of_it u t is (_, m.answers.stands)
  stood_in t (ticked moment ports) is m = absurd (let q : false ≡ true = is in cc)
  stood_in t (over u Ended) is m = of_it u t is (_, m.halts.stands)
  stood_in t (over u (Faulted f at r)) is m = of_it u t is (⊎_elim (λ h. (_, h.stands)) (λ k. ⊎_elim (λ h. (_, h.1.stands)) (λ h. (_, h.1.stands)) k) m.halts)

module _ {A : Type 0} (place : A → At) (stands : ProgramView → A → TaskBody → Type 0) (advances : ProgramView → A → A → Type 0) (gives : A → Tree → A → Type 0) (starts : ProgramView → SeedView → A → Type 0)
    (advance_law : Advanced stands place advances) (answer_law : Answered stands place gives) (start_law : Started stands place starts) (program : ProgramView) where
  new_there : (s s2 : State) (t u : ℕ) (kind : TaskKind) (result : Option ℕ) → Step program s (spawned t u kind result) s2 → s.tasks u ≡ None
  new_there s s2 t u kind result x = x.5

  -- the lane's task may make an event, and makes one
  abbrev pub MadeMove : Drawn → (ℕ → Option (Content (TaskAgent A))) → List (Content (TaskAgent A)) → EventView → Position → Type 0
  MadeMove d now after e w = (w2 : Position) × SoloMove program (also_later (clock_answers e) w) w2 (e ∷ []) × IsPosition place stands program (contents_written now (touches d) after) w2 × (w2.phase ≡ settling (stirred w.state e))

  pub turn_moves : (d : Drawn) (now : ℕ → Option (Content (TaskAgent A))) (before after : List (Content (TaskAgent A))) (w : Position) (t : ℕ) (e : EventView) → d.what ≡ shown e → is_of t e ≡ true → AreAt now (touches d) before → Moves place advances gives starts d before after
      → IsPosition place stands program now w → MayMake w.phase → IsOn w.desk.lane → ChoosesWell w.state w.desk e → MadeMove d now after e w
  turn_moves d now before after w t e what is at m q may on well = (
    record { state = s2; desk = gone.0; phase = settling (stirred w.state e) },
    makes_one e (lane.0, s2, gone.0, may, lane.1, lane.2, mine, step, gone.1, refl) refl,
    record {
      run = after_run;
      sound = step_sound program w.state s2 e step q.sound;
      reads = subst (λ (h : Parts (TaskAgent A)). DeskReads h gone.0) (sym laid.over) gone.2;
      uncounted = λ u none. let k = earlier u none in leaves_alts w.state d0 e gone.0 gone.1 u k ∙ q.uncounted u k;
      used = gone.3;
    },
    refl,
  ) where
    d0 : Desk
    d0 = and_later (clock_answers e) w.desk

    moved : MovesShown place advances gives starts d.worker d.workers e (parts_of d.workers (pick (touches d) before)) (parts_of d.workers (pick (touches d) after))
    moved = subst (λ z. MovesTurn place advances gives starts d.worker d.workers z (parts_of d.workers (pick (touches d) before)) (parts_of d.workers (pick (touches d) after))) what m.2

    one : d.workers ≡ 1
    one = let k = stood_in place advances gives starts d.worker d.workers (parts_of d.workers (pick (touches d) before)) (parts_of d.workers (pick (touches d) after)) t e is moved in
        lone_by_lane place advances gives starts d now before after at m q.run.kinds k.1.lane2 k.1.lanes.is

    laid : IsLaid place advances gives starts d now before after
    laid = laid_over place advances gives starts d now before after at m one

    turned : MovesShown place advances gives starts 0 1 e (held_before d before) (held_before d after)
    turned = subst (λ z. MovesTurn place advances gives starts 0 1 z (held_before d before) (held_before d after)) what laid.turn

    leads : (s2 : State) × Steps program w.state (visible d.what) s2 × RunStands place stands program 1 (contents_written now (touches d) after) s2
    leads = locality place stands advances gives starts advance_law answer_law start_law program 1 d now before after w.state q.run at m

    s2 : State
    s2 = leads.0

    after_run : RunStands place stands program 1 (contents_written now (touches d) after) s2
    after_run = leads.2

    step : Step program w.state e s2
    step = let k : Steps program w.state (e ∷ []) s2 = subst (λ z. Steps program w.state (visible z) s2) what leads.1 in subst (λ (z : State). Step program w.state e z) (sym k.2) k.1

    earlier : (u : ℕ) → s2.tasks u ≡ None → w.state.tasks u ≡ None
    earlier u none = not_before w.state.tasks s2.tasks (step_puts program IsRested (rested_kept program) w.state s2 e q.sound.rested step) u none

    reads0 : DeskReads (parts_of 1 now) d0
    reads0 = reads_later (parts_of 1 now) w.desk (clock_answers e) q.reads

    lane : (lane : Lane) × (w.desk.lane ≡ Some lane) × (lane.events < patience)
    lane = on_it w.desk.lane on

    mine : is_of lane.0.task e ≡ true
    mine = let k = stood_in place advances gives starts 0 1 (held_before d before) (held_before d after) t e is turned in
        let f = lane_found (parts_of 1 now) (held_before d before) (held_before d after) laid.part d0 reads0 k.1.lane k.1.lanes.was in
        subst (λ z. is_of z e ≡ true) (same_task w.desk.lane lane.0 t k.1.lane.since lane.1 (f.lane_is ∙ ap (λ o. lane_read o k.1.lane.since) k.1.task)) is

    gone : Left w.state (laid_parts (parts_of 1 now) (held_before d after)) d0 e
    gone = shown_leaves place stands advances gives starts advance_law program (parts_of 1 now) (held_before d before) (held_before d after) w.state q.run.stand laid.part d0 reads0 t e is
        (ap (λ rs. rs ++ clock_answers e) q.used)
        (λ t2 u kind result same. q.uncounted u (new_there w.state s2 t2 u kind result (subst (λ z. Step program w.state z s2) same step)))
        well turned
