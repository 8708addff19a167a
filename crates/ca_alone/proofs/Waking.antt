-- A channel that a lone worker settles is the schedule's move.
use Rattle.std.proofs.Common.{◌≡◌, ℕ, List, ◌∷◌, refl, ap, ◌∙◌, subst, Option, Some, None}
use Rattle.ca_value.specs.Tree.{Tree}
use Rattle.ca_term.specs.declared.event.Side.{Side}
use Rattle.ca_term.specs.Program.{ProgramView}
use Rattle.ca_term.specs.Operation.{SeedView}
use Rattle.ca_term.specs.Event.{settled}
use Rattle.ca_meaning.specs.Body.{At}
use Rattle.ca_meaning.specs.Task.{TaskBody}
use Rattle.ca_meaning.specs.Solo.{joined_by}
use Rattle.ca_meaning.specs.Wait.{owner_of, told}
use Rattle.ca_meaning.proofs.Soundness.{step_sound}
use Rattle.ca_meaning.proofs.Tasks.{IsRested, rested_kept, step_puts}
use Rattle.ca_agent.specs.Agents.{Advanced, Answered, Started}
use Rattle.ca_commit.specs.Agents.{TaskAgent, place_of, wakes_of}
use Rattle.ca_commit.specs.ChannelMoves.{MovesSettle}
use Rattle.ca_commit.specs.Contents.{Content, LaneView}
use Rattle.ca_commit.specs.Gathered.{parts_of}
use Rattle.ca_commit.specs.Moving.{Moves, MovesTurn, visible}
use Rattle.ca_commit.specs.Running.{AreAt, contents_written}
use Rattle.ca_commit.specs.Touched.{Drawn, shown, touches}
use Rattle.ca_commit.proofs.Laid.{laid_parts, seen, untouched}
use Rattle.ca_solo.specs.Moves.{SettlesOne}
use Rattle.ca_solo.specs.Positions.{Position, settling}
use Rattle.ca_solo.proofs.Counts.{joined_alts, not_before}
use Rattle.ca_alone.specs.Reading.{DeskReads}
use Rattle.ca_alone.specs.Standing.{IsPosition}
use Rattle.ca_alone.proofs.Leaving.{joined_readings, wakes_reads}
use Rattle.ca_alone.proofs.Laying.{held_before}
use Rattle.ca_alone.proofs.LoneTurns.{lone_moves, lone_part, lone_reads, lone_shown}

module _ {A : Type 0} (place : A → At) (stands : ProgramView → A → TaskBody → Type 0) (program : ProgramView) (now : ℕ → Option (Content (TaskAgent A))) (w : Position) (p : IsPosition place stands program now w)
    (advances : ProgramView → A → A → Type 0) (gives : A → Tree → A → Type 0) (starts : ProgramView → SeedView → A → Type 0) (advance_law : Advanced stands place advances) (answer_law : Answered stands place gives) (start_law : Started stands place starts)
    (d : Drawn) (before after : List (Content (TaskAgent A))) (one : d.workers ≡ 1) (at : AreAt now (touches d) before) (m : Moves place advances gives starts d before after) where
  -- the woken task stands last in the ready part
  woken_then : (wait k : ℕ) (side : Side) (q : ℕ) (v : Tree) → MovesSettle (place_of place) (wakes_of gives) 0 wait k side q v (held_before d before) (held_before d after) → DeskReads (parts_of 1 (contents_written now (touches d) after)) (joined_by (owner_of wait w.state.waits) w.desk)
  woken_then wait k side q v x =
      let all = parts_of 1 now in
      let old = held_before d before in
      let new = held_before d after in
      let part = lone_part place stands advances gives starts d now before after one at m in
      let lane : (laid_parts all new).lane 0 ≡ Some p.reads.lane = ap (λ (f : ℕ → Option (LaneView (TaskAgent A))). f 0) (untouched all.lane old.lane new.lane part.lanes x.lanes) ∙ p.reads.in_lane in
      lone_reads place stands advances gives starts d now before after one at m (joined_by (owner_of wait w.state.waits) w.desk)
      (wakes_reads place stands gives program all old new w.state p.run.stand part w.desk p.reads p.reads.lane wait q (told side v) w.desk x.parked lane (seen all.shard old.shard part.shards wait x.parked x.lives) x.wakes_up x.shards p.reads.reads)

  pub settle_is_move : (wait k : ℕ) (side : Side) (q : ℕ) (v : Tree) (us : List ℕ) → d.what ≡ shown (settled wait k side q v) → w.phase ≡ settling (q ∷ us)
      → (w2 : Position) × SettlesOne program w (settled wait k side q v) w2 × (w2.phase ≡ settling (q ∷ us)) × IsPosition place stands program (contents_written now (touches d) after) w2
  settle_is_move wait k side q v us is phase =
      let e = settled wait k side q v in
      let x = subst (λ t. MovesTurn place advances gives starts 0 1 t (held_before d before) (held_before d after)) is (lone_moves place stands advances gives starts d now before after one at m) in
      let s = lone_shown place stands advances gives starts d now before after one at m advance_law answer_law start_law program w.state p.run e (ap visible is) in
      let o = owner_of wait w.state.waits in
      let gone : (u : ℕ) → s.0.tasks u ≡ None → w.state.tasks u ≡ None = λ u n. not_before w.state.tasks s.0.tasks (step_puts program IsRested (rested_kept program) w.state s.0 e p.sound.rested s.1) u n in (
        record { state = s.0; desk = joined_by o w.desk; phase = settling (q ∷ us) },
        (q, us, wait, k, side, v, s.0, phase, refl, s.1, refl),
        refl,
        record {
          run = s.2;
          sound = step_sound program w.state s.0 e s.1 p.sound;
          reads = woken_then wait k side q v x;
          uncounted = λ u n. joined_alts o w.desk u ∙ p.uncounted u (gone u n);
          used = joined_readings o w.desk ∙ p.used;
        },
      )
