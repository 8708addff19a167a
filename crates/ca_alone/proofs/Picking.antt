-- How the desk that is read off the parts changes with a worker's silent events, and with a Tick.
use Rattle.std.proofs.Common.{◌≡◌, ℕ, List, [], ◌∷◌, ◌++◌, refl, sym, ap, ◌∙◌, subst, Option, Some, None, map}
use Rattle.ca_meaning.specs.Solo.{Desk}
use Rattle.ca_commit.specs.Agents.{TaskAgent}
use Rattle.ca_commit.specs.Contents.{Counts, LaneView, Parked, Parts, whole}
use Rattle.ca_commit.specs.Moves.{Stays}
use Rattle.ca_commit.specs.Running.{or_was}
use Rattle.ca_commit.specs.SilentMoves.{MovesPick, MovesYield}
use Rattle.ca_commit.proofs.Laid.{IsPart, laid, laid_parts, untouched}
use Rattle.ca_commit.proofs.Seats.{some_same}
use Rattle.ca_meaning.proofs.Waits.{each-append}
use Rattle.ca_solo.specs.Positions.{on_lane, with_readings}
use Rattle.ca_alone.proofs.Counting.{Waiting, map_snoc}
use Rattle.ca_alone.specs.Reading.{DeskReads, ReadsOff, lane_read, task_number}

module _ {A : Type 0} where
  same_counts : (l l2 : LaneView (TaskAgent A)) (f : Counts → ℕ) (n : ℕ) → l2.counts ≡ l.counts → n ≡ f l.counts → n ≡ f l2.counts
  same_counts l l2 f n e r = r ∙ sym (ap f e)

  -- the front task comes into the lane
  pick_counts : (l l2 : LaneView (TaskAgent A)) (x : ℕ × TaskAgent A) (rest : List (ℕ × TaskAgent A)) (parked : Waiting A) (d : Desk) → ReadsOff l (x ∷ rest) parked d → l2.task ≡ Some x → l2.since ≡ 0 → l2.counts ≡ l.counts
      → ReadsOff l2 rest parked (on_lane d x.0 (map task_number rest))
  pick_counts l l2 x rest parked d r on since counts = record {
    lane_is = sym (ap (λ o. lane_read o l2.since) on ∙ ap (λ n. Some (record { task = x.0; events = n })) since);
    ready_is = refl;
    tasks = same_counts l l2 (λ (c : Counts). c.tasks) d.tasks counts r.tasks;
    ports = same_counts l l2 (λ (c : Counts). c.ports) d.ports counts r.ports;
    waits = same_counts l l2 (λ (c : Counts). c.waits) d.waits counts r.waits;
    lane_counts = λ t a e. subst (λ (y : ℕ × TaskAgent A). y.1.alts ≡ d.alts y.0) (some_same x (t, a) (sym on ∙ e)) r.ready_counts.0;
    ready_counts = r.ready_counts.1;
    parked_counts = r.parked_counts;
  }

  -- it goes to the end of the ready part
  yield_counts : (l l2 : LaneView (TaskAgent A)) (t : ℕ) (a : TaskAgent A) (q : List (ℕ × TaskAgent A)) (parked : Waiting A) (d : Desk) → ReadsOff l q parked d → l.task ≡ Some (t, a) → l2.task ≡ None → l2.counts ≡ l.counts
      → ReadsOff l2 (q ++ (t, a) ∷ []) parked (record d { ready = d.ready ++ t ∷ []; lane = None })
  yield_counts l l2 t a q parked d r on off counts = record {
    lane_is = sym (ap (λ o. lane_read o l2.since) off);
    ready_is = ap (λ ns. ns ++ t ∷ []) r.ready_is ∙ sym (map_snoc q (t, a));
    tasks = same_counts l l2 (λ (c : Counts). c.tasks) d.tasks counts r.tasks;
    ports = same_counts l l2 (λ (c : Counts). c.ports) d.ports counts r.ports;
    waits = same_counts l l2 (λ (c : Counts). c.waits) d.waits counts r.waits;
    lane_counts = λ u c e. absurd (let z : None ≡ Some (u, c) = sym off ∙ e in cc);
    ready_counts = each-append (λ x. x.1.alts ≡ d.alts x.0) q ((t, a) ∷ []) r.ready_counts (r.lane_counts t a on, tt);
    parked_counts = r.parked_counts;
  }

  -- the reading is over what stands there
  reads_at : (h : Parts (TaskAgent A)) (d : Desk) (l : LaneView (TaskAgent A)) (q : List (ℕ × TaskAgent A)) → (r : DeskReads h d) → h.lane 0 ≡ Some l → h.ready 0 ≡ Some q → ReadsOff l q (whole h.shard) d
  reads_at h d l q r on at = subst (λ (x : LaneView (TaskAgent A)). ReadsOff x q (whole h.shard) d) (some_same r.lane l (sym r.in_lane ∙ on)) (subst (λ (x : List (ℕ × TaskAgent A)). ReadsOff r.lane x (whole h.shard) d) (some_same r.queue q (sym r.in_ready ∙ at)) r.reads)

  over_shards : (now old new : Parts (TaskAgent A)) (l : LaneView (TaskAgent A)) (q : List (ℕ × TaskAgent A)) (d : Desk) → IsPart old now → Stays old.shard new.shard → ReadsOff l q (whole now.shard) d → ReadsOff l q (whole (laid now.shard new.shard)) d
  over_shards now old new l q d part stays r = subst (λ (f : ℕ → Option (ℕ → Option (Parked (TaskAgent A)))). ReadsOff l q (whole f) d) (sym (untouched now.shard old.shard new.shard part.shards stays)) r

  -- Pick
  pub picks_reads : (now old new : Parts (TaskAgent A)) (d : Desk) → DeskReads now d → IsPart old now → (m : MovesPick 0 0 old new) → (d.ready ≡ m.x.0 ∷ map task_number m.rest) × DeskReads (laid_parts now new) (on_lane d m.x.0 (map task_number m.rest))
  picks_reads now old new d r part m = let off = reads_at now d m.lane (m.x ∷ m.rest) r (part.lanes 0 m.lane m.lanes.was) (part.readys 0 (m.x ∷ m.rest) m.readys.was) in (
    off.ready_is,
    record {
      lane = m.lane2;
      in_lane = ap (λ o. or_was o (now.lane 0)) m.lanes.is;
      queue = m.rest;
      in_ready = ap (λ o. or_was o (now.ready 0)) m.readys.is;
      reads = over_shards now old new m.lane2 m.rest (on_lane d m.x.0 (map task_number m.rest)) part m.others.shards (pick_counts m.lane m.lane2 m.x m.rest (whole now.shard) d off m.task m.since m.same.1);
    },
  )

  -- Yield
  pub yields_reads : (now old new : Parts (TaskAgent A)) (d : Desk) → DeskReads now d → IsPart old now → (m : MovesYield 0 old new)
      → (d.lane ≡ Some (record { task = m.t; events = m.lane.since })) × DeskReads (laid_parts now new) (record d { ready = d.ready ++ m.t ∷ []; lane = None })
  yields_reads now old new d r part m = let off = reads_at now d m.lane m.queue r (part.lanes 0 m.lane m.lanes.was) (part.readys 0 m.queue m.readys.was) in (
    off.lane_is ∙ ap (λ o. lane_read o m.lane.since) m.task,
    record {
      lane = m.lane2;
      in_lane = ap (λ o. or_was o (now.lane 0)) m.lanes.is;
      queue = m.queue ++ (m.t, m.agent) ∷ [];
      in_ready = ap (λ o. or_was o (now.ready 0)) m.readys.is;
      reads = over_shards now old new m.lane2 (m.queue ++ (m.t, m.agent) ∷ []) (record d { ready = d.ready ++ m.t ∷ []; lane = None }) part m.others.shards (yield_counts m.lane m.lane2 m.t m.agent m.queue (whole now.shard) d off m.task m.empty m.same.1);
    },
  )

  -- lane, ready part and shards stay, and answers of the clock may come or go: so after Prune, Read, Tick, Stall
  pub same_reads : (now old new : Parts (TaskAgent A)) (d : Desk) (rs : List ℕ) → DeskReads now d → IsPart old now → Stays old.lane new.lane → Stays old.ready new.ready → Stays old.shard new.shard → DeskReads (laid_parts now new) (with_readings rs d)
  same_reads now old new d rs r part lanes readys shards = record {
    lane = r.lane;
    in_lane = ap (λ (f : ℕ → Option (LaneView (TaskAgent A))). f 0) (untouched now.lane old.lane new.lane part.lanes lanes) ∙ r.in_lane;
    queue = r.queue;
    in_ready = ap (λ (f : ℕ → Option (List (ℕ × TaskAgent A))). f 0) (untouched now.ready old.ready new.ready part.readys readys) ∙ r.in_ready;
    reads = over_shards now old new r.lane r.queue (with_readings rs d) part shards (record {
      lane_is = r.reads.lane_is;
      ready_is = r.reads.ready_is;
      tasks = r.reads.tasks;
      ports = r.reads.ports;
      waits = r.reads.waits;
      lane_counts = r.reads.lane_counts;
      ready_counts = r.reads.ready_counts;
      parked_counts = r.reads.parked_counts;
    });
  }
