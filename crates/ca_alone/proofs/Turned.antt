-- What the parts have, of all of them, after an event of the lane's task.
use Rattle.std.proofs.Common.{◌≡◌, ℕ, List, refl, sym, ap, ◌∙◌, subst, Option, Some, eqb}
use Rattle.std.specs.Map.{update}
use Rattle.ca_value.specs.Tree.{Tree}
use Rattle.ca_term.specs.declared.place.Place.{Place}
use Rattle.ca_term.specs.Program.{ProgramView}
use Rattle.ca_term.specs.Operation.{OpView, choosing, taking, putting, making, spawning, closing, registering, printing, posting}
use Rattle.ca_meaning.specs.Body.{At, at_op}
use Rattle.ca_meaning.specs.Task.{TaskBody}
use Rattle.ca_meaning.specs.State.{State, Task}
use Rattle.ca_meaning.specs.Going.{IsAtOp}
use Rattle.ca_meaning.specs.Solo.{Desk, alts_counted, made_one}
use Rattle.ca_agent.specs.Agents.{Advanced}
use Rattle.ca_commit.specs.Agents.{TaskAgent, advances_of, alts_at, alts_by, gives_of, place_of, stands_of}
use Rattle.ca_commit.specs.Contents.{LaneView, Parked, Parts, whole}
use Rattle.ca_commit.specs.Moves.{Alters, Answers, Stays, Stood}
use Rattle.ca_commit.specs.Running.{or_was}
use Rattle.ca_commit.specs.Seated.{Apart}
use Rattle.ca_commit.specs.Stands.{Stands}
use Rattle.ca_commit.proofs.AgentLifts.{lifts_advance}
use Rattle.ca_commit.proofs.Laid.{IsPart, laid, laid_parts, laid_same, laid_whole, same_map, untouched}
use Rattle.ca_commit.proofs.Seats.{some_same}
use Rattle.ca_commit.proofs.Steps.{stood}
use Rattle.ca_alone.specs.Reading.{DeskReads, ReadsOff}
use Rattle.ca_alone.proofs.Counting.{NoOwner, counts_on, counts_one, with_alts}
use Rattle.ca_alone.proofs.Elsewhere.{no_owner_too, not_ready_too}

pub same_alts : (op : OpView) (n : ℕ) → alts_by op n ≡ alts_counted op n
same_alts (choosing ports priority default) n = refl
same_alts (taking c) n = refl
same_alts (putting c v) n = refl
same_alts (making what) n = refl
same_alts (spawning seed) n = refl
same_alts (closing c) n = refl
same_alts (registering name args) n = refl
same_alts (printing line) n = refl
same_alts (posting c v) n = refl

-- task t stands at the operation
abbrev pub OpOf : State → ℕ → OpView → Type 0
OpOf s t op = (x : Task) × (s.tasks t ≡ Some x) × IsAtOp x.body op

module _ {A : Type 0} (now old new : Parts (TaskAgent A)) (part : IsPart old now) (d : Desk) (r : DeskReads now d) where
  -- the lane that an event found
  pub lane_found : (l : LaneView (TaskAgent A)) → old.lane 0 ≡ Some l → ReadsOff l r.queue (whole now.shard) d
  lane_found l e = subst (λ (z : LaneView (TaskAgent A)). ReadsOff z r.queue (whole now.shard) d) (some_same r.lane l (sym r.in_lane ∙ part.lanes 0 l e)) r.reads

  pub lane_left : (l2 : LaneView (TaskAgent A)) → new.lane 0 ≡ Some l2 → or_was (new.lane 0) (now.lane 0) ≡ Some l2
  lane_left l2 e = ap (λ o. or_was o (now.lane 0)) e

  pub queue_left : Stays old.ready new.ready → or_was (new.ready 0) (now.ready 0) ≡ Some r.queue
  queue_left e = laid_same (old.ready 0) (new.ready 0) (now.ready 0) (e 0) (part.readys 0) ∙ r.in_ready

  -- the lane alone was touched, of what is read
  pub only_lane : (l2 : LaneView (TaskAgent A)) (d2 : Desk) → new.lane 0 ≡ Some l2 → Stays old.ready new.ready → Stays old.shard new.shard → ReadsOff l2 r.queue (whole now.shard) d2 → DeskReads (laid_parts now new) d2
  only_lane l2 d2 at readys shards k = record {
    lane = l2;
    in_lane = lane_left l2 at;
    queue = r.queue;
    in_ready = queue_left readys;
    reads = subst (λ (f : ℕ → Option (ℕ → Option (Parked (TaskAgent A)))). ReadsOff l2 r.queue (whole f) d2) (sym (untouched now.shard old.shard new.shard part.shards shards)) k;
  }

  -- .. and one wait
  pub and_wait : (l2 : LaneView (TaskAgent A)) (q : List (ℕ × TaskAgent A)) (d2 : Desk) (wait : ℕ) (x : Option (Parked (TaskAgent A))) → or_was (new.lane 0) (now.lane 0) ≡ Some l2 → or_was (new.ready 0) (now.ready 0) ≡ Some q → Alters old.shard new.shard wait x
      → ReadsOff l2 q (update eqb (whole now.shard) wait x) d2 → DeskReads (laid_parts now new) d2
  and_wait l2 q d2 wait x at ready shards k = record {
    lane = l2;
    in_lane = at;
    queue = q;
    in_ready = ready;
    reads = subst (λ (f : ℕ → Option (Parked (TaskAgent A))). ReadsOff l2 q f d2) (sym (same_map (whole (laid now.shard new.shard)) (update eqb (whole now.shard) wait x) (laid_whole now.shard old.shard new.shard wait x part.shards shards))) k;
  }

module _ {A : Type 0} (place : A → At) (stands : ProgramView → A → TaskBody → Type 0) (advances : ProgramView → A → A → Type 0) (advance_law : Advanced stands place advances) (program : ProgramView)
    (now old new : Parts (TaskAgent A)) (s : State) (st : Stands (place_of place) (stands_of stands) program 1 now s) (part : IsPart old now) (d : Desk) (r : DeskReads now d) (t : ℕ) where
  -- the task stands there
  pub op_found : (op : OpView) (at : Place) → Stood (place_of place) (advances_of advances) 0 t (at_op (record { op = op; place = at })) old new → OpOf s t op
  op_found op at a = let k = stood (place_of place) (stands_of stands) program 1 (advances_of advances) (lifts_advance stands place advances advance_law) now old new s 0 t (at_op (record { op = op; place = at })) st part a in
      (k.0, k.1, (at, k.5))

  pub elsewhere : (at : At) (a : Stood (place_of place) (advances_of advances) 0 t at old new) → Apart t r.queue × NoOwner t (whole now.shard)
  elsewhere at a = let here = part.lanes 0 a.lane a.lanes.was in
      (not_ready_too (place_of place) (stands_of stands) program 1 now s st 0 a.lane t a.agent here a.task 0 r.queue r.in_ready, no_owner_too (place_of place) (stands_of stands) program 1 now s st 0 a.lane t a.agent here a.task)

  module _ (gives : A → Tree → A → Type 0) (op : OpView) (v : Tree) (a : Answers (place_of place) (advances_of advances) (gives_of place gives) 0 t op v old new) where
    pub alts_left : a.agent2.alts ≡ alts_counted op a.stands.agent.alts
    alts_left = a.given.1 ∙ ap (λ (z : At). alts_at z a.stands.agent1.alts) a.stands.stood ∙ same_alts op a.stands.agent1.alts ∙ ap (alts_counted op) a.stands.advanced.1

    -- it goes on, and its alts are counted
    pub one_counted : a.stands.lane2.counts ≡ a.stands.lane.counts → ReadsOff a.stands.lane2 r.queue (whole now.shard) (made_one (with_alts op t d))
    one_counted counts = let e = elsewhere (at_op (record { op = op; place = a.at })) a.stands in
        counts_one a.stands.lane a.stands.lane2 r.queue (whole now.shard) d op t a.stands.agent a.agent2 (lane_found now old new part d r a.stands.lane a.stands.lanes.was) a.stands.task e.0 e.1 a.task2 alts_left a.stands.since counts

    -- it goes on from what isn't an alts
    pub none_counted : (tasks ports waits : ℕ) (readings : List ℕ) → alts_counted op a.stands.agent.alts ≡ a.stands.agent.alts → tasks ≡ a.stands.lane2.counts.tasks → ports ≡ a.stands.lane2.counts.ports → waits ≡ a.stands.lane2.counts.waits
        → ReadsOff a.stands.lane2 r.queue (whole now.shard) (made_one (record d { tasks = tasks; ports = ports; waits = waits; readings = readings }))
    none_counted tasks ports waits readings same = counts_on a.stands.lane a.stands.lane2 r.queue (whole now.shard) d t a.stands.agent a.agent2 tasks ports waits readings (lane_found now old new part d r a.stands.lane a.stands.lanes.was) a.stands.task a.task2 (alts_left ∙ same) a.stands.since
