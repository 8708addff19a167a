-- How the events of channels move the parts that they touch.
use Rattle.std.specs.Prelude.{◌≡◌, ℕ, ◌+◌, ◌*◌, List, [], ◌∷◌, Some, None, option_map, true}
use Rattle.ca_value.specs.Tree.{Tree, nil, bool, port}
use Rattle.ca_term.specs.declared.place.Place.{Place}
use Rattle.ca_term.specs.declared.event.Side.{Side}
use Rattle.ca_term.specs.Program.{ProgramView}
use Rattle.ca_term.specs.Operation.{OpView, posting, closing}
use Rattle.ca_term.specs.Event.{BranchView, put_of}
use Rattle.ca_meaning.specs.Body.{At, at_op}
use Rattle.ca_meaning.specs.Channel.{Channel, shut}
use Rattle.ca_meaning.specs.Wait.{Handler, side_of, port_of, head, told}
use Rattle.ca_meaning.specs.Row.{completes, meets, settles, settle_row}
use Rattle.ca_meaning.specs.Task.{reply_to}
use Rattle.ca_meaning.specs.Choice.{branches_of, default_of, parks}
use Rattle.ca_meaning.specs.ChannelSteps.{other_side, with_default}
use Rattle.ca_commit.specs.Asks.{Asks, AsksSettle, row_raw}
use Rattle.ca_commit.specs.Contents.{Kept, LaneView, Parked, Parts, alive_in, nobody, on, owner, put_on, whole, with_channel}
use Rattle.ca_commit.specs.Holds.{join_all}
use Rattle.ca_commit.specs.Moves.{Alters, Answers, FewIn, FitIn, NoneReadyIn, PicksIn, Stays, Stood, WakesIn}

module _ {A : Type 0} (place : A → At) (advances : ProgramView → A → A → Type 0) (gives : A → Tree → A → Type 0) where
  -- branch k, which is b, of task t's operation is done at once
  pub record MovesDone (w t k : ℕ) (b : BranchView) (v : Tree) (old new : Parts A) : Type 0 where
    pub op : OpView
    pub answers : Answers place advances gives w t op (reply_to op (port_of b) v) old new
    pub counts : answers.stands.lane2.counts ≡ answers.stands.lane.counts
    pub picks : PicksIn old op k b
    pub kept : Kept
    pub there : whole old.bank (port_of b) ≡ Some kept
    pub asks : Asks (alive_in old) b kept
    pub after : Channel
    pub by_row : row_raw kept b ≡ completes v after
    pub banks : Alters old.bank new.bank (port_of b) (Some (with_channel after kept))
    pub registries : Stays old.registry new.registry
    pub shards : Stays old.shard new.shard
    pub readys : Stays old.ready new.ready
    pub timers : new.timers ≡ old.timers

  -- branch k meets the first handler of the other side, whose wait leaves its shard
  pub record MovesMeet (wakes : A → Tree → A → Type 0) (w t k : ℕ) (side : Side) (p : ℕ) (v : Tree) (wait k2 : ℕ) (old new : Parts A) : Type 0 where
    pub op : OpView
    pub b : BranchView
    pub answers : Answers place advances gives w t op (reply_to op p (told side v)) old new
    pub counts : answers.stands.lane2.counts ≡ answers.stands.lane.counts
    pub picks : PicksIn old op k b
    pub side_is : side_of b ≡ side
    pub port_is : port_of b ≡ p
    pub kept : Kept
    pub there : whole old.bank (port_of b) ≡ Some kept
    pub asks : Asks (alive_in old) b kept
    pub h : Handler
    pub rest : List Handler
    pub by_row : row_raw kept b ≡ meets h v
    pub wait_is : h.wait ≡ wait
    pub branch_is : h.branch ≡ k2
    pub in_front : on (other_side side) kept ≡ h ∷ rest
    pub banks : Alters old.bank new.bank (port_of b) (Some (put_on (other_side side) rest kept))
    pub registries : Stays old.registry new.registry
    pub parked : Parked A
    pub lives : whole old.shard wait ≡ Some parked
    pub shards : Alters old.shard new.shard wait None
    pub wakes_up : WakesIn place wakes old new w p parked (told (other_side side) v)
    pub timers : new.timers ≡ old.timers

  pub record MovesDefault (w t : ℕ) (v : Tree) (old new : Parts A) : Type 0 where
    pub op : OpView
    pub answers : Answers place advances gives w t op (with_default v) old new
    pub counts : answers.stands.lane2.counts ≡ answers.stands.lane.counts
    pub default_is : default_of op ≡ Some v
    pub unready : NoneReadyIn old (branches_of op)
    pub banks : Stays old.bank new.bank
    pub registries : Stays old.registry new.registry
    pub shards : Stays old.shard new.shard
    pub readys : Stays old.ready new.ready
    pub timers : new.timers ≡ old.timers

  pub record MovesClose (w t p : ℕ) (old new : Parts A) : Type 0 where
    pub answers : Answers place advances gives w t (closing (port p)) nil old new
    pub counts : answers.stands.lane2.counts ≡ answers.stands.lane.counts
    pub kept : Kept
    pub there : whole old.bank p ≡ Some kept
    pub banks : Alters old.bank new.bank p (Some (with_channel (shut kept.channel) kept))
    pub registries : Stays old.registry new.registry
    pub shards : Stays old.shard new.shard
    pub readys : Stays old.ready new.ready
    pub timers : new.timers ≡ old.timers

-- A new wait of worker w of n: its number, its place in the queues of its branches, and its shard. Nothing is
-- ready, and no queue is full.
pub record Joins {A : Type 0} (w n wait : ℕ) (bs : List BranchView) (x : Parked A) (lane lane2 : LaneView A) (old new : Parts A) : Type 0 where
  pub next : wait ≡ 1 + w + n * lane.counts.waits
  pub counts : lane2.counts ≡ record { tasks = lane.counts.tasks; ports = lane.counts.ports; waits = lane.counts.waits + 1 }
  pub unready : NoneReadyIn old bs
  pub few : FewIn old bs
  pub banks : (i : ℕ) → new.bank i ≡ option_map (join_all wait bs) (old.bank i)
  pub registries : Stays old.registry new.registry
  pub shards : Alters old.shard new.shard wait (Some x)
  pub readys : Stays old.ready new.ready
  pub timers : new.timers ≡ old.timers

-- task t waits: its agent goes to the shard of the new wait
pub record MovesPark {A : Type 0} (place : A → At) (advances : ProgramView → A → A → Type 0) (parks_as : A → A → Type 0) (w n t wait : ℕ) (bs : List BranchView) (old new : Parts A) : Type 0 where
  pub op : OpView
  pub at : Place
  pub stands : Stood place advances w t (at_op (record { op = op; place = at })) old new
  pub fit : FitIn old op
  pub parks_there : parks op ≡ true
  pub branches_are : branches_of op ≡ bs
  pub no_default : default_of op ≡ None
  pub empty : stands.lane2.task ≡ None
  pub agent2 : A
  pub waits_as : parks_as stands.agent1 agent2
  pub joins : Joins w n wait bs (owner t agent2) stands.lane stands.lane2 old new

-- a put that isn't ready waits, and nobody with it
pub record MovesPost {A : Type 0} (place : A → At) (advances : ProgramView → A → A → Type 0) (gives : A → Tree → A → Type 0) (w n t wait p : ℕ) (v : Tree) (old new : Parts A) : Type 0 where
  pub answers : Answers place advances gives w t (posting (port p) v) (bool true) old new
  pub joins : Joins w n wait (put_of p v ∷ []) nobody answers.stands.lane answers.stands.lane2 old new

-- channel p serves the first handler of that side; its owner goes to the worker's own ready part
pub record MovesSettle {A : Type 0} (place : A → At) (wakes : A → Tree → A → Type 0) (w wait k : ℕ) (side : Side) (p : ℕ) (v : Tree) (old new : Parts A) : Type 0 where
  pub h : Handler
  pub after : Channel
  pub rest : List Handler
  pub kept : Kept
  pub there : whole old.bank p ≡ Some kept
  pub asks : AsksSettle (alive_in old) kept
  pub by_row : settle_row kept.channel (head kept.takes) (head kept.puts) ≡ settles side h v after
  pub wait_is : h.wait ≡ wait
  pub branch_is : h.branch ≡ k
  pub in_front : on side kept ≡ h ∷ rest
  pub banks : Alters old.bank new.bank p (Some (with_channel after (put_on side rest kept)))
  pub registries : Stays old.registry new.registry
  pub parked : Parked A
  pub lives : whole old.shard wait ≡ Some parked
  pub shards : Alters old.shard new.shard wait None
  pub lanes : Stays old.lane new.lane
  pub wakes_up : WakesIn place wakes old new w p parked (told side v)
  pub timers : new.timers ≡ old.timers
