-- A channel that keeps or gives a value.
use Rattle.std.proofs.Common.{◌≡◌, ℕ, List, [], refl, sym, ap, ◌∙◌, subst, Option, Some, None, option_map, Bool, true, false, cond, eqb, eqb-true}
use Rattle.std.specs.Map.{update}
use Rattle.ca_value.specs.Buffer.{Policy, no_buffer, fixed_buffer, dropping_buffer, sliding_buffer, promise_buffer, give_first}
use Rattle.ca_value.specs.Tree.{Tree}
use Rattle.ca_term.specs.declared.event.Side.{Side}
use Rattle.ca_term.specs.declared.event.Side.TheVariants.{Take, Put}
use Rattle.ca_term.specs.Event.{BranchView, take_of, put_of}
use Rattle.ca_term.specs.Program.{ProgramView}
use Rattle.ca_meaning.specs.Channel.{Channel, keeping, giving}
use Rattle.ca_meaning.specs.Row.{completes, settles, row_on, settle_row}
use Rattle.ca_meaning.specs.State.{Channels}
use Rattle.ca_meaning.specs.Wait.{Wait, Handler}
use Rattle.ca_meaning.proofs.Rows.{TakeDone, gave, nothing_left, take_done, PutDone, refused, promised, accepted, put_done, Settled, moved_in, served, served_nil, settle_does}
use Rattle.ca_scene.specs.declared.room.Room.{Room}
use Rattle.ca_scene.specs.declared.scene.Scene.{Scene}
use Rattle.ca_scene.specs.Scene.{scene_state, room_at, room_channel, waits_in, IsQueued}
use Rattle.ca_replay.specs.Changes.{mapped_at}
use Rattle.ca_replay.specs.Rooms.{RoomView, room_view, rooms_kept, by_channel, accepting, done_by, served_by}
use Rattle.ca_replay.specs.SceneOf.{IsSceneOf}
use Rattle.ca_replay.proofs.Kept.{scene_there, tasks_there}
use Rattle.ca_replay.proofs.Leavings.{queue_in}
use Rattle.ca_replay.proofs.TakenOut.{queue_seen, channel_seen}

give_none : (policy : Policy) → give_first policy [] ≡ []
give_none no_buffer = refl
give_none fixed_buffer = refl
give_none dropping_buffer = refl
give_none sliding_buffer = refl
give_none promise_buffer = refl

-- a channel that holds nothing gives nothing
gave_none : (c : Channel) → c.held ≡ [] → giving c ≡ c
gave_none c e = ap (λ (l : List Tree). record c { held = l }) (ap (give_first c.policy) e ∙ give_none c.policy ∙ sym e)

-- what a branch that is done at once makes of its channel
pub done_so : (c after : Channel) (taker putter : Option Handler) (b : BranchView) (a : Tree) → row_on c taker putter b ≡ completes a after → done_by b c ≡ after
done_so c after taker putter (take_of p) a e = by (take_done c putter a after e) where
  by : TakeDone c a after → giving c ≡ after
  by (gave vs is e) = sym e
  by (nothing_left none cl is e) = gave_none c none ∙ sym e
done_so c after taker putter (put_of p v) a e = by (put_done c taker putter v a after e) where
  by : PutDone c taker putter v a after → accepting c v ≡ after
  by (refused cl is e) = ap (λ (t : Bool). cond t c (keeping c v)) cl ∙ sym e
  by (promised cl pr is e) = ap (λ (t : Bool). cond t c (keeping c v)) cl ∙ sym e
  by (accepted cl pr r t p is e) = ap (λ (t : Bool). cond t c (keeping c v)) cl ∙ sym e

-- what a channel that serves a waiting branch makes of itself
pub served_so : (c after : Channel) (taker putter : Option Handler) (side : Side) (h : Handler) (v : Tree) → settle_row c taker putter ≡ settles side h v after → served_by side v c ≡ after
served_so c after taker putter side h v e = by (settle_does c taker putter side h v after e) where
  by : Settled c taker putter side h v after → served_by side v c ≡ after
  by (moved_in sd p is d f r) = ap (λ (x : Side). served_by x v c) sd ∙ sym d
  by (served sd t vs is d) = ap (λ (x : Side). served_by x v c) sd ∙ sym d
  by (served_nil sd t none cl is d) = ap (λ (x : Side). served_by x v c) sd ∙ gave_none c none ∙ sym d

pub put_there : (channels : Channels) (p : ℕ) (f : Channel → Channel) (c after : Channel) → channels p ≡ Some c → f c ≡ after → mapped_at channels p f ≡ update eqb channels p (Some after)
put_there channels p f c after there e = ap (λ (o : Option Channel). update eqb channels p o) (ap (option_map f) there ∙ ap (λ (d : Channel). Some d) e)

-- one channel changes, and no queue
module _ (s m : Scene) (p : ℕ) (f : Channel → Channel) (same : m ≡ record s { rooms = m.rooms }) (is : (q : ℕ) → rooms_kept m.rooms q ≡ mapped_at (rooms_kept s.rooms) p (by_channel f) q) where
  pub changed_channels : (scene_state m).channels ≡ mapped_at (scene_state s).channels p f
  changed_channels = λ i q. (each q) i where
    each : (q : ℕ) → option_map room_channel (room_at m q) ≡ mapped_at (scene_state s).channels p f q
    each q = channel_seen (room_at m q) ∙ ap (option_map (λ (k : RoomView). k.channel)) (is q) ∙ by (eqb p q) where
      one : (o : Option Room) → option_map (λ (k : RoomView). k.channel) (option_map (by_channel f) (option_map room_view o)) ≡ option_map f (option_map room_channel o)
      one None = refl
      one (Some r) = refl

      by : (b : Bool) → option_map (λ (k : RoomView). k.channel) (cond b (option_map (by_channel f) (rooms_kept s.rooms p)) (rooms_kept s.rooms q)) ≡ cond b (option_map f (option_map room_channel (room_at s p))) (option_map room_channel (room_at s q))
      by true = one (room_at s p)
      by false = sym (channel_seen (room_at s q))

  pub changed_state : scene_state m ≡ record (scene_state s) { channels = mapped_at (scene_state s).channels p f }
  changed_state = ap scene_state same ∙ ap (λ (c : Channels). record (scene_state s) { channels = c }) changed_channels

  changed_queued : (ws : List Wait) → IsQueued (room_at s) ws → IsQueued (room_at m) ws
  changed_queued ws queued side q = queue_seen side (room_at m q) ∙ ap (queue_in side) (is q) ∙ by (eqb p q) refl ∙ sym (queue_seen side (room_at s q)) ∙ queued side q where
    one : (side : Side) (o : Option RoomView) → queue_in side (option_map (by_channel f) o) ≡ queue_in side o
    one side None = refl
    one Take (Some k) = refl
    one Put (Some k) = refl

    by : (b : Bool) → eqb p q ≡ b → queue_in side (cond b (option_map (by_channel f) (rooms_kept s.rooms p)) (rooms_kept s.rooms q)) ≡ queue_in side (rooms_kept s.rooms q)
    by true e = one side (rooms_kept s.rooms p) ∙ ap (λ r. queue_in side (rooms_kept s.rooms r)) (eqb-true p q e)
    by false e = refl

  pub changed_scene : (program : ProgramView) → IsSceneOf program s → IsSceneOf program m
  changed_scene program z = subst (IsSceneOf program) (sym same) (scene_there program (record s { rooms = m.rooms }) (tasks_there program s z) (changed_queued (waits_in s.waits.entries) z.scene.queued) z.scene.distinct)
