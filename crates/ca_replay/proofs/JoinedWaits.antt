-- The scene with a new wait.
use Rattle.std.proofs.Common.{◌≡◌, ℕ, suc, List, [], ◌∷◌, ◌++◌, map, refl, sym, ap, ap₂, ◌∙◌, subst, Option, Some, None, option_map, is_some, Bool, true, false, cond, eqb, eqb-true}
use Rattle.std.specs.Map.{lookup, keys_of}
use Rattle.std.specs.List.{IsDistinct}
use Rattle.indexmap.specs.IndexMap.{get, keys, insert_entry}
use Rattle.indexmap.proofs.CallerLemmas.{insert_entry-new}
use Rattle.ca_value.specs.Seq.{list}
use Rattle.ca_term.specs.declared.event.Side.{Side}
use Rattle.ca_term.specs.declared.event.Side.TheVariants.{Take, Put}
use Rattle.ca_term.specs.Event.{BranchView, take_of, put_of, branch_view}
use Rattle.ca_term.specs.Operation.{OpView}
use Rattle.ca_meaning.specs.Channel.{Channel}
use Rattle.ca_meaning.specs.Choice.{branches_of}
use Rattle.ca_meaning.specs.Refusal.{refusal}
use Rattle.ca_meaning.specs.Sound.{Each}
use Rattle.ca_meaning.specs.State.{State, Channels}
use Rattle.ca_meaning.specs.Wait.{Wait, side_of, port_of, is_on, handlers, is_live, is_among, brought}
use Rattle.ca_meaning.proofs.Refusals.{GoodBranch, good_branches}
use Rattle.ca_scene.specs.declared.scene.Scene.{Scene}
use Rattle.ca_scene.specs.declared.scene.Waiting.{Waiting}
use Rattle.ca_scene.specs.Scene.{scene_state, task_at, room_at, room_channel, waits_in, used_from, TasksAreShown, IsQueued, IsScene}
use Rattle.ca_scene.proofs.Waitings.{waits_joined, used_joined, given_there}
use Rattle.ca_replay.specs.Changes.{mapped_at}
use Rattle.ca_replay.specs.Moves.{HaveHomes, with_wait}
use Rattle.ca_replay.specs.Rooms.{RoomView, rooms_kept, join, join_rooms}
use Rattle.ca_replay.proofs.Joinings.{queued_joined}
use Rattle.ca_replay.proofs.TakenOut.{channel_seen, live_there}

-- the channels' own parts stay
channels_joined : (w k : ℕ) (bs : List BranchView) (m : ℕ → Option RoomView) (p : ℕ) → option_map (λ (k : RoomView). k.channel) (join_rooms w k bs m p) ≡ option_map (λ (k : RoomView). k.channel) (m p)
channels_joined w k [] m p = refl
channels_joined w k (b ∷ bs) m p = channels_joined w (suc k) bs (mapped_at m (port_of b) (join (side_of b) (record { wait = w; branch = k; value = brought b }))) p ∙ by (eqb (port_of b) p) refl where
  same : (side : Side) (o : Option RoomView) → option_map (λ (k : RoomView). k.channel) (option_map (join side (record { wait = w; branch = k; value = brought b })) o) ≡ option_map (λ (k : RoomView). k.channel) o
  same side None = refl
  same Take (Some k) = refl
  same Put (Some k) = refl

  by : (t : Bool) → eqb (port_of b) p ≡ t → option_map (λ (k : RoomView). k.channel) (cond t (option_map (join (side_of b) (record { wait = w; branch = k; value = brought b })) (m (port_of b))) (m p)) ≡ option_map (λ (k : RoomView). k.channel) (m p)
  by true e = same (side_of b) (m (port_of b)) ∙ ap (λ n. option_map (λ (k : RoomView). k.channel) (m n)) (eqb-true (port_of b) p e)
  by false e = refl

-- branches stand on channels that are there
no_handlers : (channels : Channels) (side : Side) (p w k : ℕ) (bs : List BranchView) → HaveHomes channels bs → channels p ≡ None → handlers side p w k bs ≡ []
no_handlers channels side p w k [] a e = refl
no_handlers channels side p w k (b ∷ bs) a e = by (is_on side p b) (off side b a.0) ∙ no_handlers channels side p w (suc k) bs a.1 e where
  apart : (q : ℕ) → ((c : Channel) × (channels q ≡ Some c)) → eqb p q ≡ false
  apart q there = here (eqb p q) refl where
    here : (t : Bool) → eqb p q ≡ t → t ≡ false
    here false is = refl
    here true is = absurd (let j : None ≡ Some there.0 = sym e ∙ ap channels (eqb-true p q is) ∙ there.1 in cc)

  off : (side : Side) (b : BranchView) → ((c : Channel) × (channels (port_of b) ≡ Some c)) → is_on side p b ≡ false
  off Take (take_of q) g = apart q g
  off Put (put_of q v) g = apart q g
  off Take (put_of q v) g = refl
  off Put (take_of q) g = refl

  by : (t : Bool) → t ≡ false → cond t (record { wait = w; branch = k; value = brought b } ∷ handlers side p w (suc k) bs) (handlers side p w (suc k) bs) ≡ handlers side p w (suc k) bs
  by true f = absurd (let j : true ≡ false = f in cc)
  by false f = refl

homes_of : (channels : Channels) (bs : List BranchView) → Each (GoodBranch channels) bs → HaveHomes channels bs
homes_of channels [] a = tt
homes_of channels (b ∷ bs) a = (a.0.0, homes_of channels bs a.1)

-- the branches of an operation that isn't refused have homes
pub op_homes : (s : State) (op : OpView) → refusal s op ≡ None → HaveHomes s.channels (branches_of op)
op_homes s op e = homes_of s.channels (branches_of op) (good_branches s op e)

dead : (w : ℕ) (es : List (ℕ × Option Waiting)) → IsDistinct eqb (keys_of es) → lookup (eqb w) es ≡ None → is_live w (waits_in es) ≡ false
dead w es d none = by (is_live w (waits_in es)) refl where
  by : (b : Bool) → is_live w (waits_in es) ≡ b → b ≡ false
  by false e = refl
  by true e = let y = live_there w es d e in absurd (let j : None ≡ Some (Some y.0) = sym none ∙ y.1 in cc)

module _ (s n : Scene) (w : ℕ) (x : Waiting) (scene : IsScene s) (new : is_among w (scene_state s).used ≡ false) (same : n ≡ record s { rooms = n.rooms; waits = n.waits })
    (joins : rooms_kept n.rooms ≡ join_rooms w 0 (map branch_view (list x.branches)) (rooms_kept s.rooms)) (entries : n.waits.entries ≡ insert_entry eqb s.waits.entries w (Some x)) where
  new_here : get eqb s.waits w ≡ None
  new_here = by (get eqb s.waits w) refl where
    by : (o : Option (Option Waiting)) → get eqb s.waits w ≡ o → o ≡ None
    by None f = refl
    by (Some y) f = absurd (let j : true ≡ false = sym (given_there w s.waits.entries ∙ ap is_some f) ∙ new in cc)

  longer : n.waits.entries ≡ s.waits.entries ++ (w, Some x) ∷ []
  longer = entries ∙ insert_entry-new eqb s.waits w (Some x) new_here

  waits_now : waits_in n.waits.entries ≡ waits_in s.waits.entries ++ record { number = w; owner = x.owner; branches = map branch_view (list x.branches) } ∷ []
  waits_now = ap waits_in longer ∙ waits_joined s.waits.entries w x

  channels_now : (scene_state n).channels ≡ (scene_state s).channels
  channels_now = λ i q. (each q) i where
    each : (q : ℕ) → option_map room_channel (room_at n q) ≡ option_map room_channel (room_at s q)
    each q = channel_seen (room_at n q) ∙ ap (λ (m : ℕ → Option RoomView). option_map (λ (k : RoomView). k.channel) (m q)) joins ∙ channels_joined w 0 (map branch_view (list x.branches)) (rooms_kept s.rooms) q ∙ sym (channel_seen (room_at s q))

  pub joined_state : scene_state n ≡ with_wait w x.owner (map branch_view (list x.branches)) (scene_state s)
  joined_state =
      ap scene_state same
      ∙ ap (λ (c : Channels). record (scene_state s) { channels = c; waits = waits_in n.waits.entries; used = used_from [] n.waits.entries }) channels_now
      ∙ ap₂ (λ (ws : List Wait) (u : List ℕ). record (scene_state s) { waits = ws; used = u }) waits_now (ap (used_from []) longer ∙ used_joined s.waits.entries w (Some x) [])

  pub joined_scene : HaveHomes (scene_state s).channels (map branch_view (list x.branches)) → IsDistinct eqb (keys n.waits) → IsScene n
  joined_scene homes distinct = record {
    shown = subst (λ (m : Scene). TasksAreShown (task_at m)) (sym same) scene.shown;
    queued = subst (IsQueued (room_at n)) (sym waits_now)
        (queued_joined (room_at s) (room_at n) (waits_in s.waits.entries) (record { number = w; owner = x.owner; branches = map branch_view (list x.branches) }) (dead w s.waits.entries scene.distinct new_here)
        (λ side p none. no_handlers (scene_state s).channels side p w 0 (map branch_view (list x.branches)) homes (ap (option_map room_channel) none)) (λ p. ap (λ (m : ℕ → Option RoomView). m p) joins) scene.queued);
    distinct = distinct;
  }
