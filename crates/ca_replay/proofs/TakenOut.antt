-- A wait that is taken out of the scene: its queues stay right.
use Rattle.std.proofs.Common.{◌≡◌, ℕ, suc, List, [], ◌∷◌, ◌++◌, map, refl, sym, ap, ap₂, ◌∙◌, subst, Option, Some, None, option_map, Bool, true, false, not, cond, eqb, eqb-true, eq-eqb, filter}
use Rattle.std.proofs.lemmas.List.Elements.{filter-append}
use Rattle.std.specs.Map.{lookup, keys_of}
use Rattle.std.specs.List.{IsDistinct}
use Rattle.indexmap.specs.IndexMap.{insert_entry, keys}
use Rattle.ca_value.specs.Seq.{list}
use Rattle.ca_term.specs.declared.event.Side.{Side}
use Rattle.ca_term.specs.declared.event.Side.TheVariants.{Take, Put}
use Rattle.ca_term.specs.Event.{BranchView, branch_view}
use Rattle.ca_meaning.specs.Wait.{Wait, Handler, side_of, port_of, brought, is_on, joins, handlers, head, without, is_live, owner_of}
use Rattle.ca_meaning.specs.Sound.{Each}
use Rattle.ca_scene.specs.declared.room.Room.{Room}
use Rattle.ca_meaning.specs.State.{Channels}
use Rattle.ca_scene.specs.declared.scene.Scene.{Scene}
use Rattle.ca_scene.specs.declared.scene.Waiting.{Waiting}
use Rattle.ca_replay.specs.Changes.{mapped_at}
use Rattle.ca_replay.specs.Moves.{without_wait}
use Rattle.ca_replay.specs.Rooms.{RoomView, others, room_view, rooms_kept, leave, leave_all}
use Rattle.ca_scene.specs.Scene.{first_handlers, firsts, queues_at, room_at, room_channel, scene_state, task_at, wait_or, waits_in, used_from, owner_in, TasksAreShown, IsQueued, IsScene}
use Rattle.ca_scene.proofs.Queues.{firsts_without, head_number, of_wait}
use Rattle.ca_replay.proofs.Leavings.{IsOnce, queue_in, all_left}
use Rattle.ca_scene.proofs.Waitings.{tail_distinct, head_absent, owner_there, used_gone, waits_gone}

pub queue_seen : (side : Side) (o : Option Room) → queues_at side o ≡ queue_in side (option_map room_view o)
queue_seen Take None = refl
queue_seen Put None = refl
queue_seen Take (Some r) = refl
queue_seen Put (Some r) = refl

-- where no branch stands on a side, the wait has no handler there
none_on : (side : Side) (p n k : ℕ) (bs : List BranchView) → joins side p bs ≡ false → handlers side p n k bs ≡ []
none_on side p n k [] e = refl
none_on side p n k (b ∷ bs) e = by (is_on side p b) e (λ f. none_on side p n (suc k) bs f) where
  by : (t : Bool) → cond t true (joins side p bs) ≡ false → (joins side p bs ≡ false → handlers side p n (suc k) bs ≡ []) → cond t (record { wait = n; branch = k; value = brought b } ∷ handlers side p n (suc k) bs) (handlers side p n (suc k) bs) ≡ []
  by true e more = absurd (let j : true ≡ false = e in cc)
  by false e more = more e

abbrev pub HasBranches : ℕ → List BranchView → Wait → Type 0
HasBranches w bs x = x.number ≡ w → x.branches ≡ bs

unmoved : (side : Side) (p w : ℕ) (bs : List BranchView) (ws : List Wait) → joins side p bs ≡ false → Each (HasBranches w bs) ws → filter (others w) (firsts side p ws) ≡ firsts side p ws
unmoved side p w bs [] j a = refl
unmoved side p w bs (x ∷ xs) j a =
    filter-append (others w) (first_handlers (handlers side p x.number 0 x.branches)) (firsts side p xs)
    ∙ ap₂ (λ (l m : List Handler). l ++ m) (by (eqb w x.number) refl) (unmoved side p w bs xs j a.1) where
      by : (b : Bool) → eqb w x.number ≡ b → filter (others w) (first_handlers (handlers side p x.number 0 x.branches)) ≡ first_handlers (handlers side p x.number 0 x.branches)
      by true e = let none : handlers side p x.number 0 x.branches ≡ [] = ap (handlers side p x.number 0) (a.0 (sym (eqb-true w x.number e))) ∙ none_on side p x.number 0 bs j in ap (λ l. filter (others w) (first_handlers l)) none ∙ sym (ap first_handlers none)
      by false e = of_wait side p x.number 0 x.branches w false e

pub queued_without : (old new : ℕ → Option Room) (ws : List Wait) (w : ℕ) (bs : List BranchView) → Each (HasBranches w bs) ws → ((side : Side) (p : ℕ) → IsOnce w (firsts side p ws))
    → ((p : ℕ) → option_map room_view (new p) ≡ leave_all w bs (λ q. option_map room_view (old q)) p) → IsQueued old ws → IsQueued new (without w ws)
queued_without old new ws w bs each once leaves queued side p =
    queue_seen side (new p) ∙ ap (queue_in side) (leaves p) ∙ all_left side p w bs (λ q. option_map room_view (old q)) (subst (IsOnce w) (sym before) (once side p))
    ∙ ap (λ q. cond (joins side p bs) (filter (others w) q) q) before
    ∙ by (joins side p bs) refl ∙ sym (firsts_without side p w ws) where
      before : queue_in side (option_map room_view (old p)) ≡ firsts side p ws
      before = sym (queue_seen side (old p)) ∙ queued side p

      by : (b : Bool) → joins side p bs ≡ b → cond b (filter (others w) (firsts side p ws)) (firsts side p ws) ≡ filter (others w) (firsts side p ws)
      by true e = refl
      by false e = sym (unmoved side p w bs ws e each)

-- the branches of a wait by its number
abbrev Entries : Type 0
Entries = List (ℕ × Option Waiting)

none_of_number : (w : ℕ) (bs : List BranchView) (es : Entries) → lookup (eqb w) es ≡ None → Each (HasBranches w bs) (waits_in es)
none_of_number w bs [] e = tt
none_of_number w bs (x ∷ es) e = by x.1 (eqb w x.0) refl e (λ f. none_of_number w bs es f) where
  by : (o : Option Waiting) (b : Bool) → eqb w x.0 ≡ b → cond b (Some x.1) (lookup (eqb w) es) ≡ None → (lookup (eqb w) es ≡ None → Each (HasBranches w bs) (waits_in es)) → Each (HasBranches w bs) (wait_or x.0 o (waits_in es))
  by o true is e more = absurd (let j : Some x.1 ≡ None = e in cc)
  by None false is e more = more e
  by (Some y) false is e more = ((λ n. absurd (let j : true ≡ false = sym (eq-eqb w x.0 (sym n)) ∙ is in cc)), more e)

pub branches_of_number : (w : ℕ) (y : Waiting) (es : Entries) → IsDistinct eqb (keys_of es) → lookup (eqb w) es ≡ Some (Some y) → Each (HasBranches w (map branch_view (list y.branches))) (waits_in es)
branches_of_number w y [] d e = tt
branches_of_number w y (x ∷ es) d e = by x.1 (eqb w x.0) refl refl e (λ f. branches_of_number w y es (tail_distinct x es d) f) where
  same : (a b : Option Waiting) → Some a ≡ Some b → a ≡ b
  same a b k = cc

  inner : (a b : Waiting) → Some a ≡ Some b → a ≡ b
  inner a b k = cc

  by : (o : Option Waiting) (b : Bool) → x.1 ≡ o → eqb w x.0 ≡ b → cond b (Some x.1) (lookup (eqb w) es) ≡ Some (Some y) → (lookup (eqb w) es ≡ Some (Some y) → Each (HasBranches w (map branch_view (list y.branches))) (waits_in es)) → Each (HasBranches w (map branch_view (list y.branches))) (wait_or x.0 o (waits_in es))
  by None true at is e more = absurd (let j : None ≡ Some y = sym at ∙ same x.1 (Some y) e in cc)
  by (Some z) true at is e more =
      ((λ n. ap (λ (v : Waiting). map branch_view (list v.branches)) (inner z y (sym at ∙ same x.1 (Some y) e))), none_of_number w (map branch_view (list y.branches)) es (ap (λ n. lookup (eqb n) es) (eqb-true w x.0 is) ∙ head_absent x es d))
  by None false at is e more = more e
  by (Some z) false at is e more = ((λ n. absurd (let j : true ≡ false = sym (eq-eqb w x.0 (sym n)) ∙ is in cc)), more e)

-- a live wait has its entry
pub live_there : (w : ℕ) (es : Entries) → IsDistinct eqb (keys_of es) → is_live w (waits_in es) ≡ true → (y : Waiting) × (lookup (eqb w) es ≡ Some (Some y))
live_there w [] d e = absurd (let j : false ≡ true = e in cc)
live_there w (x ∷ es) d e = by x.1 (eqb w x.0) refl refl e (λ f. live_there w es (tail_distinct x es d) f) where
  found : (o : Option Waiting) → x.1 ≡ o → (b : Bool) → eqb w x.0 ≡ b → (y : Waiting) × (lookup (eqb w) es ≡ Some (Some y)) → (y : Waiting) × (cond b (Some x.1) (lookup (eqb w) es) ≡ Some (Some y))
  found o at true is (y, f) = absurd (let j : None ≡ Some (Some y) = sym (ap (λ n. lookup (eqb n) es) (eqb-true w x.0 is) ∙ head_absent x es d) ∙ f in cc)
  found o at false is (y, f) = (y, f)

  by : (o : Option Waiting) (b : Bool) → x.1 ≡ o → eqb w x.0 ≡ b → is_live w (wait_or x.0 o (waits_in es)) ≡ true → (is_live w (waits_in es) ≡ true → (y : Waiting) × (lookup (eqb w) es ≡ Some (Some y))) → (y : Waiting) × (cond b (Some x.1) (lookup (eqb w) es) ≡ Some (Some y))
  by None b at is e more = found None at b is (more e)
  by (Some z) true at is e more = (z, ap (λ (o : Option Waiting). Some o) at)
  by (Some z) false at is e more = found (Some z) at false is (more (ap (λ c. cond c true (is_live w (waits_in es))) (sym is) ∙ e))

-- the channels' own parts stay where only queues change
pub channels_left : (w : ℕ) (bs : List BranchView) (m : ℕ → Option RoomView) (p : ℕ) → option_map (λ (k : RoomView). k.channel) (leave_all w bs m p) ≡ option_map (λ (k : RoomView). k.channel) (m p)
channels_left w [] m p = refl
channels_left w (b ∷ bs) m p = channels_left w bs (mapped_at m (port_of b) (leave (side_of b) w)) p ∙ by (eqb (port_of b) p) refl where
  left : (side : Side) (o : Option RoomView) → option_map (λ (k : RoomView). k.channel) (option_map (leave side w) o) ≡ option_map (λ (k : RoomView). k.channel) o
  left side None = refl
  left Take (Some k) = refl
  left Put (Some k) = refl

  by : (t : Bool) → eqb (port_of b) p ≡ t → option_map (λ (k : RoomView). k.channel) (cond t (option_map (leave (side_of b) w) (m (port_of b))) (m p)) ≡ option_map (λ (k : RoomView). k.channel) (m p)
  by true e = left (side_of b) (m (port_of b)) ∙ ap (λ n. option_map (λ (k : RoomView). k.channel) (m n)) (eqb-true (port_of b) p e)
  by false e = refl

pub gone_none : {G : Type 0} {o : Option (Option Waiting)} → (y : Waiting) × (o ≡ Some (Some y)) → o ≡ None → G
gone_none (y, f) e = absurd (let j : None ≡ Some (Some y) = sym e ∙ f in cc)

pub gone_nothing : {G : Type 0} {o : Option (Option Waiting)} → (y : Waiting) × (o ≡ Some (Some y)) → o ≡ Some None → G
gone_nothing (y, f) e = absurd (let j : Some None ≡ Some (Some y) = sym e ∙ f in cc)

pub channel_seen : (o : Option Room) → option_map room_channel o ≡ option_map (λ (k : RoomView). k.channel) (option_map room_view o)
channel_seen None = refl
channel_seen (Some r) = refl

-- a wait that isn't there is taken out without change
without_absent : (w : ℕ) (es : Entries) → lookup (eqb w) es ≡ None → without w (waits_in es) ≡ waits_in es
without_absent w [] e = refl
without_absent w (x ∷ es) e = by x.1 (eqb w x.0) refl e (λ f. without_absent w es f) where
  by : (o : Option Waiting) (b : Bool) → eqb w x.0 ≡ b → cond b (Some x.1) (lookup (eqb w) es) ≡ None → (lookup (eqb w) es ≡ None → without w (waits_in es) ≡ waits_in es) → without w (wait_or x.0 o (waits_in es)) ≡ wait_or x.0 o (waits_in es)
  by o true is e more = absurd (let k : Some x.1 ≡ None = e in cc)
  by None false is e more = more e
  by (Some y) false is e more = ap (λ c. cond (not c) (wait_or x.0 (Some y) (without w (waits_in es))) (without w (waits_in es))) is ∙ ap (λ (l : List Wait). wait_or x.0 (Some y) l) (more e)

-- a wait stands in a queue once at most
pub firsts_once : (w : ℕ) (side : Side) (p : ℕ) (es : Entries) → IsDistinct eqb (keys_of es) → IsOnce w (firsts side p (waits_in es))
firsts_once w side p [] d = refl
firsts_once w side p (e ∷ es) d = by e.1 (firsts_once w side p es (tail_distinct e es d)) where
  gone : eqb w e.0 ≡ true → firsts side p (waits_in es) ≡ filter (others w) (firsts side p (waits_in es))
  gone is = ap (firsts side p) (sym (without_absent w es (ap (λ n. lookup (eqb n) es) (eqb-true w e.0 is) ∙ head_absent e es d))) ∙ firsts_without side p w (waits_in es)

  first : (h : Handler) (q : List Handler) (b : Bool) → eqb w h.wait ≡ b → (b ≡ true → q ≡ filter (others w) q) → IsOnce w (h ∷ q)
  first h q false is f = ap (λ c. cond c q (filter (others w) (h ∷ q))) is
  first h q true is f = ap (λ c. cond c q (filter (others w) (h ∷ q))) is ∙ f refl ∙ sym (ap (λ c. cond (not c) (h ∷ filter (others w) q) (filter (others w) q)) is)

  one : (hs : List Handler) → ((h : Handler) → head hs ≡ Some h → h.wait ≡ e.0) → IsOnce w (firsts side p (waits_in es)) → IsOnce w (first_handlers hs ++ firsts side p (waits_in es))
  one [] f ih = ih
  one (h ∷ hs) f ih = first h (firsts side p (waits_in es)) (eqb w h.wait) refl (λ is. gone (ap (eqb w) (sym (f h refl)) ∙ is))

  by : (o : Option Waiting) → IsOnce w (firsts side p (waits_in es)) → IsOnce w (firsts side p (wait_or e.0 o (waits_in es)))
  by None ih = ih
  by (Some y) ih = one (handlers side p e.0 0 (map branch_view (list y.branches))) (head_number side p e.0 0 (map branch_view (list y.branches))) ih

-- the scene without the wait
module _ (s n : Scene) (w : ℕ) (y : Waiting) (scene : IsScene s) (there : lookup (eqb w) s.waits.entries ≡ Some (Some y)) (same : n ≡ record s { rooms = n.rooms; waits = n.waits })
    (entries : n.waits.entries ≡ insert_entry eqb s.waits.entries w None) (leaves : rooms_kept n.rooms ≡ leave_all w (map branch_view (list y.branches)) (rooms_kept s.rooms)) where
  waits_now : waits_in n.waits.entries ≡ without w (waits_in s.waits.entries)
  waits_now = ap waits_in entries ∙ waits_gone w s.waits.entries scene.distinct

  channels_now : (scene_state n).channels ≡ (scene_state s).channels
  channels_now = λ i q. (each q) i where
    each : (q : ℕ) → option_map room_channel (room_at n q) ≡ option_map room_channel (room_at s q)
    each q = channel_seen (room_at n q) ∙ ap (λ (m : ℕ → Option RoomView). option_map (λ (k : RoomView). k.channel) (m q)) leaves ∙ channels_left w (map branch_view (list y.branches)) (rooms_kept s.rooms) q ∙ sym (channel_seen (room_at s q))

  pub gone_state : scene_state n ≡ without_wait w (scene_state s)
  gone_state =
      ap scene_state same
      ∙ ap₂ (λ (c : Channels) (ws : List Wait). record (scene_state s) { channels = c; waits = ws; used = used_from [] n.waits.entries }) channels_now waits_now
      ∙ ap (λ (u : List ℕ). record (without_wait w (scene_state s)) { used = u }) (ap (used_from []) entries ∙ used_gone w s.waits.entries (Some y) [] there)

  pub gone_scene : IsDistinct eqb (keys n.waits) → IsScene n
  gone_scene distinct = record {
    shown = subst (λ (m : Scene). TasksAreShown (task_at m)) (sym same) scene.shown;
    queued = subst (IsQueued (room_at n)) (sym waits_now)
        (queued_without (room_at s) (room_at n) (waits_in s.waits.entries) w (map branch_view (list y.branches)) (branches_of_number w y s.waits.entries scene.distinct there)
        (λ side p. firsts_once w side p s.waits.entries scene.distinct) (λ p. ap (λ (m : ℕ → Option RoomView). m p) leaves) scene.queued);
    distinct = distinct;
  }

-- whose wait it was
pub gone_owner : (s : Scene) (w : ℕ) (y : Waiting) → IsScene s → lookup (eqb w) s.waits.entries ≡ Some (Some y) → y.owner ≡ owner_of w (waits_in s.waits.entries)
gone_owner s w y scene there = sym (owner_there w s.waits.entries scene.distinct ∙ ap owner_in there)
