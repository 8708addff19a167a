-- A new wait joins the queues of its branches.
use Rattle.std.proofs.Common.{◌≡◌, ℕ, suc, List, [], ◌∷◌, ◌++◌, refl, sym, ap, ap₂, ◌∙◌, Option, Some, None, option_map, Bool, true, false, cond, eqb, eqb-true, eq-eqb, append-nil, ◌+◌, ◌-◌, ◌<◌, arith, length, map, drop, drop-cons, get_or, add-one}
use Rattle.ca_term.specs.declared.event.Side.{Side}
use Rattle.ca_term.specs.declared.event.Side.TheVariants.{Take, Put}
use Rattle.ca_term.specs.Event.{BranchView, take_of, put_of, branch_view}
use Rattle.ca_meaning.specs.Wait.{Wait, Handler, side_of, port_of, brought, is_on, handlers, head, is_live}
use Rattle.ca_meaning.specs.Sound.{Each}
use Rattle.ca_scene.specs.declared.room.Room.{Room}
use Rattle.ca_scene.specs.declared.room.Handler.{Handler as HandlerCode}
use Rattle.ca_term.specs.declared.event.Branch.{Branch}
use Rattle.ca_scene.specs.Scene.{handler_code_view}
use Rattle.ca_replay.specs.Changes.{mapped_at}
use Rattle.ca_replay.specs.Rooms.{RoomView, side_queue, room_view, ends_with, handler_joined, join, join_rooms}
use Rattle.ca_scene.specs.Scene.{first_handlers, firsts, queues_at, IsQueued}
use Rattle.ca_replay.proofs.Leavings.{queue_in, eqb_turn}
use Rattle.ca_meaning.proofs.Waits.{each-append}
use Rattle.ca_scene.proofs.Queues.{firsts_joined, head_number}
use Rattle.ca_replay.proofs.TakenOut.{queue_seen}

ends_joined : (w : ℕ) (q : List Handler) (h : Handler) → h.wait ≡ w → ends_with w (q ++ h ∷ []) ≡ true
ends_joined w [] h e = eq-eqb w h.wait (sym e)
ends_joined w (g ∷ []) h e = eq-eqb w h.wait (sym e)
ends_joined w (g ∷ f ∷ q) h e = ends_joined w (f ∷ q) h e

-- what the queue comes to, by whether the wait stands there already
abbrev comes_to : Side → ℕ → ℕ → ℕ → List BranchView → List Handler → Bool → List Handler
comes_to side p w k bs q true = q
comes_to side p w k bs q false = q ++ first_handlers (handlers side p w k bs)

abbrev new_handler : ℕ → ℕ → BranchView → Handler
new_handler w k b = record { wait = w; branch = k; value = brought b }

-- what one branch does to the queue of a side of a channel that is there
one_joined : (side : Side) (p w k : ℕ) (b : BranchView) (x : RoomView) (t : Bool) → eqb (port_of b) p ≡ t
    → queue_in side (cond t (Some (join (side_of b) (new_handler w k b) x)) (Some x)) ≡ cond (is_on side p b) (handler_joined (new_handler w k b) (side_queue side x)) (side_queue side x)
one_joined Take p w k (take_of q) x t e = by t ∙ sym (ap (λ c. cond c (handler_joined (new_handler w k (take_of q)) x.takes) x.takes) (eqb_turn p q t e)) where
  by : (t : Bool) → queue_in Take (cond t (Some (join Take (new_handler w k (take_of q)) x)) (Some x)) ≡ cond t (handler_joined (new_handler w k (take_of q)) x.takes) x.takes
  by true = refl
  by false = refl
one_joined Put p w k (put_of q v) x t e = by t ∙ sym (ap (λ c. cond c (handler_joined (new_handler w k (put_of q v)) x.puts) x.puts) (eqb_turn p q t e)) where
  by : (t : Bool) → queue_in Put (cond t (Some (join Put (new_handler w k (put_of q v)) x)) (Some x)) ≡ cond t (handler_joined (new_handler w k (put_of q v)) x.puts) x.puts
  by true = refl
  by false = refl
one_joined Take p w k (put_of q v) x true e = refl
one_joined Take p w k (put_of q v) x false e = refl
one_joined Put p w k (take_of q) x true e = refl
one_joined Put p w k (take_of q) x false e = refl

-- the channel that stands at p after one branch
at_next : (p w k : ℕ) (b : BranchView) (m : ℕ → Option RoomView) (x : RoomView) → m p ≡ Some x → (t : Bool) → eqb (port_of b) p ≡ t
    → (y : RoomView) × (mapped_at m (port_of b) (join (side_of b) (new_handler w k b)) p ≡ Some y) × (cond t (Some (join (side_of b) (new_handler w k b) x)) (Some x) ≡ Some y)
at_next p w k b m x e true is = (
  join (side_of b) (new_handler w k b) x,
  ap (λ c. cond c (option_map (join (side_of b) (new_handler w k b)) (m (port_of b))) (m p)) is ∙ ap (λ n. option_map (join (side_of b) (new_handler w k b)) (m n)) (eqb-true (port_of b) p is) ∙ ap (option_map (join (side_of b) (new_handler w k b))) e,
  refl,
)
at_next p w k b m x e false is = (x, ap (λ c. cond c (option_map (join (side_of b) (new_handler w k b)) (m (port_of b))) (m p)) is ∙ e, refl)

abbrev outcome : Side → ℕ → ℕ → ℕ → BranchView → List BranchView → List Handler → Bool → Bool → List Handler
outcome side p w k b bs q o true = q
outcome side p w k b bs q o false = q ++ first_handlers (cond o (new_handler w k b ∷ handlers side p w (suc k) bs) (handlers side p w (suc k) bs))

next : (side : Side) (p w k : ℕ) (b : BranchView) (bs : List BranchView) (q0 q1 r : List Handler) (o : Bool) → q1 ≡ cond o (handler_joined (new_handler w k b) q0) q0 → (t : Bool) → ends_with w q0 ≡ t
    → ((u : Bool) → ends_with w q1 ≡ u → r ≡ comes_to side p w (suc k) bs q1 u) → r ≡ outcome side p w k b bs q0 o t
next side p w k b bs q0 q1 r false e true is more = more true (ap (ends_with w) e ∙ is) ∙ e
next side p w k b bs q0 q1 r false e false is more = more false (ap (ends_with w) e ∙ is) ∙ ap (λ q. q ++ first_handlers (handlers side p w (suc k) bs)) e
next side p w k b bs q0 q1 r true e true is more = let same : q1 ≡ q0 = e ∙ ap (λ c. cond c q0 (q0 ++ new_handler w k b ∷ [])) is in more true (ap (ends_with w) same ∙ is) ∙ same
next side p w k b bs q0 q1 r true e false is more = let longer : q1 ≡ q0 ++ new_handler w k b ∷ [] = e ∙ ap (λ c. cond c q0 (q0 ++ new_handler w k b ∷ [])) is in more true (ap (ends_with w) longer ∙ ends_joined w q0 (new_handler w k b) refl) ∙ longer

pub all_joined : (side : Side) (p w k : ℕ) (bs : List BranchView) (m : ℕ → Option RoomView) (x : RoomView) → m p ≡ Some x → (t : Bool) → ends_with w (side_queue side x) ≡ t → queue_in side (join_rooms w k bs m p) ≡ comes_to side p w k bs (side_queue side x) t
all_joined side p w k [] m x e true is = ap (queue_in side) e
all_joined side p w k [] m x e false is = ap (queue_in side) e ∙ sym (append-nil (side_queue side x))
all_joined side p w k (b ∷ bs) m x e true is =
    let n = at_next p w k b m x e (eqb (port_of b) p) refl in
    let q : side_queue side n.0 ≡ cond (is_on side p b) (handler_joined (new_handler w k b) (side_queue side x)) (side_queue side x) = sym (ap (queue_in side) n.2) ∙ one_joined side p w k b x (eqb (port_of b) p) refl in
    next side p w k b bs (side_queue side x) (side_queue side n.0) (queue_in side (join_rooms w k (b ∷ bs) m p)) (is_on side p b) q true is (λ u v. all_joined side p w (suc k) bs (mapped_at m (port_of b) (join (side_of b) (new_handler w k b))) n.0 n.1 u v)
all_joined side p w k (b ∷ bs) m x e false is =
    let n = at_next p w k b m x e (eqb (port_of b) p) refl in
    let q : side_queue side n.0 ≡ cond (is_on side p b) (handler_joined (new_handler w k b) (side_queue side x)) (side_queue side x) = sym (ap (queue_in side) n.2) ∙ one_joined side p w k b x (eqb (port_of b) p) refl in
    next side p w k b bs (side_queue side x) (side_queue side n.0) (queue_in side (join_rooms w k (b ∷ bs) m p)) (is_on side p b) q false is (λ u v. all_joined side p w (suc k) bs (mapped_at m (port_of b) (join (side_of b) (new_handler w k b))) n.0 n.1 u v)

-- no wait of that number stands in the list
fresh_ends : (side : Side) (p w : ℕ) (ws : List Wait) → is_live w ws ≡ false → Each (λ (h : Handler). eqb w h.wait ≡ false) (firsts side p ws)
fresh_ends side p w [] f = tt
fresh_ends side p w (x ∷ xs) f = each-append (λ (h : Handler). eqb w h.wait ≡ false) (first_handlers (handlers side p x.number 0 x.branches)) (firsts side p xs) (first_one (handlers side p x.number 0 x.branches) (head_number side p x.number 0 x.branches)) (fresh_ends side p w xs (rest (eqb w x.number) f)) where
  rest : (b : Bool) → cond b true (is_live w xs) ≡ false → is_live w xs ≡ false
  rest true e = absurd (let j : true ≡ false = e in cc)
  rest false e = e

  not_it : (b : Bool) → cond b true (is_live w xs) ≡ false → b ≡ false
  not_it true e = e
  not_it false e = refl

  first_one : (hs : List Handler) → ((h : Handler) → head hs ≡ Some h → h.wait ≡ x.number) → Each (λ (h : Handler). eqb w h.wait ≡ false) (first_handlers hs)
  first_one [] g = tt
  first_one (h ∷ hs) g = (ap (eqb w) (g h refl) ∙ not_it (eqb w x.number) f, tt)

ends_fresh : (w : ℕ) (q : List Handler) → Each (λ (h : Handler). eqb w h.wait ≡ false) q → ends_with w q ≡ false
ends_fresh w [] a = refl
ends_fresh w (h ∷ []) a = a.0
ends_fresh w (h ∷ g ∷ q) a = ends_fresh w (g ∷ q) a.1

join_none : (w k : ℕ) (bs : List BranchView) (m : ℕ → Option RoomView) (p : ℕ) → m p ≡ None → join_rooms w k bs m p ≡ None
join_none w k [] m p e = e
join_none w k (b ∷ bs) m p e = join_none w (suc k) bs (mapped_at m (port_of b) (join (side_of b) (new_handler w k b))) p (by (eqb (port_of b) p) refl) where
  by : (t : Bool) → eqb (port_of b) p ≡ t → cond t (option_map (join (side_of b) (new_handler w k b)) (m (port_of b))) (m p) ≡ None
  by true is = ap (λ n. option_map (join (side_of b) (new_handler w k b)) (m n)) (eqb-true (port_of b) p is) ∙ ap (option_map (join (side_of b) (new_handler w k b))) e
  by false is = e

-- the queues with the new wait
pub queued_joined : (old new : ℕ → Option Room) (ws : List Wait) (x : Wait) → is_live x.number ws ≡ false → ((side : Side) (p : ℕ) → old p ≡ None → handlers side p x.number 0 x.branches ≡ [])
    → ((p : ℕ) → option_map room_view (new p) ≡ join_rooms x.number 0 x.branches (λ q. option_map room_view (old q)) p) → IsQueued old ws → IsQueued new (ws ++ x ∷ [])
queued_joined old new ws x fresh homes joins queued side p = queue_seen side (new p) ∙ ap (queue_in side) (joins p) ∙ by (old p) refl ∙ sym (firsts_joined side p ws x) where
  here : (r : Room) → old p ≡ Some r → queue_in side (join_rooms x.number 0 x.branches (λ q. option_map room_view (old q)) p) ≡ firsts side p ws ++ first_handlers (handlers side p x.number 0 x.branches)
  here r e =
      let q : side_queue side (room_view r) ≡ firsts side p ws = sym (queue_seen side (old p) ∙ ap (λ o. queue_in side (option_map room_view o)) e) ∙ queued side p in
      all_joined side p x.number 0 x.branches (λ q. option_map room_view (old q)) (room_view r) (ap (option_map room_view) e) false (ap (ends_with x.number) q ∙ ends_fresh x.number (firsts side p ws) (fresh_ends side p x.number ws fresh))
      ∙ ap (λ l. l ++ first_handlers (handlers side p x.number 0 x.branches)) q

  by : (o : Option Room) → old p ≡ o → queue_in side (join_rooms x.number 0 x.branches (λ q. option_map room_view (old q)) p) ≡ firsts side p ws ++ first_handlers (handlers side p x.number 0 x.branches)
  by (Some r) e = here r e
  by None e =
      ap (queue_in side) (join_none x.number 0 x.branches (λ q. option_map room_view (old q)) p (ap (option_map room_view) e))
      ∙ sym (ap₂ (λ (a b : List Handler). a ++ b) (sym (queued side p) ∙ ap (queues_at side) e) (ap first_handlers (homes side p e)))

pub joins_next : (w : ℕ) (bs : List Branch) (i : ℕ) (x : Branch) → x ≡ get_or bs i x → i < length bs → (m : ℕ → Option RoomView)
    → join_rooms w i (map branch_view (drop i bs)) m ≡ join_rooms w (i + 1) (map branch_view (drop (i + 1) bs)) (mapped_at m (port_of (branch_view x)) (join (side_of (branch_view x)) (record { wait = w; branch = i; value = brought (branch_view x) })))
joins_next w bs i x e lt m = rw (drop-cons bs i x, ← e, add-one) refl

pub ends_last : (w : ℕ) (q : List HandlerCode) (d : HandlerCode) → 0 < length q → ends_with w (map handler_code_view q) ≡ eqb w (get_or q (length q - 1) d).wait
ends_last w [] d lt = absurd (omega (arith, lt))
ends_last w (h ∷ []) d lt = refl
ends_last w (h ∷ g ∷ q) d lt = ends_last w (g ∷ q) d (omega arith) ∙ ap (λ n. eqb w (get_or (h ∷ g ∷ q) n d).wait) (let e : suc (suc (length q) - 1) ≡ suc (suc (length q)) - 1 = omega arith in e)
