-- A wait leaves its queues branch by branch.
use Rattle.std.proofs.Common.{◌≡◌, ℕ, ◌+◌, ◌<◌, List, [], ◌∷◌, length, map, drop, drop-cons, get_or, add-one, refl, sym, ap, ◌∙◌, subst, Option, Some, None, option_map, Bool, true, false, not, cond, eqb, eqb-true, eq-eqb, filter, arith}
use Rattle.ca_term.specs.declared.event.Branch.{Branch}
use Rattle.ca_term.specs.declared.event.Side.{Side}
use Rattle.ca_term.specs.declared.event.Side.TheVariants.{Take, Put}
use Rattle.ca_term.specs.Event.{BranchView, take_of, put_of, branch_view}
use Rattle.ca_meaning.specs.Wait.{Handler, side_of, port_of, is_on, joins}
use Rattle.ca_scene.specs.declared.room.Handler.{Handler as HandlerCode}
use Rattle.ca_scene.specs.Scene.{handler_code_view}
use Rattle.ca_replay.specs.Changes.{mapped_at}
use Rattle.ca_replay.specs.Rooms.{RoomView, side_queue, others, starts_with, queue_after_leaving, leave, leave_all}

pub left_next : (w : ℕ) (bs : List Branch) (i : ℕ) (x : Branch) → x ≡ get_or bs i x → i < length bs → (m : ℕ → Option RoomView)
    → leave_all w (map branch_view (drop i bs)) m ≡ leave_all w (map branch_view (drop (i + 1) bs)) (mapped_at m (port_of (branch_view x)) (leave (side_of (branch_view x)) w))
left_next w bs i x e lt m = rw (drop-cons bs i x, ← e, add-one) refl

filter_twice : (w : ℕ) (q : List Handler) → filter (others w) (filter (others w) q) ≡ filter (others w) q
filter_twice w [] = refl
filter_twice w (h ∷ q) = by (others w h) refl (filter_twice w q) where
  by : (b : Bool) → others w h ≡ b → filter (others w) (filter (others w) q) ≡ filter (others w) q → filter (others w) (cond b (h ∷ filter (others w) q) (filter (others w) q)) ≡ cond b (h ∷ filter (others w) q) (filter (others w) q)
  by true e ih = ap (λ c. cond c (h ∷ filter (others w) (filter (others w) q)) (filter (others w) (filter (others w) q))) e ∙ ap (λ l. h ∷ l) ih
  by false e ih = ih

-- the wait stands in the queue once at most, so that all of it is gone once it left
abbrev pub IsOnce : ℕ → List Handler → Type 0
IsOnce w q = queue_after_leaving w q ≡ filter (others w) q

turn_not : (b : Bool) → not b ≡ true → b ≡ false
turn_not true e = absurd (let j : false ≡ true = e in cc)
turn_not false e = refl

not_first : (w : ℕ) (q : List Handler) → starts_with w (filter (others w) q) ≡ false
not_first w [] = refl
not_first w (h ∷ q) = by (not (eqb w h.wait)) refl (not_first w q) where
  by : (b : Bool) → not (eqb w h.wait) ≡ b → starts_with w (filter (others w) q) ≡ false → starts_with w (cond b (h ∷ filter (others w) q) (filter (others w) q)) ≡ false
  by true e ih = turn_not (eqb w h.wait) e
  by false e ih = ih

pub left_again : (w : ℕ) (q : List Handler) → IsOnce w (filter (others w) q)
left_again w q = ap (λ c. cond c (drop 1 (filter (others w) q)) (filter (others w) (filter (others w) q))) (not_first w q)

-- the queue of one side of one channel
abbrev pub queue_in : Side → Option RoomView → List Handler
queue_in side None = []
queue_in side (Some k) = side_queue side k

pub eqb_turn : (p q : ℕ) (t : Bool) → eqb q p ≡ t → eqb p q ≡ t
eqb_turn p q true e = eq-eqb p q (sym (eqb-true q p e))
eqb_turn p q false e = by (eqb p q) refl where
  by : (b : Bool) → eqb p q ≡ b → b ≡ false
  by false f = refl
  by true f = sym (eq-eqb q p (sym (eqb-true p q f))) ∙ e

-- what one branch's leaving makes of the queue of a side
one_left : (side : Side) (p w : ℕ) (b : BranchView) (o : Option RoomView) (t : Bool) → eqb (port_of b) p ≡ t → queue_in side (cond t (option_map (leave (side_of b) w) o) o) ≡ cond (is_on side p b) (queue_after_leaving w (queue_in side o)) (queue_in side o)
one_left Take p w (take_of q) o t e = by t o ∙ sym (ap (λ c. cond c (queue_after_leaving w (queue_in Take o)) (queue_in Take o)) (eqb_turn p q t e)) where
  by : (t : Bool) (o : Option RoomView) → queue_in Take (cond t (option_map (leave Take w) o) o) ≡ cond t (queue_after_leaving w (queue_in Take o)) (queue_in Take o)
  by true None = refl
  by true (Some k) = refl
  by false o = refl
one_left Put p w (put_of q v) o t e = by t o ∙ sym (ap (λ c. cond c (queue_after_leaving w (queue_in Put o)) (queue_in Put o)) (eqb_turn p q t e)) where
  by : (t : Bool) (o : Option RoomView) → queue_in Put (cond t (option_map (leave Put w) o) o) ≡ cond t (queue_after_leaving w (queue_in Put o)) (queue_in Put o)
  by true None = refl
  by true (Some k) = refl
  by false o = refl
one_left Take p w (put_of q v) o t e = by t o where
  by : (t : Bool) (o : Option RoomView) → queue_in Take (cond t (option_map (leave Put w) o) o) ≡ queue_in Take o
  by true None = refl
  by true (Some k) = refl
  by false o = refl
one_left Put p w (take_of q) o t e = by t o where
  by : (t : Bool) (o : Option RoomView) → queue_in Put (cond t (option_map (leave Take w) o) o) ≡ queue_in Put o
  by true None = refl
  by true (Some k) = refl
  by false o = refl

-- after all branches left: the queue without the wait, where some branch stands on that side
pub all_left : (side : Side) (p w : ℕ) (bs : List BranchView) (m : ℕ → Option RoomView) → IsOnce w (queue_in side (m p)) → queue_in side (leave_all w bs m p) ≡ cond (joins side p bs) (filter (others w) (queue_in side (m p))) (queue_in side (m p))
all_left side p w [] m once = refl
all_left side p w (b ∷ bs) m once =
    all_left side p w bs (mapped_at m (port_of b) (leave (side_of b) w)) (subst (IsOnce w) (sym gone) (still (is_on side p b)))
    ∙ ap (λ q. cond (joins side p bs) (filter (others w) q) q) gone
    ∙ by (is_on side p b) (joins side p bs) where
      moved : (t : Bool) → eqb (port_of b) p ≡ t → queue_in side (cond t (option_map (leave (side_of b) w) (m (port_of b))) (m p)) ≡ cond (is_on side p b) (queue_after_leaving w (queue_in side (m p))) (queue_in side (m p))
      moved true e = ap (λ n. queue_in side (option_map (leave (side_of b) w) (m n))) (eqb-true (port_of b) p e) ∙ one_left side p w b (m p) true e
      moved false e = one_left side p w b (m p) false e

      gone : queue_in side (mapped_at m (port_of b) (leave (side_of b) w) p) ≡ cond (is_on side p b) (filter (others w) (queue_in side (m p))) (queue_in side (m p))
      gone = moved (eqb (port_of b) p) refl ∙ ap (λ q. cond (is_on side p b) q (queue_in side (m p))) once

      still : (t : Bool) → IsOnce w (cond t (filter (others w) (queue_in side (m p))) (queue_in side (m p)))
      still true = left_again w (queue_in side (m p))
      still false = once

      by : (t j : Bool) → cond j (filter (others w) (cond t (filter (others w) (queue_in side (m p))) (queue_in side (m p)))) (cond t (filter (others w) (queue_in side (m p))) (queue_in side (m p))) ≡ cond (cond t true j) (filter (others w) (queue_in side (m p))) (queue_in side (m p))
      by true true = filter_twice w (queue_in side (m p))
      by true false = refl
      by false true = refl
      by false false = refl

turned : (p q : ℕ) → eqb p q ≡ eqb q p
turned p q = eqb_turn p q (eqb q p) refl

-- the code's handlers without the wait
pub dropped_is : (w : ℕ) (hs : List HandlerCode) → map handler_code_view (filter (λ h. not (eqb h.wait w)) hs) ≡ filter (others w) (map handler_code_view hs)
dropped_is w [] = refl
dropped_is w (h ∷ hs) = ap (λ c. map handler_code_view (cond (not c) (h ∷ filter (λ (g : HandlerCode). not (eqb g.wait w)) hs) (filter (λ (g : HandlerCode). not (eqb g.wait w)) hs))) (turned h.wait w) ∙ by (not (eqb w h.wait)) (dropped_is w hs) where
  by : (b : Bool) → map handler_code_view (filter (λ (g : HandlerCode). not (eqb g.wait w)) hs) ≡ filter (others w) (map handler_code_view hs)
      → map handler_code_view (cond b (h ∷ filter (λ (g : HandlerCode). not (eqb g.wait w)) hs) (filter (λ (g : HandlerCode). not (eqb g.wait w)) hs)) ≡ cond b (handler_code_view h ∷ filter (others w) (map handler_code_view hs)) (filter (others w) (map handler_code_view hs))
  by true ih = ap (λ l. handler_code_view h ∷ l) ih
  by false ih = ih

pub first_dropped : (hs : List HandlerCode) → map handler_code_view (drop 1 hs) ≡ drop 1 (map handler_code_view hs)
first_dropped [] = refl
first_dropped (h ∷ hs) = refl

pub starts_at : (w : ℕ) (q : List HandlerCode) (d : HandlerCode) → 0 < length q → starts_with w (map handler_code_view q) ≡ eqb w (get_or q 0 d).wait
starts_at w [] d lt = absurd (omega (arith, lt))
starts_at w (h ∷ q) d lt = refl

pub starts_nowhere : (w : ℕ) (q : List HandlerCode) → length q ≡ 0 → starts_with w (map handler_code_view q) ≡ false
starts_nowhere w [] e = refl
starts_nowhere w (h ∷ q) e = absurd (omega (arith, e))
