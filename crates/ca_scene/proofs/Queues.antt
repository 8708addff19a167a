-- The queues that keep of each wait its first branch.
use Rattle.std.proofs.Common.{◌≡◌, ℕ, zero, suc, ◌+◌, List, [], ◌∷◌, ◌++◌, length, map, refl, sym, ap, ap₂, ◌∙◌, subst, Option, Some, None, option_map, Bool, true, false, not, cond, eqb, eqb-true, eq-eqb, arith, filter, append_assoc, append-nil, nat_eq, nat_le}
use Rattle.std.proofs.lemmas.List.Elements.{filter-append}
use Rattle.indexmap.specs.IndexMap.{get}
use Rattle.ca_value.specs.Tree.{Tree}
use Rattle.ca_term.specs.declared.event.Side.{Side}
use Rattle.ca_term.specs.declared.event.Side.TheVariants.{Take, Put}
use Rattle.ca_term.specs.Event.{BranchView, take_of, put_of}
use Rattle.ca_meaning.specs.Channel.{Channel}
use Rattle.ca_meaning.specs.Wait.{Wait, Handler, is_on, brought, handlers, queue, head, front, without, joins, pending}
use Rattle.ca_meaning.specs.Row.{Row, not_ready, row_at, put_row, take_row}
use Rattle.ca_meaning.specs.Choice.{row, is_ready}
use Rattle.ca_scene.specs.declared.room.Room.{Room}
use Rattle.ca_scene.specs.declared.scene.Scene.{Scene}
use Rattle.ca_scene.specs.Scene.{first_handlers, firsts, queues_at, room_queue, room_channel, room_at, waits_in, scene_state, IsQueued, IsScene}

head_first : (hs q r : List Handler) → head q ≡ head r → head (first_handlers hs ++ q) ≡ head (hs ++ r)
head_first [] q r e = e
head_first (h ∷ hs) q r e = refl

pub head_firsts : (side : Side) (p : ℕ) (ws : List Wait) → head (firsts side p ws) ≡ front side p ws
head_firsts side p [] = refl
head_firsts side p (x ∷ xs) = head_first (handlers side p x.number 0 x.branches) (firsts side p xs) (queue side p xs) (head_firsts side p xs)

counted : (side : Side) (p w k : ℕ) (bs : List BranchView) (n : ℕ) → length (first_handlers (handlers side p w k bs)) + n ≡ cond (joins side p bs) (suc n) n
counted side p w k [] n = omega arith
counted side p w k (b ∷ bs) n = by (is_on side p b) (counted side p w (suc k) bs n) where
  by : (t : Bool) → length (first_handlers (handlers side p w (suc k) bs)) + n ≡ cond (joins side p bs) (suc n) n
      → length (first_handlers (cond t (record { wait = w; branch = k; value = brought b } ∷ handlers side p w (suc k) bs) (handlers side p w (suc k) bs))) + n ≡ cond (cond t true (joins side p bs)) (suc n) n
  by true e = omega arith
  by false e = e

length_append : (xs ys : List Handler) → length (xs ++ ys) ≡ length xs + length ys
length_append [] ys = omega arith
length_append (x ∷ xs) ys = let e : length (xs ++ ys) ≡ length xs + length ys = length_append xs ys in omega (arith, e)

-- the length of a queue is how many wait
pub length_firsts : (side : Side) (p : ℕ) (ws : List Wait) → length (firsts side p ws) ≡ pending side p ws
length_firsts side p [] = refl
length_firsts side p (x ∷ xs) =
    length_append (first_handlers (handlers side p x.number 0 x.branches)) (firsts side p xs)
    ∙ counted side p x.number 0 x.branches (length (firsts side p xs))
    ∙ ap (λ n. cond (joins side p x.branches) (suc n) n) (length_firsts side p xs)

module _ (s : Scene) (scene : IsScene s) (p : ℕ) where
  pub front_there : (side : Side) (r : Room) → room_at s p ≡ Some r → front side p (waits_in s.waits.entries) ≡ head (room_queue side r)
  front_there side r e = sym (head_firsts side p (waits_in s.waits.entries)) ∙ ap head (sym (scene.queued side p)) ∙ ap (λ o. head (queues_at side o)) e

  pub pending_there : (side : Side) (r : Room) → room_at s p ≡ Some r → pending side p (waits_in s.waits.entries) ≡ length (room_queue side r)
  pending_there side r e = sym (length_firsts side p (waits_in s.waits.entries)) ∙ ap length (sym (scene.queued side p)) ∙ ap (λ o. length (queues_at side o)) e

  pub pending_nowhere : (side : Side) → room_at s p ≡ None → pending side p (waits_in s.waits.entries) ≡ 0
  pending_nowhere side e = sym (length_firsts side p (waits_in s.waits.entries)) ∙ ap length (sym (scene.queued side p)) ∙ ap (λ o. length (queues_at side o)) e

  pub put_there : (r : Room) (v : Tree) → room_at s p ≡ Some r → row (scene_state s) (put_of p v) ≡ put_row (room_channel r) (head (room_queue Take r)) (head (room_queue Put r)) v
  put_there r v e =
      ap (λ o. row_at (option_map room_channel o) (front Take p (waits_in s.waits.entries)) (front Put p (waits_in s.waits.entries)) (put_of p v)) e
      ∙ ap₂ (λ (a b : Option Handler). put_row (room_channel r) a b v) (front_there Take r e) (front_there Put r e)

  pub take_there : (r : Room) → room_at s p ≡ Some r → row (scene_state s) (take_of p) ≡ take_row (room_channel r) (head (room_queue Put r))
  take_there r e =
      ap (λ o. row_at (option_map room_channel o) (front Take p (waits_in s.waits.entries)) (front Put p (waits_in s.waits.entries)) (take_of p)) e
      ∙ ap (λ (b : Option Handler). take_row (room_channel r) b) (front_there Put r e)

  pub put_ready_there : (r : Room) → room_at s p ≡ Some r → (b : Bool) → ((v : Tree) → is_ready (put_row (room_channel r) (head (room_queue Take r)) (head (room_queue Put r)) v) ≡ b) → (v : Tree) → is_ready (row (scene_state s) (put_of p v)) ≡ b
  put_ready_there r e b f v = ap is_ready (put_there r v e) ∙ f v

  pub none_there : (b : BranchView) (c : Option Channel) (taker putter : Option Handler) → c ≡ None → row_at c taker putter b ≡ not_ready
  none_there b c taker putter e = ap (λ o. row_at o taker putter b) e

pub filter_first : (t : Handler → Bool) (hs : List Handler) → ((h : Handler) → t h ≡ true) → filter t hs ≡ hs
filter_first t [] f = refl
filter_first t (h ∷ hs) f = ap (λ c. cond c (h ∷ filter t hs) (filter t hs)) (f h) ∙ ap (λ l. h ∷ l) (filter_first t hs f)

pub firsts_append : (side : Side) (p : ℕ) (xs ys : List Wait) → firsts side p (xs ++ ys) ≡ firsts side p xs ++ firsts side p ys
firsts_append side p [] ys = refl
firsts_append side p (x ∷ xs) ys = ap (λ l. first_handlers (handlers side p x.number 0 x.branches) ++ l) (firsts_append side p xs ys) ∙ sym (append_assoc (first_handlers (handlers side p x.number 0 x.branches)) (firsts side p xs) (firsts side p ys))

pub firsts_joined : (side : Side) (p : ℕ) (ws : List Wait) (x : Wait) → firsts side p (ws ++ x ∷ []) ≡ firsts side p ws ++ first_handlers (handlers side p x.number 0 x.branches)
firsts_joined side p ws x = firsts_append side p ws (x ∷ []) ∙ ap (λ l. firsts side p ws ++ l) (append-nil (first_handlers (handlers side p x.number 0 x.branches)))

module _ (s : Scene) (scene : IsScene s) (p : ℕ) where
  pub crowd_there : (side : Side) (r : Room) → room_at s p ≡ Some r → nat_le 1024 (length (room_queue side r)) ≡ nat_le 1024 (pending side p (scene_state s).waits)
  crowd_there side r e = ap (nat_le 1024) (sym (pending_there s scene p side r e))

  pub crowd_nowhere : (side : Side) → room_at s p ≡ None → false ≡ nat_le 1024 (pending side p (scene_state s).waits)
  crowd_nowhere side e = ap (nat_le 1024) (sym (pending_nowhere s scene p side e))

abbrev others : ℕ → Handler → Bool
others w h = not (eqb w h.wait)

-- of one wait's first handler: all or nothing
of_one : (w : ℕ) (h : Handler) (b : Bool) → eqb w h.wait ≡ b → filter (others w) (h ∷ []) ≡ cond b [] (h ∷ [])
of_one w h true e = ap (λ c. cond (not c) (h ∷ []) []) e
of_one w h false e = ap (λ c. cond (not c) (h ∷ []) []) e

of_first : (w n : ℕ) (hs : List Handler) (b : Bool) → eqb w n ≡ b → ((h : Handler) → head hs ≡ Some h → h.wait ≡ n) → filter (others w) (first_handlers hs) ≡ cond b [] (first_handlers hs)
of_first w n [] true e f = refl
of_first w n [] false e f = refl
of_first w n (h ∷ hs) b e f = of_one w h b (ap (eqb w) (f h refl) ∙ e)

pub head_number : (side : Side) (p n k : ℕ) (bs : List BranchView) (h : Handler) → head (handlers side p n k bs) ≡ Some h → h.wait ≡ n
head_number side p n k [] h e = absurd (let j : None ≡ Some h = e in cc)
head_number side p n k (a ∷ bs) h e = by (is_on side p a) e (λ f. head_number side p n (suc k) bs h f) where
  one : (g : Handler) → Some g ≡ Some h → g ≡ h
  one g e = cc

  by : (t : Bool) → head (cond t (record { wait = n; branch = k; value = brought a } ∷ handlers side p n (suc k) bs) (handlers side p n (suc k) bs)) ≡ Some h → (head (handlers side p n (suc k) bs) ≡ Some h → h.wait ≡ n) → h.wait ≡ n
  by true e more = ap (λ (g : Handler). g.wait) (sym (one (record { wait = n; branch = k; value = brought a }) e))
  by false e more = more e

-- of one wait's first handler: all or nothing
pub of_wait : (side : Side) (p n k : ℕ) (bs : List BranchView) (w : ℕ) (b : Bool) → eqb w n ≡ b → filter (others w) (first_handlers (handlers side p n k bs)) ≡ cond b [] (first_handlers (handlers side p n k bs))
of_wait side p n k bs w b e = of_first w n (handlers side p n k bs) b e (head_number side p n k bs)

-- the queue of the waits without w is the queue without w's handler
pub firsts_without : (side : Side) (p w : ℕ) (ws : List Wait) → firsts side p (without w ws) ≡ filter (others w) (firsts side p ws)
firsts_without side p w [] = refl
firsts_without side p w (x ∷ xs) = by (eqb w x.number) refl (firsts_without side p w xs) ∙ sym (filter-append (others w) (first_handlers (handlers side p x.number 0 x.branches)) (firsts side p xs)) where
  by : (b : Bool) → eqb w x.number ≡ b → firsts side p (without w xs) ≡ filter (others w) (firsts side p xs)
      → firsts side p (cond (not b) (x ∷ without w xs) (without w xs)) ≡ filter (others w) (first_handlers (handlers side p x.number 0 x.branches)) ++ filter (others w) (firsts side p xs)
  by true e ih = ih ∙ ap (λ l. l ++ filter (others w) (firsts side p xs)) (sym (of_wait side p x.number 0 x.branches w true e))
  by false e ih = ap (λ l. first_handlers (handlers side p x.number 0 x.branches) ++ l) ih ∙ ap (λ l. l ++ filter (others w) (firsts side p xs)) (sym (of_wait side p x.number 0 x.branches w false e))
