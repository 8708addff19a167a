-- Channels carry only what fits them, where all puts fit: what a take gets, and what is held after an event. (P p v: the
-- value fits channel p.)
use Rattle.std.proofs.Common.{◌≡◌, ◌⊎◌, ℕ, List, [], ◌∷◌, ◌++◌, refl, sym, ap, ◌∙◌, subst, Bool, true, false, cond, Option, Some, None, option_map, eqb, eqb-true}
use Rattle.ca_value.specs.Tree.{Tree, nil}
use Rattle.ca_value.specs.Buffer.{Policy, no_buffer, fixed_buffer, dropping_buffer, sliding_buffer, promise_buffer, is_full, without_first, keep_by, give_first as give_by}
use Rattle.ca_term.specs.declared.event.Side.{Side}
use Rattle.ca_term.specs.declared.event.Side.TheVariants.{Take, Put}
use Rattle.ca_term.specs.Operation.{OpView}
use Rattle.ca_term.specs.Program.{ProgramView}
use Rattle.ca_term.specs.Event.{BranchView, take_of, put_of, EventView, made, spawned, done, met, parked, posted, settled, defaulted, closed, registered, printed, ticked, over as is_over}
use Rattle.ca_meaning.specs.Operands.{is_nil, truth}
use Rattle.ca_meaning.specs.Channel.{Channel, channel_made}
use Rattle.ca_meaning.specs.Wait.{Wait, Handler, side_of, port_of, front, queue}
use Rattle.ca_meaning.specs.Row.{completes, meets, row_on}
use Rattle.ca_meaning.specs.State.{State, Task, Channels}
use Rattle.ca_meaning.specs.Choice.{branches_of, row}
use Rattle.ca_meaning.specs.Going.{RunsAtOperation}
use Rattle.ca_meaning.specs.Steps.{Step}
use Rattle.ca_meaning.specs.Sound.{Each, Sound}
use Rattle.ca_meaning.specs.History.{Mark, accept, give, give_none, pass, no_mark, mark_of_take, mark_of_put, mark_of_done, mark_of_settled, mark_on, marked, closes, shut_if, channel_after}
use Rattle.ca_meaning.proofs.Waits.{each-append, each-head}
use Rattle.ca_meaning.proofs.Refusals.{each-get}
use Rattle.ca_meaning.proofs.Rows.{TakeDone, gave, nothing_left, take_done, take_meets, put_meets, Settled, moved_in, served, served_nil, settle_does, row_channel}
use Rattle.ca_meaning.proofs.Channels.{made_empty}
use Rattle.ca_meaning.proofs.Histories.{step_tells}

module _ (P : ℕ → Tree → Type 0) where
  abbrev pub BranchFits : BranchView → Type 0
  BranchFits (take_of q) = Unit {0}
  BranchFits (put_of q v) = P q v

  abbrev pub AllHeldFit : Channels → Type 0
  AllHeldFit channels = (p : ℕ) (c : Channel) → channels p ≡ Some c → Each (P p) c.held

  -- all that waits offer
  abbrev pub AllOfferedFit : List Wait → Type 0
  AllOfferedFit ws = (p : ℕ) → Each (λ (h : Handler). P p h.value) (queue Put p ws)

  -- all that tasks offer at their operations
  abbrev pub AllPutsFit : State → Type 0
  AllPutsFit s = (u : ℕ) (y : Task) (op : OpView) → RunsAtOperation s u op y → Each BranchFits (branches_of op)

  -- what a take gets
  abbrev pub Got : ℕ → Tree → Type 0
  Got p a = (a ≡ nil) ⊎ P p a

  abbrev pub MarkFits : ℕ → Mark → Type 0
  MarkFits p (accept v) = P p v
  MarkFits p (pass v) = P p v
  MarkFits p (give v) = P p v
  MarkFits p give_none = Unit {0}
  MarkFits p no_mark = Unit {0}

  fits_at : (q p : ℕ) (v : Tree) → eqb q p ≡ true → P q v → P p v
  fits_at q p v e = subst (λ n. P n v) (eqb-true q p e)

  only_at : (b : Bool) (m : Mark) (p : ℕ) → (b ≡ true → MarkFits p m) → MarkFits p (cond b m no_mark)
  only_at true m p f = f refl
  only_at false m p f = tt

  take_fits : (p : ℕ) (a : Tree) → (is_nil a ≡ false → P p a) → MarkFits p (mark_of_take a)
  take_fits p a f = by (is_nil a) refl where
    by : (b : Bool) → is_nil a ≡ b → MarkFits p (cond b give_none (give a))
    by true e = tt
    by false e = f e

  put_fits : (p : ℕ) (v a : Tree) → P p v → MarkFits p (mark_of_put v a)
  put_fits p v a f = by (truth a) where
    by : (b : Bool) → MarkFits p (cond b (accept v) no_mark)
    by true = f
    by false = tt

  module _ (program : ProgramView) (s s2 : State) (puts : AllPutsFit s) (offered : AllOfferedFit s.waits) (held : AllHeldFit s.channels) where
    -- the value of the first waiting put
    front_fits : (p : ℕ) (h : Handler) → front Put p s.waits ≡ Some h → P p h.value
    front_fits p h e = each-head (λ (g : Handler). P p g.value) (queue Put p s.waits) h (offered p) e

    not_nil : {a : Tree} → a ≡ nil → is_nil a ≡ false → {G : Type 0} → G
    not_nil e f = absurd (let k : true ≡ false = sym (ap is_nil e) ∙ f in cc)

    first_fits : (p : ℕ) (c : Channel) (v : Tree) (vs : List Tree) → s.channels p ≡ Some c → c.held ≡ v ∷ vs → P p v
    first_fits p c v vs at e = (subst (Each (P p)) e (held p c at)).0

    -- what is done at once on channel p, met there, or settled
    done_fits : (p : ℕ) (c : Channel) (a : Tree) (d : Channel) → s.channels p ≡ Some c → TakeDone c a d → is_nil a ≡ false → P p a
    done_fits p c a d at (gave vs is e) n = first_fits p c a vs at is
    done_fits p c a d at (nothing_left is cl an e) n = not_nil an n

    settled_fits : (p : ℕ) (c : Channel) (side : Side) (h : Handler) (v : Tree) (d : Channel) → s.channels p ≡ Some c → Settled c (front Take p s.waits) (front Put p s.waits) side h v d → is_nil v ≡ false → P p v
    settled_fits p c side h v d at (moved_in sd in_front vn dk fx rm) n = subst (P p) (sym vn) (front_fits p h in_front)
    settled_fits p c side h v d at (served sd in_front vs is dk) n = first_fits p c v vs at is
    settled_fits p c side h v d at (served_nil sd in_front is cl vn dk) n = not_nil vn n

    -- what enters the channel or leaves it
    pub marks_fit : (e : EventView) (p : ℕ) → Step program s e s2 → MarkFits p (mark_on p e)
    marks_fit (made t q what m) p x = tt
    marks_fit (spawned t u kind result) p x = tt
    marks_fit (done t k b a) p x = only_at (eqb (port_of b) p) (mark_of_done b a) p (λ at. by b (each-get BranchFits (branches_of x.1) k b (puts t x.0 x.1 x.4) x.5.0) at x.6) where
      by : (o : BranchView) → BranchFits o → eqb (port_of o) p ≡ true → row s o ≡ completes a x.3 → MarkFits p (mark_of_done o a)
      by (take_of q) f at is = let r = row_channel (s.channels q) (front Take q s.waits) (front Put q s.waits) (take_of q) (completes a x.3) is (λ k. cc) in take_fits p a (λ n. fits_at q p a at (done_fits q r.0 a x.3 r.1 (take_done r.0 (front Put q s.waits) a x.3 r.2) n))
      by (put_of q v) f at is = put_fits p v a (fits_at q p v at f)
    marks_fit (met t k side q v w o) p x = only_at (eqb q p) (pass v) p (λ at. fits_at q p v at (subst (λ n. P n v) x.9 (by x.2 x.8 r.2 (each-get BranchFits (branches_of x.1) k x.2 (puts t x.0 x.1 x.6) x.7.0)))) where
      r : (c : Channel) × (s.channels (port_of x.2) ≡ Some c) × (row_on c (front Take (port_of x.2) s.waits) (front Put (port_of x.2) s.waits) x.2 ≡ meets x.3 v)
      r = row_channel (s.channels (port_of x.2)) (front Take (port_of x.2) s.waits) (front Put (port_of x.2) s.waits) x.2 (meets x.3 v) x.10 (λ k. cc)

      by : (b : BranchView) → side_of b ≡ side → row_on r.0 (front Take (port_of b) s.waits) (front Put (port_of b) s.waits) b ≡ meets x.3 v → BranchFits b → P (port_of b) v
      by (take_of n) sd is f = let m = take_meets r.0 (front Put n s.waits) x.3 v is in subst (P n) (sym m.value) (front_fits n x.3 m.in_front)
      by (put_of n u) sd is f = let m = put_meets r.0 (front Take n s.waits) (front Put n s.waits) u x.3 v is in subst (P n) (sym m.value) f
    marks_fit (parked t w bs) p x = tt
    marks_fit (posted t w q v) p x = tt
    marks_fit (settled w k side q v) p x = only_at (eqb q p) (mark_of_settled side v) p (λ at. by side (settle_does x.0 (front Take q s.waits) (front Put q s.waits) side x.2 v x.1 x.5) at) where
      by : (z : Side) → Settled x.0 (front Take q s.waits) (front Put q s.waits) z x.2 v x.1 → eqb q p ≡ true → MarkFits p (mark_of_settled z v)
      by Take d at = take_fits p v (λ n. fits_at q p v at (settled_fits q x.0 Take x.2 v x.1 x.4 d n))
      by Put (moved_in sd in_front vn dk fx rm) at = fits_at q p v at (subst (P q) (sym vn) (front_fits q x.2 in_front))
      by Put (served sd in_front vs is dk) at = absurd (let j : Put ≡ Take = sd in cc)
      by Put (served_nil sd in_front is cl vn dk) at = absurd (let j : Put ≡ Take = sd in cc)
    marks_fit (defaulted t v) p x = tt
    marks_fit (closed t q) p x = tt
    marks_fit (registered t name args v) p x = tt
    marks_fit (printed t line) p x = tt
    marks_fit (ticked m ports) p x = tt
    marks_fit (is_over t how) p x = tt

    each_rest : (p : ℕ) (vs : List Tree) → Each (P p) vs → Each (P p) (without_first vs)
    each_rest p [] a = tt
    each_rest p (v ∷ vs) a = a.1

    keep_fits : (p : ℕ) (policy : Policy) (full : Bool) (vs : List Tree) (v : Tree) → Each (P p) vs → P p v → Each (P p) (keep_by policy full vs v)
    keep_fits p no_buffer full vs v a f = each-append (P p) vs (v ∷ []) a (f, tt)
    keep_fits p fixed_buffer full vs v a f = each-append (P p) vs (v ∷ []) a (f, tt)
    keep_fits p dropping_buffer true vs v a f = a
    keep_fits p dropping_buffer false vs v a f = each-append (P p) vs (v ∷ []) a (f, tt)
    keep_fits p sliding_buffer true vs v a f = each_rest p (vs ++ v ∷ []) (each-append (P p) vs (v ∷ []) a (f, tt))
    keep_fits p sliding_buffer false vs v a f = each-append (P p) vs (v ∷ []) a (f, tt)
    keep_fits p promise_buffer full [] v a f = (f, tt)
    keep_fits p promise_buffer full (w ∷ ws) v a f = a

    give_fits : (p : ℕ) (policy : Policy) (vs : List Tree) → Each (P p) vs → Each (P p) (give_by policy vs)
    give_fits p no_buffer vs a = each_rest p vs a
    give_fits p fixed_buffer vs a = each_rest p vs a
    give_fits p dropping_buffer vs a = each_rest p vs a
    give_fits p sliding_buffer vs a = each_rest p vs a
    give_fits p promise_buffer vs a = a

    mark_fits : (p : ℕ) (m : Mark) (c : Channel) → MarkFits p m → Each (P p) c.held → Each (P p) (marked m c).held
    mark_fits p (accept v) c f a = keep_fits p c.policy (is_full c.capacity c.held) c.held v a f
    mark_fits p (give v) c f a = give_fits p c.policy c.held a
    mark_fits p give_none c f a = a
    mark_fits p (pass v) c f a = a
    mark_fits p no_mark c f a = a

    shut_fits : (p : ℕ) (m : Mark) (b : Bool) (c : Channel) → MarkFits p m → Each (P p) c.held → Each (P p) (shut_if b (marked m c)).held
    shut_fits p m true c f a = mark_fits p m c f a
    shut_fits p m false c f a = mark_fits p m c f a

    same_channel : (x y : Channel) → Some x ≡ Some y → x ≡ y
    same_channel x y k = cc

    mapped : (p : ℕ) (f : Channel → Channel) (o : Option Channel) (d : Channel) → ((c : Channel) → o ≡ Some c → Each (P p) (f c).held) → option_map f o ≡ Some d → Each (P p) d.held
    mapped p f None d a is = absurd (let k : None ≡ Some d = is in cc)
    mapped p f (Some c) d a is = subst (λ (z : Channel). Each (P p) z.held) (same_channel (f c) d is) (a c refl)

    -- a channel after the event
    after_fits : (p : ℕ) (e : EventView) (d : Channel) → MarkFits p (mark_on p e) → channel_after p e (s.channels p) ≡ Some d → Each (P p) d.held
    after_fits p e d f is = by e f is where
      by : (e : EventView) → MarkFits p (mark_on p e) → channel_after p e (s.channels p) ≡ Some d → Each (P p) d.held
      by (made t q what m) f is = at (eqb q p) is where
        at : (b : Bool) → cond b (channel_made what) (s.channels p) ≡ Some d → Each (P p) d.held
        at true k = subst (Each (P p)) (sym (made_empty what d k)) tt
        at false k = held p d k
      by (spawned t u kind result) f is = mapped p _ (s.channels p) d (λ c k. shut_fits p no_mark false c tt (held p c k)) is
      by (done t j b v) f is = mapped p _ (s.channels p) d (λ c k. shut_fits p (mark_on p (done t j b v)) false c f (held p c k)) is
      by (met t j side q v w n) f is = mapped p _ (s.channels p) d (λ c k. shut_fits p (mark_on p (met t j side q v w n)) false c f (held p c k)) is
      by (parked t w bs) f is = mapped p _ (s.channels p) d (λ c k. shut_fits p no_mark false c tt (held p c k)) is
      by (posted t w q v) f is = mapped p _ (s.channels p) d (λ c k. shut_fits p no_mark false c tt (held p c k)) is
      by (settled w j side q v) f is = mapped p _ (s.channels p) d (λ c k. shut_fits p (mark_on p (settled w j side q v)) false c f (held p c k)) is
      by (defaulted t v) f is = mapped p _ (s.channels p) d (λ c k. shut_fits p no_mark false c tt (held p c k)) is
      by (closed t q) f is = mapped p _ (s.channels p) d (λ c k. shut_fits p no_mark (closes p (closed t q)) c tt (held p c k)) is
      by (registered t name args v) f is = mapped p _ (s.channels p) d (λ c k. shut_fits p no_mark false c tt (held p c k)) is
      by (printed t line) f is = mapped p _ (s.channels p) d (λ c k. shut_fits p no_mark false c tt (held p c k)) is
      by (ticked m ports) f is = mapped p _ (s.channels p) d (λ c k. shut_fits p no_mark (closes p (ticked m ports)) c tt (held p c k)) is
      by (is_over t how) f is = mapped p _ (s.channels p) d (λ c k. shut_fits p no_mark (closes p (is_over t how)) c tt (held p c k)) is

    pub held_fits : (e : EventView) → Sound s → Step program s e s2 → AllHeldFit s2.channels
    held_fits e sound x p d at = after_fits p e d (marks_fit e p x) (sym (step_tells program s s2 e p x sound) ∙ at)
