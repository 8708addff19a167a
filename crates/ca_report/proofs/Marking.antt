-- What the mark of an event says of the channel that it is on: it is there, with what is given, or with room for what is accepted.
use Rattle.std.proofs.Common.{◌≡◌, ◌⊎◌, inl, inr, ℕ, List, refl, sym, ap, ◌∙◌, subst, Bool, true, false, cond, Option, Some, None, option_map, eqb, eqb-true}
use Rattle.ca_value.specs.Tree.{Tree}
use Rattle.ca_term.specs.declared.event.Side.{Side}
use Rattle.ca_term.specs.declared.event.Side.TheVariants.{Take, Put}
use Rattle.ca_term.specs.declared.event.Ending.TheVariants.{Ended, Faulted}
use Rattle.ca_term.specs.Operation.{WhatView}
use Rattle.ca_term.specs.Program.{ProgramView}
use Rattle.ca_term.specs.Event.{BranchView, take_of, put_of, EventView, made, spawned, done, met, parked, posted, settled, defaulted, closed, registered, printed, ticked, over as is_over}
use Rattle.ca_meaning.specs.Operands.{is_nil, truth}
use Rattle.ca_meaning.specs.Channel.{Channel}
use Rattle.ca_meaning.specs.Wait.{Handler, port_of, front}
use Rattle.ca_meaning.specs.Row.{not_ready, completes as row_completes, meets, row_on}
use Rattle.ca_meaning.specs.State.{State}
use Rattle.ca_meaning.specs.Steps.{Step}
use Rattle.ca_meaning.specs.History.{Mark, accept, give, give_none, pass, no_mark, mark_of_take, mark_of_done, mark_of_settled, mark_on, marked, closes, shut_if, channel_after}
use Rattle.ca_meaning.proofs.Rows.{TakeDone, gave, nothing_left, take_done, PutDone, refused, promised, accepted, put_done, Settled, moved_in, served, served_nil, settle_does, row_channel}
use Rattle.ca_report.specs.Made.{Made, with_channel_made}
use Rattle.ca_report.specs.Passages.{made_by_event}
use Rattle.ca_report.proofs.Balancing.{MarkOn}

-- the channel is there, unless nothing is marked
abbrev pub MarkAt : Option Channel → Mark → Type 0
MarkAt o no_mark = Unit {0}
MarkAt o m = (c : Channel) × (o ≡ Some c) × MarkOn c m

taken_mark : (o : Option Channel) (c : Channel) (taker putter : Option Handler) (a : Tree) (d : Channel) → o ≡ Some c → TakeDone c a d → MarkAt o (mark_of_take a)
taken_mark o c taker putter a d at t = by (is_nil a) refl t where
  by : (b : Bool) → is_nil a ≡ b → TakeDone c a d → MarkAt o (cond b give_none (give a))
  by true nil_is y = (c, at, tt)
  by false nil_is (gave vs is k) = (c, at, (vs, is))
  by false nil_is (nothing_left is cl an k) = absurd (let j : true ≡ false = sym (ap is_nil an) ∙ nil_is in cc)

done_mark : (o : Option Channel) (c : Channel) (b : BranchView) (taker putter : Option Handler) (a : Tree) (d : Channel) → o ≡ Some c → row_on c taker putter b ≡ row_completes a d → MarkAt o (mark_of_done b a)
done_mark o c (take_of p) taker putter a d at r = taken_mark o c taker putter a d at (take_done c putter a d r)
done_mark o c (put_of p v) taker putter a d at r = by (truth a) refl (put_done c taker putter v a d r) where
  by : (b : Bool) → truth a ≡ b → PutDone c taker putter v a d → MarkAt o (cond b (accept v) no_mark)
  by false is y = tt
  by true is (refused cl an k) = absurd (let j : true ≡ false = sym is ∙ ap truth an in cc)
  by true is (promised cl pr an k) = (c, at, inl pr)
  by true is (accepted cl pr rm tn pn an k) = (c, at, inr rm)

settled_mark : (o : Option Channel) (c : Channel) (taker putter : Option Handler) (side : Side) (h : Handler) (v : Tree) (d : Channel) → o ≡ Some c → Settled c taker putter side h v d → MarkAt o (mark_of_settled side v)
settled_mark o c taker putter Take h v d at x = by (is_nil v) refl x where
  by : (b : Bool) → is_nil v ≡ b → Settled c taker putter Take h v d → MarkAt o (cond b give_none (give v))
  by true is y = (c, at, tt)
  by false is (moved_in sd pt vn k fx rm) = absurd (let j : Take ≡ Put = sd in cc)
  by false is (served sd t vs held k) = (c, at, (vs, held))
  by false is (served_nil sd t held cl vn k) = absurd (let j : true ≡ false = sym (ap is_nil vn) ∙ is in cc)
settled_mark o c taker putter Put h v d at (moved_in sd pt vn k fx rm) = (c, at, inr rm)
settled_mark o c taker putter Put h v d at (served sd t vs held k) = absurd (let j : Put ≡ Take = sd in cc)
settled_mark o c taker putter Put h v d at (served_nil sd t held cl vn k) = absurd (let j : Put ≡ Take = sd in cc)

-- a mark at port q, seen from channel p
from_port : (s : State) (p q : ℕ) (m : Mark) → MarkAt (s.channels q) m → MarkAt (s.channels p) (cond (eqb q p) m no_mark)
from_port s p q m at = by (eqb q p) refl where
  by : (b : Bool) → eqb q p ≡ b → MarkAt (s.channels p) (cond b m no_mark)
  by true is = subst (λ n. MarkAt (s.channels n) m) (eqb-true q p is) at
  by false is = tt

no_row : (a : Tree) (d : Channel) → row_completes a d ≡ not_ready → ⊥
no_row a d e = cc

no_meeting : (h : Handler) (v : Tree) → meets h v ≡ not_ready → ⊥
no_meeting h v e = cc

pub mark_at : (program : ProgramView) (s s2 : State) (e : EventView) (p : ℕ) → Step program s e s2 → MarkAt (s.channels p) (mark_on p e)
mark_at program s s2 (done t k b a) p x =
    let r = row_channel (s.channels (port_of b)) (front Take (port_of b) s.waits) (front Put (port_of b) s.waits) b (row_completes a x.3) x.6 (no_row a x.3) in
    from_port s p (port_of b) (mark_of_done b a) (done_mark (s.channels (port_of b)) r.0 b (front Take (port_of b) s.waits) (front Put (port_of b) s.waits) a x.3 r.1 r.2)
mark_at program s s2 (met t k side q v w o) p x =
    let r = row_channel (s.channels (port_of x.2)) (front Take (port_of x.2) s.waits) (front Put (port_of x.2) s.waits) x.2 (meets x.3 v) x.10 (no_meeting x.3 v) in
    from_port s p q (pass v) (r.0, ap s.channels (sym x.9) ∙ r.1, tt)
mark_at program s s2 (settled w k side q v) p x =
    from_port s p q (mark_of_settled side v) (settled_mark (s.channels q) x.0 (front Take q s.waits) (front Put q s.waits) side x.2 v x.1 x.4 (settle_does x.0 (front Take q s.waits) (front Put q s.waits) side x.2 v x.1 x.5))
mark_at program s s2 (made t q what moment) p x = tt
mark_at program s s2 (spawned t u kind result) p x = tt
mark_at program s s2 (parked t w bs) p x = tt
mark_at program s s2 (posted t w q v) p x = tt
mark_at program s s2 (defaulted t v) p x = tt
mark_at program s s2 (closed t q) p x = tt
mark_at program s s2 (registered t name args v) p x = tt
mark_at program s s2 (printed t line) p x = tt
mark_at program s s2 (ticked n ports) p x = tt
mark_at program s s2 (is_over t Ended) p x = tt
mark_at program s s2 (is_over t (Faulted fault place result)) p x = tt

-- the event makes a channel or a registry, or each channel is marked and closed by it and none is new
pub made_or_marked : (e : EventView) → ((t q : ℕ) × (what : WhatView) × (moment : Option ℕ) × (e ≡ made t q what moment))
    ⊎ (((p : ℕ) (o : Option Channel) → channel_after p e o ≡ option_map (λ c. shut_if (closes p e) (marked (mark_on p e) c)) o) × ((ms : List Made) → with_channel_made e ms ≡ ms) × (made_by_event e ≡ None))
made_or_marked (made t q what moment) = inl (t, q, what, moment, refl)
made_or_marked e = inr (λ p o. refl, λ ms. refl, refl)
