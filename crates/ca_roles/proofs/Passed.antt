-- In a typed state channels carry what their roles say: what a take gets, what a wait offers, and what is held after an
-- event.
use Rattle.std.proofs.Common.{◌≡◌, ◌⊎◌, inl, inr, ℕ, List, [], ◌∷◌, refl, sym, ap, ◌∙◌, subst, Bool, true, false, cond, Option, Some, None, eqb, eq-eqb}
use Rattle.ca_value.specs.Tree.{Tree, nil, bool}
use Rattle.ca_term.specs.declared.event.Side.{Side}
use Rattle.ca_term.specs.declared.event.Side.TheVariants.{Take, Put}
use Rattle.ca_term.specs.Operation.{OpView, taking, putting, choosing, posting, making, spawning, closing, registering, printing}
use Rattle.ca_term.specs.Program.{ProgramView}
use Rattle.ca_term.specs.Event.{BranchView, take_of, put_of, EventView, made, spawned, done, met, parked, posted, settled, defaulted, closed, registered, printed, ticked, over as is_over}
use Rattle.ca_meaning.specs.Operands.{is_nil, port_of_value}
use Rattle.ca_meaning.specs.Wait.{Handler, queue, owner_of}
use Rattle.ca_meaning.specs.Task.{TaskBody}
use Rattle.ca_meaning.specs.State.{State, Task}
use Rattle.ca_meaning.specs.Choice.{branches_of}
use Rattle.ca_meaning.specs.Going.{RunsAtOperation}
use Rattle.ca_meaning.specs.ChannelSteps.{other_side}
use Rattle.ca_meaning.specs.Steps.{Step}
use Rattle.ca_meaning.specs.Sound.{Each, Sound}
use Rattle.ca_meaning.specs.History.{give, give_none, pass, no_mark, mark_of_take, mark_on}
use Rattle.ca_meaning.proofs.Waits.{each-weaker}
use Rattle.ca_meaning.proofs.Refusals.{each-get}
use Rattle.ca_laws.specs.Deeds.{Deed, did_take, did_put, did_wait, did_post, did_default, did_make, did_spawn, did_close, did_register, did_print, did_end, is_wait, deed_on, deed}
use Rattle.ca_laws.proofs.Stood.{Stood, AllStood}
use Rattle.ca_roles.specs.Roles.{Roles, ChannelCarries}
use Rattle.ca_roles.specs.Typed.{IsPublicBranch, IsTypedPost, MayAsk, Typed}
use Rattle.ca_roles.proofs.Ports.{carries_public}
use Rattle.ca_roles.proofs.Events.{nil_is}
use Rattle.ca_roles.proofs.Carried.{BranchFits, AllHeldFit, AllOfferedFit, AllPutsFit, Got, MarkFits, marks_fit, held_fits}

-- what the event tells of a take, by what it does to the channel
module _ (P : ℕ → Tree → Type 0) where
  abbrev pub DeedGot : Option Deed → Type 0
  DeedGot (Some (did_take k p a)) = Got P p a
  DeedGot d = Unit {0}

  one_deed : (b : Bool) (d : Deed) → DeedGot (Some d) → DeedGot (cond b (Some d) None)
  one_deed true d h = h
  one_deed false d h = tt

  two_deeds : (b c : Bool) (d f : Deed) → DeedGot (Some d) → DeedGot (Some f) → DeedGot (cond b (Some d) (cond c (Some f) None))
  two_deeds true c d f h g = h
  two_deeds false c d f h g = one_deed c f g

  taken : (p : ℕ) (a : Tree) → MarkFits P p (mark_of_take a) → Got P p a
  taken p a f = by (is_nil a) refl f where
    by : (b : Bool) → is_nil a ≡ b → MarkFits P p (cond b give_none (give a)) → Got P p a
    by true e f = inl (nil_is a e)
    by false e f = inr f

  on_side : (side : Side) (k p : ℕ) (v : Tree) → P p v → DeedGot (Some (deed_on side k p v))
  on_side Take k p v f = inr f
  on_side Put k p v f = tt

  pub deed_got : (t : ℕ) (o : Option ℕ) (e : EventView) → ((p : ℕ) → MarkFits P p (mark_on p e)) → DeedGot (deed t o e)
  deed_got t o (made u p what moment) f = one_deed (eqb u t) (did_make p what moment) tt
  deed_got t o (spawned u n kind result) f = one_deed (eqb u t) (did_spawn n kind result) tt
  deed_got t o (done u k (take_of q) a) f = one_deed (eqb u t) (did_take k q a) (taken q a (subst (λ b. MarkFits P q (cond b (mark_of_take a) no_mark)) (eq-eqb q q refl) (f q)))
  deed_got t o (done u k (put_of q v) a) f = one_deed (eqb u t) (did_put k q v a) tt
  deed_got t o (met u k side q v w j) f =
      let h : P q v = subst (λ b. MarkFits P q (cond b (pass v) no_mark)) (eq-eqb q q refl) (f q) in
      two_deeds (eqb u t) (is_wait w o) (deed_on side k q v) (deed_on (other_side side) j q v) (on_side side k q v h) (on_side (other_side side) j q v h)
  deed_got t o (parked u w bs) f = one_deed (eqb u t) (did_wait w bs) tt
  deed_got t o (posted u w p v) f = one_deed (eqb u t) (did_post w p v) tt
  deed_got t o (settled w k Take q v) f = one_deed (is_wait w o) (did_take k q v) (taken q v (subst (λ b. MarkFits P q (cond b (mark_of_take v) no_mark)) (eq-eqb q q refl) (f q)))
  deed_got t o (settled w k Put q v) f = one_deed (is_wait w o) (did_put k q v (bool true)) tt
  deed_got t o (defaulted u v) f = one_deed (eqb u t) (did_default v) tt
  deed_got t o (closed u p) f = one_deed (eqb u t) (did_close p) tt
  deed_got t o (registered u name args v) f = one_deed (eqb u t) (did_register name args v) tt
  deed_got t o (printed u line) f = one_deed (eqb u t) (did_print line) tt
  deed_got t o (ticked m ports) f = tt
  deed_got t o (is_over u how) f = one_deed (eqb u t) (did_end how) tt

-- what a task may ask for fits
module _ (program : ProgramView) (roles : Roles) where
  public_fits : (b : BranchView) → IsPublicBranch roles b → BranchFits (ChannelCarries program roles) b
  public_fits (take_of q) h = tt
  public_fits (put_of q v) h = carries_public roles program q v h.0 h.1

  pub asked_fits : (b : TaskBody) (op : OpView) → MayAsk program roles b op → Each (BranchFits (ChannelCarries program roles)) (branches_of op)
  asked_fits b (taking c) h = (tt, tt)
  asked_fits b (putting c v) h = (subst (λ d. ChannelCarries program roles (port_of_value d) v) (sym h.1) h.3, tt)
  asked_fits b (posting c v) h = (subst (λ d. ChannelCarries program roles (port_of_value d) v) (sym h.1) (carries_public roles program h.0 v h.2 h.3), tt)
  asked_fits b (choosing ports priority default) h = each-weaker (IsPublicBranch roles) (BranchFits (ChannelCarries program roles)) (branches_of (choosing ports priority default)) public_fits h.0
  asked_fits b (making what) h = tt
  asked_fits b (spawning seed) h = tt
  asked_fits b (closing c) h = tt
  asked_fits b (registering name args) h = tt
  asked_fits b (printing line) h = tt

module _ (program : ProgramView) (roles : Roles) (s s2 : State) (typed : Typed program roles s) (sound : Sound s) (stood : AllStood s) (asks : (t : ℕ) (op : OpView) (x : Task) → RunsAtOperation s t op x → MayAsk program roles x.body op) where
  puts_fit : AllPutsFit (ChannelCarries program roles) s
  puts_fit t x op at = asked_fits program roles x.body op (asks t op x at)

  -- what a wait offers: a task's put, or one that is nobody's
  handler_fits : (p : ℕ) (h : Handler) → IsTypedPost roles s p h → Stood s Put p h → ChannelCarries program roles p h.value
  handler_fits p h post at = by (owner_of h.wait s.waits) refl where
    by : (o : Option ℕ) → owner_of h.wait s.waits ≡ o → ChannelCarries program roles p h.value
    by None e = let k = post e in carries_public roles program p h.value k.0 k.1
    by (Some u) e =
        let i = at u e in
        let j = sound.owned h.wait u e in
        let x : Task = i.0 in
        let mode = let k : j.0 ≡ i.0 = (let l : Some j.0 ≡ Some i.0 = sym j.1 ∙ i.2 in cc) in ap (λ (z : Task). z.mode) (sym k) ∙ j.2 in
        each-get (BranchFits (ChannelCarries program roles)) (branches_of i.1) h.branch (put_of p h.value) (asked_fits program roles x.body i.1 ((typed.tasks u i.0 i.2).waits h.wait i.1 mode i.3)) i.4

  each_handler : (p : ℕ) (hs : List Handler) → Each (IsTypedPost roles s p) hs → Each (Stood s Put p) hs → Each (λ (h : Handler). ChannelCarries program roles p h.value) hs
  each_handler p [] a b = tt
  each_handler p (h ∷ hs) a b = (handler_fits p h a.0 b.0, each_handler p hs a.1 b.1)

  pub offered_fits : AllOfferedFit (ChannelCarries program roles) s.waits
  offered_fits p = each_handler p (queue Put p s.waits) (typed.posts Put p) (stood Put p)

  -- what enters or leaves a channel
  pub passed_fits : (e : EventView) → Step program s e s2 → (p : ℕ) → MarkFits (ChannelCarries program roles) p (mark_on p e)
  passed_fits e x p = marks_fit (ChannelCarries program roles) program s s2 puts_fit offered_fits typed.held e p x

  -- what a take gets
  pub got_fits : (t : ℕ) (o : Option ℕ) (e : EventView) (k p : ℕ) (a : Tree) → Step program s e s2 → deed t o e ≡ Some (did_take k p a) → (a ≡ nil) ⊎ ChannelCarries program roles p a
  got_fits t o e k p a x is = subst (DeedGot (ChannelCarries program roles)) is (deed_got (ChannelCarries program roles) t o e (passed_fits e x))

  -- what is held after the event
  pub held_after : (e : EventView) → Step program s e s2 → AllHeldFit (ChannelCarries program roles) s2.channels
  held_after e x = held_fits (ChannelCarries program roles) program s s2 puts_fit offered_fits typed.held e sound x
