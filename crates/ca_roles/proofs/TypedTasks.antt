-- Each event leaves typed tasks typed.
use Rattle.std.proofs.Common.{◌≡◌, ◌⊎◌, inl, inr, ℕ, refl, sym, ap, ◌∙◌, subst, Bool, true, false, cond, Option, Some, None, eqb, eqb-true}
use Rattle.ca_value.specs.Tree.{Tree, Trees, nil, port}
use Rattle.ca_term.specs.declared.event.Ending.{Ending}
use Rattle.ca_term.specs.declared.head.RegisterName.{RegisterName}
use Rattle.ca_term.specs.Operation.{OpView, taking, putting, choosing, posting, making, spawning, closing, registering, printing, WhatView}
use Rattle.ca_term.specs.Program.{ProgramView, IsProgram, known_in}
use Rattle.ca_term.specs.Event.{take_of, put_of, EventView, made, spawned, done, met, parked, posted, settled, defaulted, closed, registered, printed, ticked, over as is_over}
use Rattle.ca_meaning.specs.ChannelSteps.{other_side}
use Rattle.ca_meaning.specs.Operands.{port_of_value}
use Rattle.ca_meaning.specs.State.{State, Task, Mode, running, waiting, over, runs}
use Rattle.ca_meaning.specs.Task.{body_fill}
use Rattle.ca_meaning.specs.Choice.{branches_of}
use Rattle.ca_meaning.specs.Going.{IsAtOp, RunsAtOperation}
use Rattle.ca_meaning.specs.Steps.{Step}
use Rattle.ca_meaning.proofs.Refusals.{each-get}
use Rattle.ca_meaning.proofs.Single.{same_task, same_op}
use Rattle.ca_laws.specs.Deeds.{Deed, did_take, did_wait, did_post, did_default, did_make, did_spawn, did_close, did_register, did_print, did_end, is_wait, deed_of, deed_on, deed}
use Rattle.ca_laws.proofs.Acts.{wait_of, IsPutAnswer, Replies, got, gave, chose, chose_put, chose_default, posts, posts_late, creates, starts, shuts, enrols, prints, Acts, idles, parks, stops, goes}
use Rattle.ca_roles.specs.Roles.{public, Roles, Grows, IsPublic, ChannelCarries}
use Rattle.ca_roles.specs.Sealed.{IsSealed}
use Rattle.ca_roles.specs.Typed.{IsPublicPort, IsPublicBranch, TypedBody, TypedTask, MayAsk}
use Rattle.ca_roles.proofs.Sealing.{public_more}
use Rattle.ca_roles.proofs.Growing.{carries_more, body_more, ask_more, result_more, task_more}
use Rattle.ca_roles.proofs.Following.{IsAnswer}
use Rattle.ca_roles.proofs.TypedBodies.{IsChecked, body_goes, filled_checked, rest_typed}
use Rattle.ca_roles.proofs.Ports.{got_public}

-- a task that goes on doesn't wait
pub no_wait : {G : Type 0} (w : ℕ) → running ≡ waiting w → G
no_wait w e = absurd cc

-- How a task comes to a deed: it stands at its operation, or it waits, or it ends.
pub data Acting (s : State) (t : ℕ) (x : Task) (c : Deed) : Type 0 where
  stands : (op : OpView) → RunsAtOperation s t op x → Acting s t x c
  waits : (w : ℕ) → x.mode ≡ waiting w → Acting s t x c
  ends : (how : Ending) → c ≡ did_end how → Acting s t x c

module _ (program : ProgramView) (s s2 : State) (t : ℕ) (x : Task) (there : s.tasks t ≡ Some x) (c : Deed) where
  own : (u : ℕ) (z : Task) (op : OpView) (d : Deed) → RunsAtOperation s u op z → cond (eqb u t) (Some d) None ≡ Some c → Acting s t x c
  own u z op d st e = by (eqb u t) refl e where
    by : (b : Bool) → eqb u t ≡ b → cond b (Some d) None ≡ Some c → Acting s t x c
    by true i e =
        let here = subst (λ n. RunsAtOperation s n op z) (eqb-true u t i) st in
        stands op (subst (RunsAtOperation s t op) (same_task s.tasks t z x here.0 there) here)
    by false i e = absurd (let k : None ≡ Some c = e in cc)

  ended : (u : ℕ) (how : Ending) → cond (eqb u t) (Some (did_end how)) None ≡ Some c → Acting s t x c
  ended u how e = by (eqb u t) e where
    by : (b : Bool) → cond b (Some (did_end how)) None ≡ Some c → Acting s t x c
    by true e = ends how (let k : did_end how ≡ c = cc in sym k)
    by false e = absurd (let k : None ≡ Some c = e in cc)

  woken : (w : ℕ) (d : Deed) → cond (is_wait w (wait_of x.mode)) (Some d) None ≡ Some c → Acting s t x c
  woken w d e = by x.mode refl e where
    at : (n : ℕ) (b : Bool) → x.mode ≡ waiting n → cond b (Some d) None ≡ Some c → Acting s t x c
    at n true m e = waits n m
    at n false m e = absurd (let k : None ≡ Some c = e in cc)

    by : (m : Mode) → x.mode ≡ m → cond (is_wait w (wait_of m)) (Some d) None ≡ Some c → Acting s t x c
    by running m e = absurd (let k : None ≡ Some c = e in cc)
    by over m e = absurd (let k : None ≡ Some c = e in cc)
    by (waiting n) m e = at n (eqb n w) m e

  either : (u w : ℕ) (z : Task) (op : OpView) (d f : Deed) → RunsAtOperation s u op z → cond (eqb u t) (Some d) (cond (is_wait w (wait_of x.mode)) (Some f) None) ≡ Some c → Acting s t x c
  either u w z op d f st e = by (eqb u t) refl e where
    by : (b : Bool) → eqb u t ≡ b → cond b (Some d) (cond (is_wait w (wait_of x.mode)) (Some f) None) ≡ Some c → Acting s t x c
    by true i e = own u z op d st (ap (λ b. cond b (Some d) None) i ∙ e)
    by false i e = woken w f e

  pub acting : (e : EventView) → Step program s e s2 → deed t (wait_of x.mode) e ≡ Some c → Acting s t x c
  acting (made u p what moment) k e = own u k.0 (making what) (did_make p what moment) k.2 e
  acting (spawned u n kind result) k e = own u k.0 (spawning k.1) (did_spawn n kind result) k.4 e
  acting (done u j b a) k e = own u k.0 k.1 (deed_of b j a) k.4 e
  acting (met u j side p v w o) k e = either u w k.0 k.1 (deed_on side j p v) (deed_on (other_side side) o p v) k.6 e
  acting (parked u w bs) k e = own u k.0 k.1 (did_wait w bs) k.2 e
  acting (posted u w p v) k e = own u k.0 (posting (port p) v) (did_post w p v) k.2 e
  acting (settled w j side p v) k e = woken w (deed_on side j p v) e
  acting (defaulted u v) k e = own u k.0 k.1 (did_default v) k.3 e
  acting (closed u p) k e = own u k.0 (closing (port p)) (did_close p) k.2 e
  acting (registered u name args v) k e = own u k.0 (registering name args) (did_register name args v) k.3 e
  acting (printed u line) k e = own u k.0 (printing line) (did_print line) k.2 e
  acting (ticked m ports) k e = absurd (let i : None ≡ Some c = e in cc)
  acting (is_over u how) k e = ended u how e

pub no_end : (op : OpView) (how : Ending) (c : Deed) (a : Tree) → Replies op c a → c ≡ did_end how → ⊥
no_end op how c a (got d) e = let k = sym d ∙ e in cc
no_end op how c a (gave d i) e = let k = sym d ∙ e in cc
no_end op how c a (chose k p v d at i) e = let j = sym d ∙ e in cc
no_end op how c a (chose_put k p u v d at i j) e = let q = sym d ∙ e in cc
no_end op how c a (chose_default v d i j) e = let k = sym d ∙ e in cc
no_end op how c a (posts d i) e = let k = sym d ∙ e in cc
no_end op how c a (posts_late w d i) e = let k = sym d ∙ e in cc
no_end op how c a (creates p moment d i) e = let k = sym d ∙ e in cc
no_end op how c a (starts u d i) e = let k = sym d ∙ e in cc
no_end op how c a (shuts d i) e = let k = sym d ∙ e in cc
no_end op how c a (enrols d) e = let k = sym d ∙ e in cc
no_end op how c a (prints d i) e = let k = sym d ∙ e in cc

pub put_answer : (roles : Roles) (a : Tree) → IsPutAnswer a → IsPublic roles a
put_answer roles a (inl e) = subst (IsPublic roles) (sym e) tt
put_answer roles a (inr e) = subst (IsPublic roles) (sym e) tt

module _ (program : ProgramView) (checked : IsProgram program) (sealed : IsSealed program) (roles more : Roles) (g : Grows roles more) (s s2 : State) (e : EventView) (t : ℕ) (x y : Task) where
  abbrev its : Option Deed
  its = deed t (wait_of x.mode) e

  -- what is known of the answers of the event
  pub record Answers : Type 0 where
    pub asks : (op : OpView) → RunsAtOperation s t op x → MayAsk program roles x.body op
    pub takes : (k p : ℕ) (a : Tree) → its ≡ Some (did_take k p a) → (a ≡ nil) ⊎ ChannelCarries program roles p a
    pub makes : (p : ℕ) (what : WhatView) (m : Option ℕ) → its ≡ Some (did_make p what m) → IsAtOp x.body (making what) → TypedBody program t more (body_fill (port p) x.body)
    pub registers : (name : RegisterName) (args : Trees) (a : Tree) → its ≡ Some (did_register name args a) → IsPublic roles a

  module _ (there : s.tasks t ≡ Some x) (typed : TypedTask program roles t x) (text : IsChecked (known_in checked.plain program) x.body) (step : Step program s e s2) (answers : Answers) where
    fill : (op : OpView) (a : Tree) → IsAtOp x.body op → MayAsk program roles x.body op → IsAnswer program more op a → TypedBody program t more (body_fill a x.body)
    fill op a at may k = body_goes program checked sealed t more x.body op a (body_more program roles more g t x.body typed.body) at (ask_more program roles more g x.body op may) k

    got_more : (p : ℕ) (a : Tree) → (a ≡ nil) ⊎ ChannelCarries program roles p a → (a ≡ nil) ⊎ ChannelCarries program more p a
    got_more p a (inl k) = inl k
    got_more p a (inr k) = inr (carries_more program roles more g p a k)

    filled : (op : OpView) (c : Deed) (a : Tree) → its ≡ Some c → IsAtOp x.body op → MayAsk program roles x.body op → Replies op c a → TypedBody program t more (body_fill a x.body)
    filled op c a is at may (got {c = ch} d) = fill (taking ch) a at may (got_more (port_of_value ch) a (answers.takes 0 (port_of_value ch) a (is ∙ ap (λ z. Some z) d)))
    filled op c a is at may (gave {c = ch} {v} d i) = fill (putting ch v) a at may (put_answer more a i)
    filled op c a is at may (chose {ports} {priority} {default} k p v d i j) =
        let open_port : IsPublicPort roles p = each-get (IsPublicBranch roles) (branches_of (choosing ports priority default)) k (take_of p) may.0 i in
        fill (choosing ports priority default) a at may (subst (IsPublic more) (sym j) (public_more roles more g v (got_public roles program p v open_port (answers.takes k p v (is ∙ ap (λ z. Some z) d))), (g p public open_port, tt)))
    filled op c a is at may (chose_put {ports} {priority} {default} k p u v d i j q) =
        let open_port = each-get (IsPublicBranch roles) (branches_of (choosing ports priority default)) k (put_of p u) may.0 i in
        fill (choosing ports priority default) a at may (subst (IsPublic more) (sym j) (put_answer more v q, (g p public open_port.0, tt)))
    filled op c a is at may (chose_default {ports} {priority} {default} v d i j) = fill (choosing ports priority default) a at may (subst (IsPublic more) (sym j) (by default i may.1, (tt, tt))) where
      by : (o : Option Tree) → o ≡ Some v → Rattle.ca_roles.specs.Typed.IsPublicOption roles o → IsPublic more v
      by None i h = absurd (let k : None ≡ Some v = i in cc)
      by (Some w) i h = subst (IsPublic more) (let k : w ≡ v = cc in k) (public_more roles more g w h)
    filled op c a is at may (posts {c = ch} {v} d i) = fill (posting ch v) a at may (put_answer more a i)
    filled op c a is at may (posts_late {c = ch} {v} w d i) = fill (posting ch v) a at may (subst (IsPublic more) (sym i) tt)
    filled op c a is at may (creates {what} p moment d i) = subst (λ z. TypedBody program t more (body_fill z x.body)) (sym i) (answers.makes p what moment (is ∙ ap (λ z. Some z) d) at)
    filled op c a is at may (starts {seed} u d i) = fill (spawning seed) a at may (subst (IsPublic more) (sym i) tt)
    filled op c a is at may (shuts {c = ch} d i) = fill (closing ch) a at may (subst (IsPublic more) (sym i) tt)
    filled op c a is at may (enrols {name} {args} d) = fill (registering name args) a at may (public_more roles more g a (answers.registers name args a (is ∙ ap (λ z. Some z) d)))
    filled op c a is at may (prints {line} d i) = fill (printing line) a at may (subst (IsPublic more) (sym i) tt)

    -- what the task asked for, it might
    may_ask : (op : OpView) (c : Deed) → its ≡ Some c → IsAtOp x.body op → ((how : Ending) → c ≡ did_end how → ⊥) → MayAsk program roles x.body op
    may_ask op c is at not = by (acting program s s2 t x there c e step is) where
      by : Acting s t x c → MayAsk program roles x.body op
      by (stands o st) = subst (MayAsk program roles x.body) (same_op x.body x.body o op refl st.2 at) (answers.asks o st)
      by (waits w m) = typed.waits w op m at
      by (ends how k) = absurd (not how k)

    no_more : {G : Type 0} (w : ℕ) → over ≡ waiting w → G
    no_more w k = absurd cc

    pub task_kept : Acts program x y its → TypedTask program more t y
    task_kept (idles d is) = subst (TypedTask program more t) (sym is) (task_more program roles more g t x typed)
    task_kept (parks op w d may at runs is) = subst (TypedTask program more t) (sym is) (record {
      body = body_more program roles more g t x.body typed.body;
      result = result_more program roles more g x.result typed.result;
      waits = λ v o m st. subst (MayAsk program more x.body) (same_op x.body x.body op o refl at st) (ask_more program roles more g x.body op (may_ask op (did_wait w (branches_of op)) d at (λ how k. let j : did_wait w (branches_of op) ≡ did_end how = k in cc)));
    })
    task_kept (stops how d m v is) = subst (TypedTask program more t) (sym is) (record {
      body = body_more program roles more g t x.body typed.body;
      result = result_more program roles more g x.result typed.result;
      waits = λ w op k st. no_more w k;
    })
    task_kept (goes op c a b d at rep rest is) = subst (TypedTask program more t) (sym is) (record {
      body = rest_typed program checked sealed t more (body_fill a x.body) b rest (filled_checked program checked sealed x.body a text) (filled op c a d at (may_ask op c d at (λ how k. no_end op how c a rep k)) rep);
      result = result_more program roles more g x.result typed.result;
      waits = λ w o k st. no_wait w k;
    })
