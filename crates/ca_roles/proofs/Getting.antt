-- In a typed state scripts get public answers, but for the ports of their Makes; and the port that a feed makes is a reply
-- port for its value.
use Rattle.std.proofs.Common.{◌≡◌, ℕ, refl, sym, ap, ◌∙◌, subst, Option, Some, None}
use Rattle.ca_value.specs.Tree.{Tree, Trees, port}
use Rattle.ca_term.specs.declared.place.Place.{Place}
use Rattle.ca_term.specs.declared.event.Side.TheVariants.{Take}
use Rattle.ca_term.specs.declared.head.RegisterName.{RegisterName}
use Rattle.ca_term.specs.Operation.{OpView, WhatView, choosing, making}
use Rattle.ca_term.specs.Program.{ProgramView}
use Rattle.ca_term.specs.Event.{EventView, take_of, put_of}
use Rattle.ca_meaning.specs.Applied.{Work}
use Rattle.ca_meaning.specs.Asks.{to}
use Rattle.ca_meaning.specs.Body.{BodyView}
use Rattle.ca_meaning.specs.Operands.{port_of_value}
use Rattle.ca_meaning.specs.Choice.{branches_of}
use Rattle.ca_meaning.specs.PipelineTable.{FeedPorts, feed_makes}
use Rattle.ca_meaning.specs.System.{a_feed}
use Rattle.ca_meaning.specs.Task.{script, system_task, body_fill}
use Rattle.ca_meaning.specs.State.{State, Task}
use Rattle.ca_meaning.specs.Going.{IsAtOp, RunsAtOperation}
use Rattle.ca_meaning.specs.Steps.{Step}
use Rattle.ca_meaning.specs.Sound.{Sound}
use Rattle.ca_meaning.proofs.Refusals.{each-get}
use Rattle.ca_laws.specs.Deeds.{Deed, did_take, did_register, deed}
use Rattle.ca_laws.proofs.Acts.{wait_of, Replies, got, gave, chose, chose_put, chose_default, posts, posts_late, creates, starts, shuts, enrols, prints}
use Rattle.ca_laws.proofs.Stood.{AllStood}
use Rattle.ca_meaning.proofs.Single.{same_op}
use Rattle.ca_roles.specs.Roles.{replies, hidden, Roles, Grows, IsPublic, IsReply}
use Rattle.ca_roles.specs.Users.{MayUse}
use Rattle.ca_roles.specs.Typed.{IsPublicPort, IsPublicBranch, IsPublicOption, TypedBody, MayAsk, Typed}
use Rattle.ca_roles.proofs.TypedBodies.{script_use}
use Rattle.ca_roles.proofs.TypedTasks.{Acting, stands, waits, ends, acting, no_end, put_answer}
use Rattle.ca_roles.proofs.Moving.{ScriptsGetPublic}
use Rattle.ca_roles.proofs.Passed.{got_fits}
use Rattle.ca_roles.proofs.Ports.{got_public}

module _ (program : ProgramView) (roles : Roles) (s s2 : State) (e : EventView) (typed : Typed program roles s) (sound : Sound s) (stood : AllStood s) (asks : (t : ℕ) (op : OpView) (x : Task) → RunsAtOperation s t op x → MayAsk program roles x.body op) (step : Step program s e s2) (registers : (t : ℕ) (o : Option ℕ) (name : RegisterName) (args : Trees) (a : Tree) → deed t o e ≡ Some (did_register name args a) → IsPublic roles a) where
  -- what a task's deed answers, it might ask for
  may_ask : (t : ℕ) (x : Task) (op : OpView) (c : Deed) (a : Tree) → s.tasks t ≡ Some x → deed t (wait_of x.mode) e ≡ Some c → IsAtOp x.body op → Replies op c a → MayAsk program roles x.body op
  may_ask t x op c a there is at rep = by (acting program s s2 t x there c e step is) where
    by : Acting s t x c → MayAsk program roles x.body op
    by (stands o st) = subst (MayAsk program roles x.body) (same_op x.body x.body o op refl st.2 at) (asks t o x st)
    by (waits w m) = (typed.tasks t x there).waits w op m at
    by (ends how k) = absurd (no_end op how c a rep k)

  module _ (t : ℕ) (x : Task) (b : BodyView) where
    takes : (k p : ℕ) (a : Tree) → deed t (wait_of x.mode) e ≡ Some (did_take k p a) → IsPublicPort roles p → IsPublic roles a
    takes k p a is i = got_public roles program p a i (got_fits program roles s s2 typed sound stood asks t (wait_of x.mode) e k p a step is)

    default_public : (o : Option Tree) (v : Tree) → o ≡ Some v → IsPublicOption roles o → IsPublic roles v
    default_public None v i h = absurd (let k : None ≡ Some v = i in cc)
    default_public (Some w) v i h = subst (IsPublic roles) (let k : w ≡ v = cc in k) h

    public_answer : (op : OpView) (c : Deed) (a : Tree) → x.body ≡ script b → deed t (wait_of x.mode) e ≡ Some c → MayAsk program roles x.body op → Replies op c a → ((what : WhatView) → op ≡ making what → ⊥) → IsPublic roles a
    public_answer op c a body is may (got {c = ch} d) other =
        let i : IsPublicPort roles may.0 = script_use roles Take may.0 b (subst (MayUse (roles may.0) Take may.0) body may.2) in
        takes 0 (port_of_value ch) a (is ∙ ap (λ z. Some z) d) (subst (λ z. IsPublicPort roles (port_of_value z)) (sym may.1) i)
    public_answer op c a body is may (gave {c = ch} {v} d i) other = put_answer roles a i
    public_answer op c a body is may (chose {ports} {priority} {default} k p v d i j) other =
        let open_port : IsPublicPort roles p = each-get (IsPublicBranch roles) (branches_of (choosing ports priority default)) k (take_of p) may.0 i in
        subst (IsPublic roles) (sym j) (takes k p v (is ∙ ap (λ z. Some z) d) open_port, (open_port, tt))
    public_answer op c a body is may (chose_put {ports} {priority} {default} k p u v d i j q) other =
        let open_port = each-get (IsPublicBranch roles) (branches_of (choosing ports priority default)) k (put_of p u) may.0 i in
        subst (IsPublic roles) (sym j) (put_answer roles v q, (open_port.0, tt))
    public_answer op c a body is may (chose_default {ports} {priority} {default} v d i j) other = subst (IsPublic roles) (sym j) (default_public default v i may.1, (tt, tt))
    public_answer op c a body is may (posts {c = ch} {v} d i) other = put_answer roles a i
    public_answer op c a body is may (posts_late {c = ch} {v} w d i) other = subst (IsPublic roles) (sym i) tt
    public_answer op c a body is may (creates {what} p moment d i) other = absurd (other what refl)
    public_answer op c a body is may (starts {seed} u d i) other = subst (IsPublic roles) (sym i) tt
    public_answer op c a body is may (shuts {c = ch} d i) other = subst (IsPublic roles) (sym i) tt
    public_answer op c a body is may (enrols {name} {args} d) other = registers t (wait_of x.mode) name args a (is ∙ ap (λ z. Some z) d)
    public_answer op c a body is may (prints {line} d i) other = subst (IsPublic roles) (sym i) tt

  pub scripts_get_public : ScriptsGetPublic roles s e
  scripts_get_public t x b op c a there body is at rep other = public_answer t x b op c a body is (may_ask t x op c a there is at rep) rep other

-- the port that a feed makes for a value
pub feed_reply : (program : ProgramView) (roles more : Roles) (t : ℕ) (f : FeedPorts) (l : Place) (v : Tree) (p k : ℕ) (w : Work) → Grows roles more → TypedBody program t more (body_fill (port p) (system_task (a_feed f l (to (feed_makes v))))) → roles f.replies ≡ Some (hidden k (replies w)) → IsReply more w p v
feed_reply program roles more t f l v p k w g h at =
    let same : h.1 ≡ w = (let j : Some (hidden h.0 (replies h.1)) ≡ Some (hidden k (replies w)) = sym h.4 ∙ g f.replies (hidden k (replies w)) at in cc) in
    subst (λ z. IsReply more z p v) same h.5.1
