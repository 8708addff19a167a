-- A queue into which nobody put yet is empty.
use Rattle.std.proofs.Common.{◌≡◌, ℕ, List, [], ◌∷◌, ◌++◌, refl, sym, ap, ◌∙◌, Bool, true, false, cond, Option, Some, None, eqb}
use Rattle.ca_value.specs.Tree.{Tree}
use Rattle.ca_term.specs.Program.{ProgramView}
use Rattle.ca_term.specs.Event.{EventView, made, spawned, done, met, parked, posted, settled, defaulted, closed, registered, printed, ticked, over as is_over}
use Rattle.ca_meaning.specs.Applied.{Work}
use Rattle.ca_meaning.specs.Channel.{Channel, channel_made}
use Rattle.ca_meaning.specs.History.{channel_after}
use Rattle.ca_meaning.specs.State.{State}
use Rattle.ca_meaning.specs.PipelineTable.{feed_next}
use Rattle.ca_meaning.proofs.Histories.{step_tells}
use Rattle.ca_roles.specs.Roles.{replies, hidden, Roles, no_roles}
use Rattle.ca_networks.proofs.Walking.{Keeps}
use Rattle.ca_networks.proofs.Passing.{enters, leaves}
use Rattle.ca_networks.proofs.Standing.{moved}
use Rattle.ca_networks.proofs.Tables.{feed_body, feed_op, feed_table}
use Rattle.ca_networks.proofs.Piping.{NoFeed, none_enters, queue_now}
use Rattle.ca_meaning.proofs.Channels.{made_empty}

abbrev pub AllEmpty : Roles → State → Type 0
AllEmpty roles s = (q m : ℕ) (w : Work) → roles q ≡ Some (hidden m (replies w)) → NoFeed s q → (c : Channel) → s.channels q ≡ Some c → c.held ≡ []

pub none_empty : (s : State) → AllEmpty no_roles s
none_empty s q m w role none c at = absurd (let k : None ≡ Some (hidden m (replies w)) = role in cc)

-- a channel that comes is empty
new_empty : (q : ℕ) (e : EventView) (c : Channel) → channel_after q e None ≡ Some c → c.held ≡ []
new_empty q (made t p what m) c is = by (eqb p q) is where
  by : (b : Bool) → cond b (channel_made what) None ≡ Some c → c.held ≡ []
  by true k = made_empty what c k
  by false k = absurd (let j : None ≡ Some c = k in cc)
new_empty q (spawned t u kind result) c is = absurd (let j : None ≡ Some c = is in cc)
new_empty q (done t k b a) c is = absurd (let j : None ≡ Some c = is in cc)
new_empty q (met t k side p v w o) c is = absurd (let j : None ≡ Some c = is in cc)
new_empty q (parked t w bs) c is = absurd (let j : None ≡ Some c = is in cc)
new_empty q (posted t w p v) c is = absurd (let j : None ≡ Some c = is in cc)
new_empty q (settled w k side p v) c is = absurd (let j : None ≡ Some c = is in cc)
new_empty q (defaulted t v) c is = absurd (let j : None ≡ Some c = is in cc)
new_empty q (closed t p) c is = absurd (let j : None ≡ Some c = is in cc)
new_empty q (registered t name args v) c is = absurd (let j : None ≡ Some c = is in cc)
new_empty q (printed t line) c is = absurd (let j : None ≡ Some c = is in cc)
new_empty q (ticked m ports) c is = absurd (let j : None ≡ Some c = is in cc)
new_empty q (is_over t how) c is = absurd (let j : None ≡ Some c = is in cc)

pub no_more : (xs ys : List Tree) → [] ≡ xs ++ ys → (xs ≡ []) × (ys ≡ [])
no_more [] ys e = (refl, sym e)
no_more (x ∷ xs) ys e = absurd cc

pub empty_keeps : (program : ProgramView) (last : State) → Keeps program last (λ journal roles s. AllEmpty roles s)
empty_keeps program last journal rest roles more s mid e traced g k turn g2 steps empty q m w role none c at = by (s.channels q) refl where
  before : NoFeed s q
  before u f place x fq = none u f place (moved program (feed_body f place) (feed_op f place) feed_next (feed_table f place program) journal s mid e traced k u x).0 fq

  by : (o : Option Channel) → s.channels q ≡ o → c.held ≡ []
  by None is = new_empty q e c (ap (channel_after q e) (sym is) ∙ sym (step_tells program s mid e q k traced.known.sound) ∙ at)
  by (Some d) is =
      let r = g.typed.channels q d is in
      let same : r.0 ≡ hidden m (replies w) = (let i : Some r.0 ≡ Some (hidden m (replies w)) = sym (turn.grows q r.0 r.1) ∙ role in cc) in
      let role1 : roles q ≡ Some (hidden m (replies w)) = r.1 ∙ ap (λ z. Some z) same in
      let o = queue_now program roles more journal s mid e traced g turn k q m w role1 d is in
      let none1 = none_enters program roles more journal s mid e traced g turn k q m w role1 before in
      let held : d.held ≡ [] = empty q m w role1 before d is in
      let all : [] ≡ leaves q e ++ o.0.held = sym (ap (λ i. i ++ enters q e) held ∙ none1) ∙ o.2 in
      let same2 : o.0 ≡ c = (let i : Some o.0 ≡ Some c = sym o.1 ∙ at in cc) in
      ap (λ (z : Channel). z.held) (sym same2) ∙ (no_more (leaves q e) o.0.held all).1
