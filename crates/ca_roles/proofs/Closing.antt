-- Who closes a hidden channel: a feed its own channels, and nobody else any.
use Rattle.std.proofs.Common.{◌≡◌, ℕ, List, [], ◌∷◌, refl, sym, ap, ◌∙◌, subst, Bool, true, false, cond, Option, Some, None, option_map, eqb, eqb-true, filter, nat_le, map as map_list}
use Rattle.ca_value.specs.Tree.{nil, port}
use Rattle.ca_term.specs.declared.place.Place.{Place}
use Rattle.ca_term.specs.declared.event.Ending.TheVariants.{Ended, Faulted}
use Rattle.ca_term.specs.Operation.{OpView, taking, putting, making, closing, fixed}
use Rattle.ca_term.specs.Program.{ProgramView}
use Rattle.ca_term.specs.Event.{EventView, made, spawned, done, met, parked, posted, settled, defaulted, closed, registered, printed, ticked, over as is_over, port_number as number_of}
use Rattle.ca_meaning.specs.Asks.{Next, to, stop, fail, too_large_here, pair_of}
use Rattle.ca_meaning.specs.Body.{at_op, faulted, ended}
use Rattle.ca_meaning.specs.PipelineTable.{FeedPorts, FeedState, feed_takes, feed_makes, feed_puts, feed_queues, feed_closes_jobs, feed_closes_replies}
use Rattle.ca_meaning.specs.System.{a_feed}
use Rattle.ca_meaning.specs.Task.{TaskBody, system_task}
use Rattle.ca_meaning.specs.State.{State, Task, Deadline, due}
use Rattle.ca_meaning.specs.Going.{IsAtOp, RunsAtOperation}
use Rattle.ca_meaning.specs.Steps.{Step}
use Rattle.ca_meaning.specs.Sound.{Each, Sound}
use Rattle.ca_meaning.specs.History.{is_named, is_result, closes}
use Rattle.ca_meaning.proofs.Waits.{each-filter}
use Rattle.ca_laws.specs.Deeds.{deed}
use Rattle.ca_laws.proofs.Acts.{wait_of, Acts, idles, parks, stops, goes}
use Rattle.ca_laws.proofs.Acted.{acts}
use Rattle.ca_laws.proofs.Stood.{AllStood}
use Rattle.ca_laws.proofs.Tables.{asked}
use Rattle.ca_roles.specs.Roles.{Hidden, public, hidden, Roles}
use Rattle.ca_roles.specs.Users.{Closes, MayClose}
use Rattle.ca_roles.specs.Typed.{IsPublicPort, IsTypedResult, MayAsk, IsFeedOver, Typed}

module _ (roles : Roles) where
  pub due_public : (m : ℕ) (ds : List Deadline) → Each (λ (d : Deadline). IsPublicPort roles d.port) ds → Each (IsPublicPort roles) (due m ds)
  due_public m ds h = ports (filter (λ d. nat_le d.moment m) ds) (each-filter (λ (d : Deadline). IsPublicPort roles d.port) (λ d. nat_le d.moment m) ds h) where
    ports : (es : List Deadline) → Each (λ (d : Deadline). IsPublicPort roles d.port) es → Each (IsPublicPort roles) (map_list (λ d. d.port) es)
    ports [] h = tt
    ports (d ∷ es) h = (h.0, ports es h.1)

  named_public : (p : ℕ) (ports : List ℕ) → Each (IsPublicPort roles) ports → is_named p ports ≡ true → IsPublicPort roles p
  named_public p [] h e = absurd (let k : false ≡ true = e in cc)
  named_public p (q ∷ ports) h e = by (eqb q p) refl e (named_public p ports h.1) where
    by : (b : Bool) → eqb q p ≡ b → cond b true (is_named p ports) ≡ true → (is_named p ports ≡ true → IsPublicPort roles p) → IsPublicPort roles p
    by true i e r = subst (IsPublicPort roles) (eqb-true q p i) h.0
    by false i e r = r e

  result_public : (p : ℕ) (result : Option ℕ) → IsTypedResult roles result → is_result p result ≡ true → IsPublicPort roles p
  result_public p None h e = absurd (let k : false ≡ true = e in cc)
  result_public p (Some q) h e = subst (IsPublicPort roles) (eqb-true q p e) h

  pub not_both : {G : Type 0} (p m : ℕ) (h : Hidden) → roles p ≡ Some (hidden m h) → IsPublicPort roles p → G
  not_both p m h e f = let k : Some public ≡ Some (hidden m h) = sym f ∙ e in absurd cc

  may_close : (p q m : ℕ) (h : Hidden) (b : TaskBody) → roles p ≡ Some (hidden m h) → port p ≡ port q → MayClose (roles q) q b → Closes p h b
  may_close p q m h b at e k =
      let pq : p ≡ q = cc in
      let k2 : MayClose (roles p) p b = subst (λ n. MayClose (roles n) n b) (sym pq) k in
      subst (λ o. MayClose o p b) at k2

-- the task closes the hidden channel p
pub record ClosedBy (p : ℕ) (h : Hidden) (s : State) (e : EventView) : Type 0 where
  pub task : ℕ
  pub was : Task
  pub event : e ≡ closed task p
  pub there : s.tasks task ≡ Some was
  pub stands : IsAtOp was.body (closing (port p))
  pub may : Closes p h was.body

-- a feed that closes its queue
pub closes_replies : (f : FeedPorts) (l : Place) (n : Next FeedState) (p : ℕ) → IsAtOp (system_task (a_feed f l n)) (closing (port p)) → (f.jobs ≡ p → ⊥) → n ≡ to feed_closes_replies
closes_replies f l (to feed_closes_replies) p at apart = refl
closes_replies f l (to feed_closes_jobs) p at apart = absurd (apart (let k : closing (port p) ≡ closing (port f.jobs) = asked l None (closing (port f.jobs)) (record { op = closing (port p); place = at.0 }) at.1 in cc))
closes_replies f l (to feed_takes) p at apart = absurd (let k : closing (port p) ≡ taking (port f.source) = asked l None (taking (port f.source)) (record { op = closing (port p); place = at.0 }) at.1 in cc)
closes_replies f l (to (feed_makes v)) p at apart = absurd (let k : closing (port p) ≡ making (fixed 1) = asked l None (making (fixed 1)) (record { op = closing (port p); place = at.0 }) at.1 in cc)
closes_replies f l (to (feed_puts v q)) p at apart = absurd (let k : closing (port p) ≡ putting (port f.jobs) (pair_of v (port q)) = asked l (too_large_here (pair_of v (port q))) (putting (port f.jobs) (pair_of v (port q))) (record { op = closing (port p); place = at.0 }) at.1 in cc)
closes_replies f l (to (feed_queues q)) p at apart = absurd (let k : closing (port p) ≡ putting (port f.replies) (port q) = asked l (too_large_here (port q)) (putting (port f.replies) (port q)) (record { op = closing (port p); place = at.0 }) at.1 in cc)
closes_replies f l stop p at apart = absurd (let k : ended nil ≡ at_op (record { op = closing (port p); place = at.0 }) = at.1 in cc)
closes_replies f l (fail g) p at apart = absurd (let k : faulted g l ≡ at_op (record { op = closing (port p); place = at.0 }) = at.1 in cc)

module _ (program : ProgramView) (roles : Roles) (s s2 : State) (typed : Typed program roles s) (asks : (t : ℕ) (op : OpView) (x : Task) → RunsAtOperation s t op x → MayAsk program roles x.body op) where
  -- scripts close public channels, the clock timeouts, and a fault its task's result
  pub closed_by : (e : EventView) (p m : ℕ) (h : Hidden) → Step program s e s2 → roles p ≡ Some (hidden m h) → closes p e ≡ true → ClosedBy p h s e
  closed_by (closed t q) p m h x at c =
      let qp = eqb-true q p c in
      let stands : RunsAtOperation s t (closing (port p)) x.0 = subst (λ n. RunsAtOperation s t (closing (port n)) x.0) qp x.2 in
      let k = asks t (closing (port p)) x.0 stands in
      record { task = t; was = x.0; event = ap (closed t) qp; there = stands.0; stands = stands.2; may = may_close roles p k.0 m h x.0.body at k.1 k.2 }
  closed_by (ticked n ports) p m h x at c = not_both roles p m h at (named_public roles p ports (subst (Each (IsPublicPort roles)) x.2 (due_public roles n s.deadlines typed.deadlines)) c)
  closed_by (is_over t (Faulted fault place result)) p m h x at c = not_both roles p m h at (result_public roles p (option_map number_of result) (subst (IsTypedResult roles) x.3 (typed.tasks t x.0 x.1.0).result) c)
  closed_by (is_over t Ended) p m h x at c = absurd (let k : false ≡ true = c in cc)
  closed_by (made t q what moment) p m h x at c = absurd (let k : false ≡ true = c in cc)
  closed_by (spawned t u kind result) p m h x at c = absurd (let k : false ≡ true = c in cc)
  closed_by (done t k b a) p m h x at c = absurd (let j : false ≡ true = c in cc)
  closed_by (met t k side q v w o) p m h x at c = absurd (let j : false ≡ true = c in cc)
  closed_by (parked t w bs) p m h x at c = absurd (let k : false ≡ true = c in cc)
  closed_by (posted t w q v) p m h x at c = absurd (let k : false ≡ true = c in cc)
  closed_by (settled w k side q v) p m h x at c = absurd (let j : false ≡ true = c in cc)
  closed_by (defaulted t v) p m h x at c = absurd (let k : false ≡ true = c in cc)
  closed_by (registered t name args v) p m h x at c = absurd (let k : false ≡ true = c in cc)
  closed_by (printed t line) p m h x at c = absurd (let k : false ≡ true = c in cc)

-- a feed that is over stays so
feed_stopped : {G : Type 0} (f : FeedPorts) (l : Place) (b : TaskBody) (op : OpView) → b ≡ system_task (a_feed f l stop) → IsAtOp b op → G
feed_stopped f l b op is at =
    let at2 : IsAtOp (system_task (a_feed f l stop)) op = subst (λ z. IsAtOp z op) is at in
    absurd (let k : ended nil ≡ at_op (record { op = op; place = at2.0 }) = at2.1 in cc)

pub over_stays : (program : ProgramView) (s s2 : State) (e : EventView) (p : ℕ) → Sound s → AllStood s → Step program s e s2 → IsFeedOver s p → IsFeedOver s2 p
over_stays program s s2 e p sound stood x (u, y, f, l, there, is, at) = by (acts program s s2 u y there stood sound.waited e x) where
  same : (z : Task) → s2.tasks u ≡ Some z → z.body ≡ y.body → IsFeedOver s2 p
  same z there2 b = (u, z, f, l, there2, b ∙ is, at)

  by : (z : Task) × (s2.tasks u ≡ Some z) × Acts program y z (deed u (wait_of y.mode) e) → IsFeedOver s2 p
  by (z, there2, idles no_deed ye) = same z there2 (ap (λ (q : Task). q.body) ye)
  by (z, there2, parks op w d may at_op2 r ye) = same z there2 (ap (λ (q : Task). q.body) ye)
  by (z, there2, stops how d r v ye) = same z there2 (ap (λ (q : Task). q.body) ye)
  by (z, there2, goes op c a b d at_op2 r rest ye) = feed_stopped f l y.body op is at_op2
