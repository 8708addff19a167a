-- On one desk the next event is one.
use Rattle.std.proofs.Common.{◌≡◌, ℕ, zero, suc, ◌+◌, ◌-◌, ◌%◌, ◌<◌, ◌≤◌, List, [], ◌∷◌, length, refl, sym, ap, ap₂, ◌∙◌, subst, arith, Bool, true, false, cond, Option, Some, None, option_map, slice_get, eqb, eqb-true, nat_lt, ltb-true, ltb-false}
use Rattle.std.proofs.lemmas.Nat.{mod_below}
use mathlib.Core.Logic.{dite}
use native.Mathlib.Decide.{ℕ_discrete, dec_le}
use native.Mathlib.Nat.{lt_of_not-le}
use Rattle.ca_value.specs.Tree.{Tree, Trees, port}
use Rattle.ca_value.specs.declared.value.PortId.{PortId}
use Rattle.ca_term.specs.declared.place.Place.{Place}
use Rattle.ca_term.specs.declared.fault.Fault.{Fault}
use Rattle.ca_term.specs.declared.event.Ending.TheVariants.{Ended, Faulted}
use Rattle.ca_term.specs.declared.event.Side.{Side}
use Rattle.ca_term.specs.declared.head.RegisterName.{RegisterName}
use Rattle.ca_term.specs.declared.event.TaskKind.{TaskKind}
use Rattle.ca_term.specs.Operation.{OpView, WhatView, unbuffered, fixed, dropping, sliding, promise, timeout, mult, mix, publication, taking, putting, choosing, posting, making, spawning, closing, registering, printing}
use Rattle.ca_term.specs.Program.{ProgramView}
use Rattle.ca_term.specs.Event.{BranchView, EventView, made, spawned, done, met, parked, posted, settled, defaulted, closed, registered, printed, ticked, over as is_over, port_number}
use Rattle.ca_meaning.specs.Body.{At, local, at_op, ended, faulted, nowhere}
use Rattle.ca_meaning.specs.Registry.{answers}
use Rattle.ca_meaning.specs.Wait.{Handler, side_of, port_of}
use Rattle.ca_meaning.specs.Row.{not_ready, completes, meets}
use Rattle.ca_meaning.specs.Task.{body_at}
use Rattle.ca_meaning.specs.State.{State, Task}
use Rattle.ca_meaning.specs.Choice.{branches_of, has_priority, default_of, parks, row, is_ready, any_ready, Picks}
use Rattle.ca_meaning.specs.Refusal.{refusal, registering_gives, fault_at}
use Rattle.ca_meaning.specs.Going.{IsAtOp, RunsAtOperation}
use Rattle.ca_meaning.specs.TaskSteps.{IsMoment, kind_of, result_of}
use Rattle.ca_meaning.specs.Steps.{Step}
use Rattle.ca_meaning.specs.EndsLaw.{is_of}
use Rattle.ca_meaning.specs.Solo.{Desk, distance, IsFirstFrom, Chooses, ReadsMoment, Leaves}
use Rattle.ca_meaning.proofs.Single.{same_task, same_op, same_seed}

-- which kind of event a task has
pub data Class : Type 0 where
  makes spawns takes_branch takes_default waits posts closes registers prints ends faults settles_it ticks_it : Class

abbrev pub class : EventView → Class
class (made t p what moment) = makes
class (spawned t u kind result) = spawns
class (done t k b a) = takes_branch
class (met t k side p v w o) = takes_branch
class (parked t w bs) = waits
class (posted t w p v) = posts
class (defaulted t v) = takes_default
class (closed t p) = closes
class (registered t name args v) = registers
class (printed t line) = prints
class (is_over t Ended) = ends
class (is_over t (Faulted fault place result)) = faults
class (settled w k side p v) = settles_it
class (ticked m ports) = ticks_it

abbrev plain_class : OpView → Class
plain_class (taking c) = waits
plain_class (putting c v) = waits
plain_class (choosing ports priority None) = waits
plain_class (choosing ports priority (Some v)) = takes_default
plain_class (posting c v) = posts
plain_class (making what) = makes
plain_class (spawning seed) = spawns
plain_class (closing c) = closes
plain_class (registering name args) = registers
plain_class (printing line) = prints

abbrev class_op : State → OpView → Option Fault → Class
class_op s op (Some f) = faults
class_op s op None = cond (any_ready s (branches_of op)) takes_branch (plain_class op)

abbrev class_at : State → At → Class
class_at s (at_op w) = class_op s w.op (refusal s w.op)
class_at s (ended v) = ends
class_at s (faulted f p) = faults
class_at s local = ends
class_at s nowhere = ends

-- a task that stands at an operation
stands_class : (s : State) (t : ℕ) (op : OpView) (x : Task) (b : Bool) → RunsAtOperation s t op x → any_ready s (branches_of op) ≡ b → class_at s (body_at x.body) ≡ cond b takes_branch (plain_class op)
stands_class s t op x b st e = ap (class_at s) st.2.1 ∙ ap (class_op s op) st.3 ∙ ap (λ c. cond c takes_branch (plain_class op)) e

ready_any : (s : State) (bs : List BranchView) (k : ℕ) (b : BranchView) → slice_get bs k ≡ Some b → is_ready (row s b) ≡ true → any_ready s bs ≡ true
ready_any s [] k b e r = absurd (let j : None ≡ Some b = e in cc)
ready_any s (o ∷ bs) zero b e r = ap (λ c. cond c true (any_ready s bs)) (ap (λ z. is_ready (row s z)) (let j : o ≡ b = cc in j) ∙ r)
ready_any s (o ∷ bs) (suc k) b e r = by (is_ready (row s o)) (ready_any s bs k b e r) where
  by : (c : Bool) → any_ready s bs ≡ true → cond c true (any_ready s bs) ≡ true
  by true i = refl
  by false i = i

parks_class : (op : OpView) → parks op ≡ true → default_of op ≡ None → plain_class op ≡ waits
parks_class (taking c) e d = refl
parks_class (putting c v) e d = refl
parks_class (choosing ports priority None) e d = refl
parks_class (choosing ports priority (Some v)) e d = absurd (let j : Some v ≡ None = d in cc)
parks_class (posting c v) e d = absurd (let j : false ≡ true = e in cc)
parks_class (making what) e d = absurd (let j : false ≡ true = e in cc)
parks_class (spawning seed) e d = absurd (let j : false ≡ true = e in cc)
parks_class (closing c) e d = absurd (let j : false ≡ true = e in cc)
parks_class (registering name args) e d = absurd (let j : false ≡ true = e in cc)
parks_class (printing line) e d = absurd (let j : false ≡ true = e in cc)

default_class : (op : OpView) (v : Tree) → default_of op ≡ Some v → plain_class op ≡ takes_default
default_class (choosing ports priority (Some u)) v e = refl
default_class (choosing ports priority None) v e = absurd (let j : None ≡ Some v = e in cc)
default_class (taking c) v e = absurd (let j : None ≡ Some v = e in cc)
default_class (putting c u) v e = absurd (let j : None ≡ Some v = e in cc)
default_class (posting c u) v e = absurd (let j : None ≡ Some v = e in cc)
default_class (making what) v e = absurd (let j : None ≡ Some v = e in cc)
default_class (spawning seed) v e = absurd (let j : None ≡ Some v = e in cc)
default_class (closing c) v e = absurd (let j : None ≡ Some v = e in cc)
default_class (registering name args) v e = absurd (let j : None ≡ Some v = e in cc)
default_class (printing line) v e = absurd (let j : None ≡ Some v = e in cc)

-- the fault at which a body stands
fault_class : (s : State) (a : At) (f : Fault × Place) → fault_at s a ≡ Some f → class_at s a ≡ faults
fault_class s (faulted f p) g e = refl
fault_class s (at_op w) g e = by (refusal s w.op) refl e where
  by : (o : Option Fault) → refusal s w.op ≡ o → option_map (λ f. (f, w.place)) o ≡ Some g → class_op s w.op o ≡ faults
  by (Some f) is e = refl
  by None is e = absurd (let j : None ≡ Some g = e in cc)
fault_class s local g e = absurd (let j : None ≡ Some g = e in cc)
fault_class s (ended v) g e = absurd (let j : None ≡ Some g = e in cc)
fault_class s nowhere g e = absurd (let j : None ≡ Some g = e in cc)

abbrev own : (u t : ℕ) → eqb u t ≡ true → u ≡ t
own u t e = eqb-true u t e

-- the task of an event, and its class
record Actor (s : State) (t : ℕ) (e : EventView) : Type 0 where
  task : Task
  there : s.tasks t ≡ Some task
  kind : class e ≡ class_at s (body_at task.body)

at_task : (s : State) (u t : ℕ) (e : EventView) (x : Task) → eqb u t ≡ true → s.tasks u ≡ Some x → class e ≡ class_at s (body_at x.body) → Actor s t e
at_task s u t e x ut at k = record { task = x; there = ap s.tasks (sym (eqb-true u t ut)) ∙ at; kind = k }

actor : (program : ProgramView) (s s2 : State) (t : ℕ) (e : EventView) → Step program s e s2 → is_of t e ≡ true → Actor s t e
actor program s s2 t (made u p what moment) x o = at_task s u t _ x.0 o x.2.0 (sym (stands_class s u (making what) x.0 false x.2 refl))
actor program s s2 t (spawned u n kind result) x o = at_task s u t _ x.0 o x.4.0 (sym (stands_class s u (spawning x.1) x.0 false x.4 refl))
actor program s s2 t (done u k b a) x o = at_task s u t _ x.0 o x.4.0 (sym (stands_class s u x.1 x.0 true x.4 (ready_any s (branches_of x.1) k b x.5.0 (ap is_ready x.6))))
actor program s s2 t (met u k side p v w h) x o = at_task s u t _ x.0 o x.6.0 (sym (stands_class s u x.1 x.0 true x.6 (ready_any s (branches_of x.1) k x.2 x.7.0 (ap is_ready x.10))))
actor program s s2 t (parked u w bs) x o = at_task s u t _ x.0 o x.2.0 (sym (stands_class s u x.1 x.0 false x.2 (ap (any_ready s) x.4 ∙ x.6) ∙ parks_class x.1 x.3 x.5))
actor program s s2 t (posted u w p v) x o = at_task s u t _ x.0 o x.2.0 (sym (stands_class s u (posting (port p) v) x.0 false x.2 x.3))
actor program s s2 t (defaulted u v) x o = at_task s u t _ x.0 o x.3.0 (sym (stands_class s u x.1 x.0 false x.3 x.5 ∙ default_class x.1 v x.4))
actor program s s2 t (closed u p) x o = at_task s u t _ x.0 o x.2.0 (sym (stands_class s u (closing (port p)) x.0 false x.2 refl))
actor program s s2 t (registered u name args v) x o = at_task s u t _ x.0 o x.3.0 (sym (stands_class s u (registering name args) x.0 false x.3 refl))
actor program s s2 t (printed u line) x o = at_task s u t _ x.0 o x.2.0 (sym (stands_class s u (printing line) x.0 false x.2 refl))
actor program s s2 t (is_over u Ended) x o = at_task s u t _ x.0 o x.2.0 (sym (ap (class_at s) x.3))
actor program s s2 t (is_over u (Faulted fault place result)) x o = at_task s u t _ x.0 o x.1.0 (sym (fault_class s (body_at x.0.body) (fault, place) x.2))
actor program s s2 t (settled w k side p v) x o = absurd (let j : false ≡ true = o in cc)
actor program s s2 t (ticked m ports) x o = absurd (let j : false ≡ true = o in cc)

pub same_class : (program : ProgramView) (s f g : State) (t : ℕ) (a b : EventView) → Step program s a f → Step program s b g → is_of t a ≡ true → is_of t b ≡ true → class a ≡ class b
same_class program s f g t a b x y o p =
    let m = actor program s f t a x o in
    let n = actor program s g t b y p in
    m.kind ∙ ap (λ (z : Task). class_at s (body_at z.body)) (same_task s.tasks t m.task n.task m.there n.there) ∙ sym n.kind

-- the branch that is chosen
get_below : (bs : List BranchView) (k : ℕ) (b : BranchView) → slice_get bs k ≡ Some b → k < length bs
get_below [] k b e = absurd (let j : None ≡ Some b = e in cc)
get_below (o ∷ bs) zero b e = omega arith
get_below (o ∷ bs) (suc k) b e = let l = get_below bs k b e in omega (arith, l)

apart_by : (j k n start : ℕ) → j < n → k < n → start ≤ n → distance n start j ≡ distance n start k → j ≡ k
apart_by j k n start jn kn sn e = by (nat_lt j start) (nat_lt k start) refl refl e where
  by : (a b : Bool) → nat_lt j start ≡ a → nat_lt k start ≡ b → cond a (j + (n - start)) (j - start) ≡ cond b (k + (n - start)) (k - start) → j ≡ k
  by true true x y e = omega (arith, e)
  by false false x y e = let p : start ≤ j = ltb-false j start x in let q : start ≤ k = ltb-false k start y in omega (arith, e, p, q)
  by true false x y e = let p : j < start = ltb-true j start x in let q : start ≤ k = ltb-false k start y in absurd (omega (arith, e, p, q, kn, sn))
  by false true x y e = let p : start ≤ j = ltb-false j start x in let q : k < start = ltb-true k start y in absurd (omega (arith, e, p, q, jn, sn))

start_within : (turns n k : ℕ) → k < n → turns % n ≤ n
start_within turns n k lt = let m = mod_below turns n (let p : 0 < n = omega (arith, lt) in p) in omega (arith, m)

pub one_of : (j k : ℕ) → (j < k → ⊥) → (k < j → ⊥) → j ≡ k
one_of j k a b = dite (ℕ_discrete j k) (λ e. e) (λ ne. dite (dec_le j k) (λ le. absurd (a (omega (arith, le, ne)))) (λ gt. absurd (b (lt_of_not-le gt))))

not_unready : (s : State) (b : BranchView) → is_ready (row s b) ≡ true → row s b ≡ not_ready → ⊥
not_unready s b r n = let j : false ≡ true = sym (ap is_ready n) ∙ r in cc

chosen_once : (s : State) (op : OpView) (turns j k : ℕ) (b c : BranchView) → Picks s op j b → Picks s op k c → is_ready (row s b) ≡ true → is_ready (row s c) ≡ true
    → (has_priority op ≡ false → IsFirstFrom s (branches_of op) turns j) → (has_priority op ≡ false → IsFirstFrom s (branches_of op) turns k) → j ≡ k
chosen_once s op turns j k b c p q rb rc fj fk = by (has_priority op) refl where
  n : ℕ
  n = length (branches_of op)

  free : has_priority op ≡ false → j ≡ k
  free e =
      let jn = get_below (branches_of op) j b p.0 in
      let kn = get_below (branches_of op) k c q.0 in
      apart_by j k n (turns % n) jn kn (start_within turns n j jn)
      (one_of (distance n (turns % n) j) (distance n (turns % n) k) (λ lt. not_unready s b rb (fk e j b p.0 lt)) (λ lt. not_unready s c rc (fj e k c q.0 lt)))

  by : (t : Bool) → has_priority op ≡ t → j ≡ k
  by true e = one_of j k (λ lt. not_unready s b rb (q.1 e j b lt p.0)) (λ lt. not_unready s c rc (p.1 e k c lt q.0))
  by false e = free e

same_branch : (bs : List BranchView) (j k : ℕ) (b c : BranchView) → j ≡ k → slice_get bs j ≡ Some b → slice_get bs k ≡ Some c → b ≡ c
same_branch bs j k b c e p q = let i : Some b ≡ Some c = sym p ∙ ap (slice_get bs) e ∙ q in cc

-- numbers, values and the parts of operations that are equal
same_value : (v w : Tree) → Some v ≡ Some w → v ≡ w
same_value v w e = cc

same_making : (v w : WhatView) → making v ≡ making w → v ≡ w
same_making v w e = cc

same_closing : (p q : ℕ) → closing (port p) ≡ closing (port q) → p ≡ q
same_closing p q e = let k : port p ≡ port q = cc in let j : p ≡ q = cc in j

same_printing : (v w : List ℕ) → printing v ≡ printing w → v ≡ w
same_printing v w e = cc

moment_once : (now : ℕ) (what : WhatView) (m n : Option ℕ) (d f g : Desk) → IsMoment now what m → IsMoment now what n → ReadsMoment m d f → ReadsMoment n d g → m ≡ n
moment_once now (timeout k) (Some a) (Some b) d f g i j r q = ap (λ n. Some n) (let e : a ∷ r.0 ≡ b ∷ q.0 = sym r.1 ∙ q.1 in let h : a ≡ b = cc in h)
moment_once now (timeout k) None n d f g i j r q = absurd i
moment_once now (timeout k) (Some a) None d f g i j r q = absurd j
moment_once now unbuffered m n d f g i j r q = i ∙ sym j
moment_once now (fixed k) m n d f g i j r q = i ∙ sym j
moment_once now (dropping k) m n d f g i j r q = i ∙ sym j
moment_once now (sliding k) m n d f g i j r q = i ∙ sym j
moment_once now promise m n d f g i j r q = i ∙ sym j
moment_once now (mult s) m n d f g i j r q = i ∙ sym j
moment_once now (mix o c) m n d f g i j r q = i ∙ sym j
moment_once now (publication s) m n d f g i j r q = i ∙ sym j

-- two numbers of a task are one
both : (a b t : ℕ) → eqb a t ≡ true → eqb b t ≡ true → a ≡ b
both a b t e h = eqb-true a t e ∙ sym (eqb-true b t h)

-- the operations of two events of one task
op_once : (s : State) (a b : ℕ) (x y : Task) (o p : OpView) → a ≡ b → s.tasks a ≡ Some x → s.tasks b ≡ Some y → IsAtOp x.body o → IsAtOp y.body p → o ≡ p
op_once s a b x y o p e ax by' xo yp = same_op x.body y.body o p (ap (λ (z : Task). z.body) (same_task s.tasks a x y ax (ap s.tasks e ∙ by'))) xo yp

-- the chosen branch at two events of one task
pick_once : (s : State) (d : Desk) (a b j k : ℕ) (x y : Task) (o p : OpView) (c e : BranchView) → a ≡ b → RunsAtOperation s a o x → RunsAtOperation s b p y → Picks s o j c → Picks s p k e → is_ready (row s c) ≡ true → is_ready (row s e) ≡ true
    → Chooses s d a j → Chooses s d b k → (j ≡ k) × (c ≡ e)
pick_once s d a b j k x y o p c e ab sx sy px py rc re cj ck =
    let op : o ≡ p = op_once s a b x y o p ab sx.0 sy.0 sx.2 sy.2 in
    let px' : Picks s p j c = subst (λ z. Picks s z j c) op px in
    let oj : cj.1 ≡ p = op_once s a b cj.0 y cj.1 p ab cj.2 sy.0 cj.3 sy.2 in
    let ok : ck.1 ≡ p = op_once s b b ck.0 y ck.1 p refl ck.2 sy.0 ck.3 sy.2 in
    let fj : has_priority p ≡ false → IsFirstFrom s (branches_of p) (d.alts a) j = subst (λ z. has_priority z ≡ false → IsFirstFrom s (branches_of z) (d.alts a) j) oj cj.4 in
    let fk : has_priority p ≡ false → IsFirstFrom s (branches_of p) (d.alts a) k = subst (λ n. has_priority p ≡ false → IsFirstFrom s (branches_of p) (d.alts n) k) (sym ab) (subst (λ z. has_priority z ≡ false → IsFirstFrom s (branches_of z) (d.alts b) k) ok ck.4) in
    let jk = chosen_once s p (d.alts a) j k c e px' py rc re fj fk in
    (jk, same_branch (branches_of p) j k c e jk px'.0 py.0)

same_result : (r q : Option PortId) → option_map port_number r ≡ option_map port_number q → r ≡ q
same_result None None e = refl
same_result None (Some q) e = absurd (let k : None ≡ Some q.n = e in cc)
same_result (Some r) None e = absurd (let k : Some r.n ≡ None = e in cc)
same_result (Some r) (Some q) e = let k : r.n ≡ q.n = cc in ap (λ (n : ℕ). Some (at n)) k where
  at : ℕ → PortId
  at n = record { n = n }

-- what differs in kind isn't of one class
abbrev pub Same : ProgramView → State → ℕ → Desk → EventView → EventView → Type 0
Same program s t d a b =
    class a ≡ class b → (f g : State) (i j : Desk) → Step program s a f → Step program s b g → is_of t a ≡ true → is_of t b ≡ true → Leaves s d a i → Leaves s d b j → a ≡ b

same_made : (program : ProgramView) (s : State) (t : ℕ) (d : Desk) (a p b q : ℕ) (v w : WhatView) (m n : Option ℕ) → Same program s t d (made a p v m) (made b q w n)
same_made program s t d a p b q v w m n c f g i j x y o h k l =
    let ab = both a b t o h in
    let pq : p ≡ q = k.1 ∙ sym l.1 in
    let vw = same_making v w (op_once s a b x.0 y.0 (making v) (making w) ab x.2.0 y.2.0 x.2.2 y.2.2) in
    let mn = moment_once s.now w m n d k.0 l.0 (subst (λ z. IsMoment s.now z m) vw x.5) y.5 k.2 l.2 in
    λ r. made (ab r) (pq r) (vw r) (mn r)

same_spawned : (program : ProgramView) (s : State) (t : ℕ) (d : Desk) (a u b w : ℕ) (c e : TaskKind) (m n : Option ℕ) → Same program s t d (spawned a u c m) (spawned b w e n)
same_spawned program s t d a u b w c e m n cl f g i j x y o h k l =
    let ab = both a b t o h in
    let uw : u ≡ w = k.0 ∙ sym l.0 in
    let seed = same_seed x.1 y.1 (op_once s a b x.0 y.0 (spawning x.1) (spawning y.1) ab x.4.0 y.4.0 x.4.2 y.4.2) in
    let ce : c ≡ e = sym x.6 ∙ ap kind_of seed ∙ y.6 in
    let mn : m ≡ n = sym x.7 ∙ ap result_of seed ∙ y.7 in
    λ r. spawned (ab r) (uw r) (ce r) (mn r)

same_done : (program : ProgramView) (s : State) (t : ℕ) (d : Desk) (a k b l : ℕ) (c e : BranchView) (v w : Tree) → Same program s t d (done a k c v) (done b l e w)
same_done program s t d a k b l c e v w cl f g i j x y o h m n =
    let ab = both a b t o h in
    let p = pick_once s d a b k l x.0 y.0 x.1 y.1 c e ab x.4 y.4 x.5 y.5 (ap is_ready x.6) (ap is_ready y.6) m.1 n.1 in
    let vw : v ≡ w = (let q : completes v x.3 ≡ completes w y.3 = sym x.6 ∙ ap (row s) p.1 ∙ y.6 in cc) in
    λ r. done (ab r) (p.0 r) (p.1 r) (vw r)

done_not_met : {G : Type 0} (program : ProgramView) (s : State) (t : ℕ) (d : Desk) (a k b l : ℕ) (c : BranchView) (v w : Tree) (side : Side) (p n z : ℕ) (f g : State) (i j : Desk) → Step program s (done a k c v) f → Step program s (met b l side p w n z) g → is_of t (done a k c v) ≡ true → is_of t (met b l side p w n z) ≡ true → Leaves s d (done a k c v) i → Leaves s d (met b l side p w n z) j → G
done_not_met program s t d a k b l c v w side p n z f g i j x y o h m q =
    let ab = both a b t o h in
    let r = pick_once s d a b k l x.0 y.0 x.1 y.1 c y.2 ab x.4 y.6 x.5 y.7 (ap is_ready x.6) (ap is_ready y.10) m.1 q.1 in
    absurd (let u : completes v x.3 ≡ meets y.3 w = sym x.6 ∙ ap (row s) r.1 ∙ y.10 in cc)

same_meeting : (h i : Handler) (v w : Tree) → meets h v ≡ meets i w → (h ≡ i) × (v ≡ w)
same_meeting h i v w e = (let k : h ≡ i = cc in k, let k : v ≡ w = cc in k)

same_met : (program : ProgramView) (s : State) (t : ℕ) (d : Desk) (a k b l : ℕ) (c e : Side) (p q : ℕ) (v w : Tree) (m n u z : ℕ) → Same program s t d (met a k c p v m u) (met b l e q w n z)
same_met program s t d a k b l c e p q v w m n u z cl f g i j x y o h x2 y2 =
    let ab = both a b t o h in
    let r = pick_once s d a b k l x.0 y.0 x.1 y.1 x.2 y.2 ab x.6 y.6 x.7 y.7 (ap is_ready x.10) (ap is_ready y.10) x2.1 y2.1 in
    let hv = same_meeting x.3 y.3 v w (sym x.10 ∙ ap (row s) r.1 ∙ y.10) in
    let ce : c ≡ e = sym x.8 ∙ ap side_of r.1 ∙ y.8 in
    let pq : p ≡ q = sym x.9 ∙ ap port_of r.1 ∙ y.9 in
    let mn : m ≡ n = sym x.11 ∙ ap (λ (h : Handler). h.wait) hv.0 ∙ y.11 in
    let uz : u ≡ z = sym x.12 ∙ ap (λ (h : Handler). h.branch) hv.0 ∙ y.12 in
    λ r2. met (ab r2) (r.0 r2) (ce r2) (pq r2) (hv.1 r2) (mn r2) (uz r2)

same_parked : (program : ProgramView) (s : State) (t : ℕ) (d : Desk) (a m b n : ℕ) (bs cs : List BranchView) → Same program s t d (parked a m bs) (parked b n cs)
same_parked program s t d a m b n bs cs cl f g i j x y o h k l =
    let ab = both a b t o h in
    let op = op_once s a b x.0 y.0 x.1 y.1 ab x.2.0 y.2.0 x.2.2 y.2.2 in
    let mn : m ≡ n = k.1 ∙ sym l.1 in
    let bc : bs ≡ cs = sym x.4 ∙ ap branches_of op ∙ y.4 in
    λ r. parked (ab r) (mn r) (bc r)

same_posting : (p q : ℕ) (v w : Tree) → posting (port p) v ≡ posting (port q) w → (p ≡ q) × (v ≡ w)
same_posting p q v w e = (let k : port p ≡ port q = cc in let j : p ≡ q = cc in j, let k : v ≡ w = cc in k)

same_posted : (program : ProgramView) (s : State) (t : ℕ) (d : Desk) (a m b n p q : ℕ) (v w : Tree) → Same program s t d (posted a m p v) (posted b n q w)
same_posted program s t d a m b n p q v w cl f g i j x y o h k l =
    let ab = both a b t o h in
    let r = same_posting p q v w (op_once s a b x.0 y.0 (posting (port p) v) (posting (port q) w) ab x.2.0 y.2.0 x.2.2 y.2.2) in
    let mn : m ≡ n = k.0 ∙ sym l.0 in
    λ z. posted (ab z) (mn z) (r.0 z) (r.1 z)

same_defaulted : (program : ProgramView) (s : State) (t : ℕ) (d : Desk) (a b : ℕ) (v w : Tree) → Same program s t d (defaulted a v) (defaulted b w)
same_defaulted program s t d a b v w cl f g i j x y o h k l =
    let ab = both a b t o h in
    let op = op_once s a b x.0 y.0 x.1 y.1 ab x.3.0 y.3.0 x.3.2 y.3.2 in
    ap₂ defaulted ab (same_value v w (sym x.4 ∙ ap default_of op ∙ y.4))

same_closed : (program : ProgramView) (s : State) (t : ℕ) (d : Desk) (a b p q : ℕ) → Same program s t d (closed a p) (closed b q)
same_closed program s t d a b p q cl f g i j x y o h k l =
    let ab = both a b t o h in
    ap₂ closed ab (same_closing p q (op_once s a b x.0 y.0 (closing (port p)) (closing (port q)) ab x.2.0 y.2.0 x.2.2 y.2.2))

same_registering : (m n : RegisterName) (v w : Trees) → registering m v ≡ registering n w → (m ≡ n) × (v ≡ w)
same_registering m n v w e = (let k : m ≡ n = cc in k, let k : v ≡ w = cc in k)

same_registered : (program : ProgramView) (s : State) (t : ℕ) (d : Desk) (a b : ℕ) (m n : RegisterName) (us bs : Trees) (v w : Tree) → Same program s t d (registered a m us v) (registered b n bs w)
same_registered program s t d a b m n us bs v w cl f g i j x y o h k l =
    let ab = both a b t o h in
    let r = same_registering m n us bs (op_once s a b x.0 y.0 (registering m us) (registering n bs) ab x.3.0 y.3.0 x.3.2 y.3.2) in
    let vw : v ≡ w = (let q : answers v x.1 ≡ answers w y.1 = sym x.4 ∙ ap₂ (registering_gives s) r.0 r.1 ∙ y.4 in cc) in
    λ z. registered (ab z) (r.0 z) (r.1 z) (vw z)

same_printed : (program : ProgramView) (s : State) (t : ℕ) (d : Desk) (a b : ℕ) (v w : List ℕ) → Same program s t d (printed a v) (printed b w)
same_printed program s t d a b v w cl f g i j x y o h k l =
    let ab = both a b t o h in
    ap₂ printed ab (same_printing v w (op_once s a b x.0 y.0 (printing v) (printing w) ab x.2.0 y.2.0 x.2.2 y.2.2))

same_ended : (program : ProgramView) (s : State) (t : ℕ) (d : Desk) (a b : ℕ) → Same program s t d (is_over a Ended) (is_over b Ended)
same_ended program s t d a b cl f g i j x y o h k l = ap (λ n. is_over n Ended) (both a b t o h)

same_faulted : (program : ProgramView) (s : State) (t : ℕ) (d : Desk) (a b : ℕ) (u v : Fault) (p q : Place) (m n : Option PortId) → Same program s t d (is_over a (Faulted u p m)) (is_over b (Faulted v q n))
same_faulted program s t d a b u v p q m n cl f g i j x y o h k l =
    let ab = both a b t o h in
    let xy = same_task s.tasks a x.0 y.0 x.1.0 (ap s.tasks ab ∙ y.1.0) in
    let fp : ◌≡◌ {A = Option (Fault × Place)} (Some (u, p)) (Some (v, q)) = sym x.2 ∙ ap (λ (z : Task). fault_at s (body_at z.body)) xy ∙ y.2 in
    let parts : ◌≡◌ {A = Fault × Place} (u, p) (v, q) = cc in
    let uv : u ≡ v = ap (λ (z : Fault × Place). z.0) parts in
    let pq : p ≡ q = ap (λ (z : Fault × Place). z.1) parts in
    let mn = same_result m n (sym x.3 ∙ ap (λ (z : Task). z.result) xy ∙ y.3) in
    λ r. is_over (ab r) (Faulted (uv r) (pq r) (mn r))

abbrev diagonal : Class → Class → Bool
diagonal makes makes = true
diagonal spawns spawns = true
diagonal takes_branch takes_branch = true
diagonal takes_default takes_default = true
diagonal waits waits = true
diagonal posts posts = true
diagonal closes closes = true
diagonal registers registers = true
diagonal prints prints = true
diagonal ends ends = true
diagonal faults faults = true
diagonal settles_it settles_it = true
diagonal ticks_it ticks_it = true
diagonal c d = false

with_itself : (c : Class) → diagonal c c ≡ true
with_itself makes = refl
with_itself spawns = refl
with_itself takes_branch = refl
with_itself takes_default = refl
with_itself waits = refl
with_itself posts = refl
with_itself closes = refl
with_itself registers = refl
with_itself prints = refl
with_itself ends = refl
with_itself faults = refl
with_itself settles_it = refl
with_itself ticks_it = refl

is_diagonal : (c d : Class) → c ≡ d → diagonal c d ≡ true
is_diagonal c d e = subst (λ z. diagonal c z ≡ true) e (with_itself c)

no_false : false ≡ true → ⊥
no_false e = cc

pub same_event : (program : ProgramView) (s : State) (t : ℕ) (d : Desk) (a b : EventView) → Same program s t d a b
same_event program s t d (made a p v m) (made b q w n) = same_made program s t d a p b q v w m n
same_event program s t d (spawned a u c m) (spawned b w e n) = same_spawned program s t d a u b w c e m n
same_event program s t d (done a k c v) (done b l e w) = same_done program s t d a k b l c e v w
same_event program s t d (done a k c v) (met b l e q w n z) = λ cl f g i j x y o h m u. done_not_met program s t d a k b l c v w e q n z f g i j x y o h m u
same_event program s t d (met b l e q w n z) (done a k c v) = λ cl f g i j x y o h m u. done_not_met program s t d a k b l c v w e q n z g f j i y x h o u m
same_event program s t d (met a k c p v m u) (met b l e q w n z) = same_met program s t d a k b l c e p q v w m n u z
same_event program s t d (parked a m bs) (parked b n cs) = same_parked program s t d a m b n bs cs
same_event program s t d (posted a m p v) (posted b n q w) = same_posted program s t d a m b n p q v w
same_event program s t d (defaulted a v) (defaulted b w) = same_defaulted program s t d a b v w
same_event program s t d (closed a p) (closed b q) = same_closed program s t d a b p q
same_event program s t d (registered a m us v) (registered b n bs w) = same_registered program s t d a b m n us bs v w
same_event program s t d (printed a v) (printed b w) = same_printed program s t d a b v w
same_event program s t d (is_over a Ended) (is_over b Ended) = same_ended program s t d a b
same_event program s t d (is_over a (Faulted u p m)) (is_over b (Faulted v q n)) = same_faulted program s t d a b u v p q m n
same_event program s t d (settled w k side p v) b = λ cl f g i j x y o h m u. absurd m
same_event program s t d (ticked n ports) b = λ cl f g i j x y o h m u. absurd m
same_event program s t d (is_over a Ended) b = λ cl f g i j x y o h m u. absurd (no_false (is_diagonal (class (is_over a Ended)) (class b) cl))
same_event program s t d (is_over a (Faulted v p r)) b = λ cl f g i j x y o h m u. absurd (no_false (is_diagonal (class (is_over a (Faulted v p r))) (class b) cl))
same_event program s t d a (is_over b Ended) = λ cl f g i j x y o h m u. absurd (no_false (is_diagonal (class a) (class (is_over b Ended)) cl))
same_event program s t d a (is_over b (Faulted v p r)) = λ cl f g i j x y o h m u. absurd (no_false (is_diagonal (class a) (class (is_over b (Faulted v p r))) cl))
same_event program s t d a b = λ cl f g i j x y o h m u. absurd (no_false (is_diagonal (class a) (class b) cl))
