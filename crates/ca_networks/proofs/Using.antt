-- Who puts into a hidden channel, and who takes from it.
use Rattle.std.proofs.Common.{◌≡◌, ℕ, List, [], ◌∷◌, refl, sym, ap, ◌∙◌, subst, Bool, true, false, cond, Option, Some, None, eqb, eqb-true, eq-eqb, slice_get}
use Rattle.ca_value.specs.Tree.{Tree, bool}
use Rattle.ca_term.specs.declared.event.Side.{Side}
use Rattle.ca_term.specs.declared.event.Side.TheVariants.{Take, Put}
use Rattle.ca_term.specs.Operation.{OpView, taking, putting, choosing, making, spawning, closing, registering, printing, posting}
use Rattle.ca_term.specs.Program.{ProgramView}
use Rattle.ca_term.specs.Event.{BranchView, take_of, put_of, EventView, made, spawned, done, met, parked, posted, settled, defaulted, closed, registered, printed, ticked, over as is_over}
use Rattle.ca_meaning.specs.Operands.{port_of_value, is_nil, truth}
use Rattle.ca_meaning.specs.Channel.{Channel}
use Rattle.ca_meaning.specs.Wait.{Handler, side_of, port_of, front, queue, owner_of}
use Rattle.ca_meaning.specs.Row.{meets, row_on}
use Rattle.ca_meaning.specs.Task.{TaskBody}
use Rattle.ca_meaning.specs.State.{State, Task, running, waiting}
use Rattle.ca_meaning.specs.Choice.{branches_of}
use Rattle.ca_meaning.specs.Going.{RunsAtOperation}
use Rattle.ca_meaning.specs.ChannelSteps.{other_side}
use Rattle.ca_meaning.specs.Steps.{Step}
use Rattle.ca_meaning.specs.History.{Mark, accept, give, give_none, pass, no_mark, mark_of_take, mark_of_put, mark_of_done, mark_of_settled, branch_on}
use Rattle.ca_meaning.proofs.Waits.{each-head}
use Rattle.ca_meaning.proofs.Rows.{take_meets, put_meets, Settled, moved_in, served, served_nil, settle_does, row_channel}
use Rattle.ca_laws.specs.Deeds.{Deed, did_take, did_put, is_wait, deed_on, deed}
use Rattle.ca_laws.proofs.Acts.{wait_of}
use Rattle.ca_laws.proofs.Stood.{Stood}
use Rattle.ca_laws.proofs.Deeding.{Traced}
use Rattle.ca_laws.proofs.Orders.{one_branch, no_branch}
use Rattle.ca_roles.proofs.Unused.{not_true}
use Rattle.ca_roles.specs.Roles.{Hidden, public, hidden, Roles, CarriesAs, ChannelCarries}
use Rattle.ca_roles.specs.Users.{Uses, MayUse}
use Rattle.ca_roles.specs.Typed.{IsPublicBranch, IsTypedPost, MayAsk}
use Rattle.ca_networks.proofs.Guarded.{Guard}
use Rattle.ca_networks.proofs.Passing.{entering, leaving, enters, leaves}
use Rattle.ca_meaning.proofs.Refusals.{each-get}

pub no_cons : {A G : Type 0} (x : A) (xs : List A) → [] ≡ x ∷ xs → G
no_cons x xs e = absurd cc

module _ (program : ProgramView) (roles : Roles) where
  -- the task may use the branch's channel so, and the channel carries what is put
  abbrev Suits : TaskBody → BranchView → Type 0
  Suits b (take_of p) = MayUse (roles p) Take p b
  Suits b (put_of p v) = MayUse (roles p) Put p b × ChannelCarries program roles p v

  public_suits : (b : TaskBody) (c : BranchView) → IsPublicBranch roles c → Suits b c
  public_suits b (take_of p) k = subst (λ r. MayUse r Take p b) (sym k) tt
  public_suits b (put_of p v) k = (subst (λ r. MayUse r Put p b) (sym k.0) tt, subst (λ r. CarriesAs program roles r v) (sym k.0) k.1)

  suits : (b : TaskBody) (op : OpView) (k : ℕ) (c : BranchView) → MayAsk program roles b op → slice_get (branches_of op) k ≡ Some c → Suits b c
  suits b (taking x) k c m e = subst (Suits b) (sym (one_branch (take_of (port_of_value x)) k c e ∙ ap (λ z. take_of (port_of_value z)) m.1)) m.2
  suits b (putting x v) k c m e = subst (Suits b) (sym (one_branch (put_of (port_of_value x) v) k c e ∙ ap (λ z. put_of (port_of_value z) v) m.1)) (m.2, m.3)
  suits b (posting x v) k c m e = subst (Suits b) (sym (one_branch (put_of (port_of_value x) v) k c e ∙ ap (λ z. put_of (port_of_value z) v) m.1)) (public_suits b (put_of m.0 v) (m.2, m.3))
  suits b (choosing ports priority default) k c m e = public_suits b c (each-get (IsPublicBranch roles) (branches_of (choosing ports priority default)) k c m.0 e)
  suits b (making what) k c m e = no_branch c e
  suits b (spawning seed) k c m e = no_branch c e
  suits b (closing x) k c m e = no_branch c e
  suits b (registering name args) k c m e = no_branch c e
  suits b (printing line) k c m e = no_branch c e

entered_at : (b : Bool) (m : Mark) (v : Tree) (vs : List Tree) → entering (cond b m no_mark) ≡ v ∷ vs → (b ≡ true) × (entering m ≡ v ∷ vs)
entered_at true m v vs e = (refl, e)
entered_at false m v vs e = no_cons v vs e

left_at : (b : Bool) (m : Mark) (v : Tree) (vs : List Tree) → leaving (cond b m no_mark) ≡ v ∷ vs → (b ≡ true) × (leaving m ≡ v ∷ vs)
left_at true m v vs e = (refl, e)
left_at false m v vs e = no_cons v vs e

one_value : (u v : Tree) (vs : List Tree) → u ∷ [] ≡ v ∷ vs → u ≡ v
one_value u v vs e = cc

take_enters : {G : Type 0} (a v : Tree) (vs : List Tree) → entering (mark_of_take a) ≡ v ∷ vs → G
take_enters a v vs e = by (is_nil a) e where
  by : {G : Type 0} (b : Bool) → entering (cond b give_none (give a)) ≡ v ∷ vs → G
  by true e = no_cons v vs e
  by false e = no_cons v vs e

put_leaves : {G : Type 0} (a u v : Tree) (vs : List Tree) → leaving (mark_of_put u a) ≡ v ∷ vs → G
put_leaves a u v vs e = by (truth a) e where
  by : {G : Type 0} (b : Bool) → leaving (cond b (accept u) no_mark) ≡ v ∷ vs → G
  by true e = no_cons v vs e
  by false e = no_cons v vs e

put_value_of : (u a v : Tree) (vs : List Tree) → entering (mark_of_put u a) ≡ v ∷ vs → u ≡ v
put_value_of u a v vs e = by (truth a) e where
  by : (b : Bool) → entering (cond b (accept u) no_mark) ≡ v ∷ vs → u ≡ v
  by true e = one_value u v vs e
  by false e = no_cons v vs e

taken_value : (a v : Tree) (vs : List Tree) → leaving (mark_of_take a) ≡ v ∷ vs → a ≡ v
taken_value a v vs e = by (is_nil a) e where
  by : (b : Bool) → leaving (cond b give_none (give a)) ≡ v ∷ vs → a ≡ v
  by true e = no_cons v vs e
  by false e = one_value a v vs e

module _ (program : ProgramView) (roles : Roles) (journal : List EventView) (s s2 : State) (traced : Traced journal s) (g : Guard program roles s) (q m : ℕ) (hid : Hidden) (role : roles q ≡ Some (hidden m hid)) where
  -- a task that uses it at the event
  abbrev pub PutBy : EventView → Tree → Type 0
  PutBy e v = (u : ℕ) × (x : Task) × (j : ℕ) × (a : Tree) × (s.tasks u ≡ Some x) × (deed u (wait_of x.mode) e ≡ Some (did_put j q v a)) × Uses Put q hid x.body × ChannelCarries program roles q v

  abbrev pub TakenBy : EventView → Tree → Type 0
  TakenBy e v = (u : ℕ) × (x : Task) × (j : ℕ) × (s.tasks u ≡ Some x) × (deed u (wait_of x.mode) e ≡ Some (did_take j q v)) × Uses Take q hid x.body

  use_of : (side : Side) (b : TaskBody) → MayUse (roles q) side q b → Uses side q hid b
  use_of side b k = subst (λ r. MayUse r side q b) role k

  -- the owner of the wait at the front of its queue
  abbrev Owned : Side → Handler → Type 0
  Owned side h = (u : ℕ) × (x : Task) × (op : OpView) × (owner_of h.wait s.waits ≡ Some u) × (s.tasks u ≡ Some x) × (x.mode ≡ waiting h.wait) × MayAsk program roles x.body op × (slice_get (branches_of op) h.branch ≡ Some (branch_on side q h.value))

  owner_at : (side : Side) (h : Handler) → front side q s.waits ≡ Some h → Owned side h
  owner_at side h fr = by (owner_of h.wait s.waits) refl where
    by : (o : Option ℕ) → owner_of h.wait s.waits ≡ o → Owned side h
    by None free = absurd (let k : roles q ≡ Some public = (each-head (IsTypedPost roles s q) (queue side q s.waits) h (g.typed.posts side q) fr free).0 in let j : Some public ≡ Some (hidden m hid) = sym k ∙ role in cc)
    by (Some u) own =
        let st = each-head (Stood s side q) (queue side q s.waits) h (traced.stood side q) fr u own in
        let o = traced.known.sound.owned h.wait u own in
        let same : o.0 ≡ st.0 = (let k : Some o.0 ≡ Some st.0 = sym o.1 ∙ st.2 in cc) in
        let mode : st.0.mode ≡ waiting h.wait = ap (λ (z : Task). z.mode) (sym same) ∙ o.2 in
        (u, st.0, st.1, own, st.2, mode, (g.typed.tasks u st.0 st.2).waits h.wait st.1 mode st.3, st.4)

  -- the deed of the wait's owner
  woken_deed : (t k j w u : ℕ) (side : Side) (v : Tree) (z x : Task) → s.tasks t ≡ Some z → z.mode ≡ running → s.tasks u ≡ Some x → x.mode ≡ waiting w → deed u (wait_of x.mode) (met t k side q v w j) ≡ Some (deed_on (other_side side) j q v)
  woken_deed t k j w u side v z x at r there mode =
      let away = not_true (eqb t u) (λ i. let f : running ≡ waiting w = sym r ∙ ap (λ (y : Task). y.mode) (let h : Some z ≡ Some x = sym at ∙ ap s.tasks (eqb-true t u i) ∙ there in let n : z ≡ x = cc in n) ∙ mode in cc) in
      ap (λ b. cond b (Some (deed_on side k q v)) (cond (is_wait w (wait_of x.mode)) (Some (deed_on (other_side side) j q v)) None)) away
      ∙ ap (λ i. cond (is_wait w (wait_of i)) (Some (deed_on (other_side side) j q v)) None) mode ∙ ap (λ b. cond b (Some (deed_on (other_side side) j q v)) None) (eq-eqb w w refl)

  settled_deed : (w k u : ℕ) (side : Side) (v : Tree) (x : Task) → x.mode ≡ waiting w → deed u (wait_of x.mode) (settled w k side q v) ≡ Some (deed_on side k q v)
  settled_deed w k u side v x mode = ap (λ i. cond (is_wait w (wait_of i)) (Some (deed_on side k q v)) None) mode ∙ ap (λ b. cond b (Some (deed_on side k q v)) None) (eq-eqb w w refl)

  own_put : (e : EventView) (u : ℕ) (op : OpView) (x : Task) (k p : ℕ) (w a v : Tree) → RunsAtOperation s u op x → slice_get (branches_of op) k ≡ Some (put_of p w) → p ≡ q → w ≡ v → deed u (wait_of x.mode) e ≡ Some (did_put k p w a) → PutBy e v
  own_put e u op x k p w a v st at pq wv d =
      let h : Suits program roles x.body (put_of q v) = subst (λ i. Suits program roles x.body (put_of q i)) wv (subst (λ i. Suits program roles x.body (put_of i w)) pq (suits program roles x.body op k (put_of p w) (g.asks u op x st) at)) in
      (u, x, k, a, st.0, d ∙ ap (λ i. Some (did_put k i w a)) pq ∙ ap (λ i. Some (did_put k q i a)) wv, use_of Put x.body h.0, h.1)

  own_take : (e : EventView) (u : ℕ) (op : OpView) (x : Task) (k p : ℕ) (a v : Tree) → RunsAtOperation s u op x → slice_get (branches_of op) k ≡ Some (take_of p) → p ≡ q → a ≡ v → deed u (wait_of x.mode) e ≡ Some (did_take k p a) → TakenBy e v
  own_take e u op x k p a v st at pq av d =
      let h : Suits program roles x.body (take_of q) = subst (λ i. Suits program roles x.body (take_of i)) pq (suits program roles x.body op k (take_of p) (g.asks u op x st) at) in
      (u, x, k, st.0, d ∙ ap (λ i. Some (did_take k i a)) pq ∙ ap (λ i. Some (did_take k q i)) av, use_of Take x.body h)

  mine : (u : ℕ) (c : Deed) → cond (eqb u u) (Some c) None ≡ Some c
  mine u c = ap (λ b. cond b (Some c) None) (eq-eqb u u refl)

  pub enters_by : (e : EventView) → Step program s e s2 → (v : Tree) (vs : List Tree) → enters q e ≡ v ∷ vs → PutBy e v
  enters_by (done u k b a) x v vs is = by b x.5.0 (entered_at (eqb (port_of b) q) (mark_of_done b a) v vs is) where
    by : (o : BranchView) → slice_get (branches_of x.1) k ≡ Some o → (eqb (port_of o) q ≡ true) × (entering (mark_of_done o a) ≡ v ∷ vs) → PutBy (done u k o a) v
    by (take_of p) at n = take_enters a v vs n.1
    by (put_of p w) at n = own_put (done u k (put_of p w) a) u x.1 x.0 k p w a v x.4 at (eqb-true p q n.0) (put_value_of w a v vs n.1) (mine u (did_put k p w a))
  enters_by (met u k side p w n o) x v vs is = subst (λ z. PutBy (met u k z p w n o) v) x.8 (by x.2 x.9 r.2 x.7.0) where
    here : (eqb p q ≡ true) × (w ∷ [] ≡ v ∷ vs)
    here = entered_at (eqb p q) (pass w) v vs is

    pq : p ≡ q
    pq = eqb-true p q here.0

    wv : w ≡ v
    wv = one_value w v vs here.1

    r : (c : Channel) × (s.channels (port_of x.2) ≡ Some c) × (row_on c (front Take (port_of x.2) s.waits) (front Put (port_of x.2) s.waits) x.2 ≡ meets x.3 w)
    r = row_channel (s.channels (port_of x.2)) (front Take (port_of x.2) s.waits) (front Put (port_of x.2) s.waits) x.2 (meets x.3 w) x.10 (λ k. cc)

    by : (b : BranchView) → port_of b ≡ p → row_on r.0 (front Take (port_of b) s.waits) (front Put (port_of b) s.waits) b ≡ meets x.3 w → slice_get (branches_of x.1) k ≡ Some b → PutBy (met u k (side_of b) p w n o) v
    by (put_of i a) ip row at =
        let aw : w ≡ a = (put_meets r.0 (front Take i s.waits) (front Put i s.waits) a x.3 w row).value in
        own_put (met u k Put p w n o) u x.1 x.0 k i a (bool true) v x.6 at (ip ∙ pq) (sym aw ∙ wv)
        (ap (λ b. cond b (Some (did_put k p w (bool true))) (cond (is_wait n (wait_of x.0.mode)) (Some (did_take o p w)) None)) (eq-eqb u u refl) ∙ ap (λ z. Some (did_put k z w (bool true))) (sym ip) ∙ ap (λ z. Some (did_put k i z (bool true))) aw)
    by (take_of i) ip row at =
        let tm = take_meets r.0 (front Put i s.waits) x.3 w row in
        let ow = owner_at Put x.3 (ap (λ z. front Put z s.waits) (sym (ip ∙ pq)) ∙ tm.in_front) in
        let h : Suits program roles ow.1.body (put_of q v) = subst (λ i. Suits program roles ow.1.body (put_of q i)) (sym tm.value ∙ wv) (suits program roles ow.1.body ow.2 x.3.branch (put_of q x.3.value) ow.6 ow.7) in (
          ow.0,
          ow.1,
          o,
          bool true,
          ow.4,
          ap (λ z. deed ow.0 (wait_of ow.1.mode) (met u k Take z w n o)) pq ∙ woken_deed u k o n ow.0 Take w x.0 ow.1 x.6.0 x.6.1 ow.4 (ow.5 ∙ ap waiting x.11) ∙ ap (λ z. Some (did_put o q z (bool true))) wv,
          use_of Put ow.1.body h.0,
          h.1,
        )
  enters_by (settled n k side p w) x v vs is = by side (settle_does x.0 (front Take p s.waits) (front Put p s.waits) side x.2 w x.1 x.5) (entered_at (eqb p q) (mark_of_settled side w) v vs is) where
    by : (z : Side) → Settled x.0 (front Take p s.waits) (front Put p s.waits) z x.2 w x.1 → (eqb p q ≡ true) × (entering (mark_of_settled z w) ≡ v ∷ vs) → PutBy (settled n k z p w) v
    by Take d i = take_enters w v vs i.1
    by Put (moved_in sd fr vn dk fx rm) i =
        let pq = eqb-true p q i.0 in
        let wv = one_value w v vs i.1 in
        let ow = owner_at Put x.2 (ap (λ z. front Put z s.waits) (sym pq) ∙ fr) in
        let h : Suits program roles ow.1.body (put_of q v) = subst (λ i. Suits program roles ow.1.body (put_of q i)) (sym vn ∙ wv) (suits program roles ow.1.body ow.2 x.2.branch (put_of q x.2.value) ow.6 ow.7) in
        (ow.0, ow.1, k, bool true, ow.4, ap (λ z. deed ow.0 (wait_of ow.1.mode) (settled n k Put z w)) pq ∙ settled_deed n k ow.0 Put w ow.1 (ow.5 ∙ ap waiting x.6) ∙ ap (λ z. Some (did_put k q z (bool true))) wv, use_of Put ow.1.body h.0, h.1)
    by Put (served sd fr us i dk) n = absurd (let j : Put ≡ Take = sd in cc)
    by Put (served_nil sd fr i cl vn dk) n = absurd (let j : Put ≡ Take = sd in cc)
  enters_by (made t p what n) x v vs is = no_cons v vs is
  enters_by (spawned t u kind result) x v vs is = no_cons v vs is
  enters_by (parked t w bs) x v vs is = no_cons v vs is
  enters_by (posted t w p u) x v vs is = no_cons v vs is
  enters_by (defaulted t u) x v vs is = no_cons v vs is
  enters_by (closed t p) x v vs is = no_cons v vs is
  enters_by (registered t name args u) x v vs is = no_cons v vs is
  enters_by (printed t line) x v vs is = no_cons v vs is
  enters_by (ticked n ports) x v vs is = no_cons v vs is
  enters_by (is_over t how) x v vs is = no_cons v vs is

  pub leaves_by : (e : EventView) → Step program s e s2 → (v : Tree) (vs : List Tree) → leaves q e ≡ v ∷ vs → TakenBy e v
  leaves_by (done u k b a) x v vs is = by b x.5.0 (left_at (eqb (port_of b) q) (mark_of_done b a) v vs is) where
    by : (o : BranchView) → slice_get (branches_of x.1) k ≡ Some o → (eqb (port_of o) q ≡ true) × (leaving (mark_of_done o a) ≡ v ∷ vs) → TakenBy (done u k o a) v
    by (put_of p w) at n = put_leaves a w v vs n.1
    by (take_of p) at n = own_take (done u k (take_of p) a) u x.1 x.0 k p a v x.4 at (eqb-true p q n.0) (taken_value a v vs n.1) (mine u (did_take k p a))
  leaves_by (met u k side p w n o) x v vs is = subst (λ z. TakenBy (met u k z p w n o) v) x.8 (by x.2 x.9 r.2 x.7.0) where
    here : (eqb p q ≡ true) × (w ∷ [] ≡ v ∷ vs)
    here = left_at (eqb p q) (pass w) v vs is

    pq : p ≡ q
    pq = eqb-true p q here.0

    wv : w ≡ v
    wv = one_value w v vs here.1

    r : (c : Channel) × (s.channels (port_of x.2) ≡ Some c) × (row_on c (front Take (port_of x.2) s.waits) (front Put (port_of x.2) s.waits) x.2 ≡ meets x.3 w)
    r = row_channel (s.channels (port_of x.2)) (front Take (port_of x.2) s.waits) (front Put (port_of x.2) s.waits) x.2 (meets x.3 w) x.10 (λ k. cc)

    by : (b : BranchView) → port_of b ≡ p → row_on r.0 (front Take (port_of b) s.waits) (front Put (port_of b) s.waits) b ≡ meets x.3 w → slice_get (branches_of x.1) k ≡ Some b → TakenBy (met u k (side_of b) p w n o) v
    by (take_of i) ip row at =
        own_take (met u k Take p w n o) u x.1 x.0 k p w v x.6 (at ∙ ap (λ z. Some (take_of z)) ip) pq wv
        (ap (λ b. cond b (Some (did_take k p w)) (cond (is_wait n (wait_of x.0.mode)) (Some (did_put o p w (bool true))) None)) (eq-eqb u u refl))
    by (put_of i a) ip row at =
        let pm = put_meets r.0 (front Take i s.waits) (front Put i s.waits) a x.3 w row in
        let ow = owner_at Take x.3 (ap (λ z. front Take z s.waits) (sym (ip ∙ pq)) ∙ pm.in_front) in
        let h : Suits program roles ow.1.body (take_of q) = suits program roles ow.1.body ow.2 x.3.branch (take_of q) ow.6 ow.7 in (
          ow.0,
          ow.1,
          o,
          ow.4,
          ap (λ z. deed ow.0 (wait_of ow.1.mode) (met u k Put z w n o)) pq ∙ woken_deed u k o n ow.0 Put w x.0 ow.1 x.6.0 x.6.1 ow.4 (ow.5 ∙ ap waiting x.11) ∙ ap (λ z. Some (did_take o q z)) wv,
          use_of Take ow.1.body h,
        )
  leaves_by (settled n k side p w) x v vs is = by side (settle_does x.0 (front Take p s.waits) (front Put p s.waits) side x.2 w x.1 x.5) (left_at (eqb p q) (mark_of_settled side w) v vs is) where
    served_by : (eqb p q ≡ true) × (leaving (mark_of_settled Take w) ≡ v ∷ vs) → front Take p s.waits ≡ Some x.2 → TakenBy (settled n k Take p w) v
    served_by i fr =
        let pq = eqb-true p q i.0 in
        let wv = taken_value w v vs i.1 in
        let ow = owner_at Take x.2 (ap (λ z. front Take z s.waits) (sym pq) ∙ fr) in
        let h : Suits program roles ow.1.body (take_of q) = suits program roles ow.1.body ow.2 x.2.branch (take_of q) ow.6 ow.7 in
        (ow.0, ow.1, k, ow.4, ap (λ z. deed ow.0 (wait_of ow.1.mode) (settled n k Take z w)) pq ∙ settled_deed n k ow.0 Take w ow.1 (ow.5 ∙ ap waiting x.6) ∙ ap (λ z. Some (did_take k q z)) wv, use_of Take ow.1.body h)

    by : (z : Side) → Settled x.0 (front Take p s.waits) (front Put p s.waits) z x.2 w x.1 → (eqb p q ≡ true) × (leaving (mark_of_settled z w) ≡ v ∷ vs) → TakenBy (settled n k z p w) v
    by Put d i = no_cons v vs i.1
    by Take (moved_in sd fr vn dk fx rm) i = absurd (let j : Take ≡ Put = sd in cc)
    by Take (served sd fr us i dk) n = served_by n fr
    by Take (served_nil sd fr i cl vn dk) n = served_by n fr
  leaves_by (made t p what n) x v vs is = no_cons v vs is
  leaves_by (spawned t u kind result) x v vs is = no_cons v vs is
  leaves_by (parked t w bs) x v vs is = no_cons v vs is
  leaves_by (posted t w p u) x v vs is = no_cons v vs is
  leaves_by (defaulted t u) x v vs is = no_cons v vs is
  leaves_by (closed t p) x v vs is = no_cons v vs is
  leaves_by (registered t name args u) x v vs is = no_cons v vs is
  leaves_by (printed t line) x v vs is = no_cons v vs is
  leaves_by (ticked n ports) x v vs is = no_cons v vs is
  leaves_by (is_over t how) x v vs is = no_cons v vs is
