-- What each event is to each task, by what the event tells of it.
use Rattle.std.proofs.Common.{◌≡◌, inl, inr, ◌≢◌, ℕ, zero, suc, [], ◌∷◌, refl, sym, ap, ◌∙◌, subst, Bool, true, false, cond, Option, Some, None, eqb, eqb-true, eq-eqb, slice_get}
use Rattle.std.specs.Map.{update}
use Rattle.std.proofs.lemmas.Map.{update_here, update_apart}
use Rattle.ca_value.specs.Tree.{Tree, nil, bool, port}
use Rattle.ca_term.specs.declared.event.Side.{Side}
use Rattle.ca_term.specs.declared.event.Side.TheVariants.{Take, Put}
use Rattle.ca_term.specs.declared.event.Ending.TheVariants.{Ended, Faulted}
use Rattle.ca_term.specs.Operation.{OpView, taking, putting, choosing, posting, making, spawning, closing, registering, printing}
use Rattle.ca_term.specs.Program.{ProgramView}
use Rattle.ca_term.specs.Event.{BranchView, take_of, put_of, EventView, made, spawned, done, met, parked, posted, settled, defaulted, closed, registered, printed, ticked, over as is_over}
use Rattle.ca_meaning.specs.Operands.{port_of_value}
use Rattle.ca_meaning.specs.Channel.{Channel}
use Rattle.ca_meaning.specs.Wait.{Handler, side_of, port_of, front, queue, owner_of, told}
use Rattle.ca_meaning.specs.Row.{completes as row_completes, meets, row_on}
use Rattle.ca_meaning.specs.Task.{TaskBody, body_fill, BodyRest, reply_to, reply_at, body_reply}
use Rattle.ca_meaning.specs.TaskSteps.{kind_of}
use Rattle.ca_meaning.specs.State.{State, Task, Tasks, Mode, running, waiting, over, runs}
use Rattle.ca_meaning.specs.Choice.{branches_of, default_of}
use Rattle.ca_meaning.specs.Going.{IsAtOp, Wakes}
use Rattle.ca_meaning.specs.ChannelSteps.{other_side, with_default}
use Rattle.ca_meaning.specs.Steps.{Step}
use Rattle.ca_meaning.specs.Sound.{AllWaited}
use Rattle.ca_meaning.specs.History.{branch_on}
use Rattle.ca_meaning.proofs.Waits.{each-head}
use Rattle.ca_meaning.proofs.Rows.{PutDone, refused as was_refused, promised, accepted, put_done, take_meets, put_meets, Settled, moved_in, served, served_nil, settle_does, row_channel}
use Rattle.ca_meaning.proofs.Tasks.{tasks_of}
use Rattle.ca_laws.specs.Deeds.{Deed, did_take, did_put, did_wait, did_post, did_default, did_make, did_spawn, did_close, did_register, did_print, did_end, is_wait, deed_of, deed_on, deed}
use Rattle.ca_laws.proofs.Acts.{wait_of, IsPutAnswer, Replies, got, gave, chose, chose_put, chose_default, posts, posts_late, creates, starts, shuts, enrols, prints, Acts, idles, parks, stops, goes}
use Rattle.ca_laws.proofs.Stood.{Stood, AllStood}

only_one : (c : BranchView) (k : ℕ) (b : BranchView) → slice_get (c ∷ []) k ≡ Some b → (k ≡ 0) × (b ≡ c)
only_one c zero b e = (refl, let k : b ≡ c = cc in k)
only_one c (suc k) b e = absurd (let j : None ≡ Some b = e in cc)

no_branch : {G : Type 0} (k : ℕ) (b : BranchView) → None ≡ Some b → G
no_branch k b e = absurd cc

apart_branches : {G : Type 0} (p q : ℕ) (v : Tree) → take_of p ≡ put_of q v → G
apart_branches p q v e = absurd cc

same_takes : (k p q : ℕ) (a : Tree) → k ≡ 0 → take_of p ≡ take_of q → did_take k p a ≡ did_take 0 q a
same_takes k p q a e f = ap (λ n. did_take n p a) e ∙ ap (λ n. did_take 0 n a) (let i : p ≡ q = cc in i)

same_puts : (k p q : ℕ) (u v a : Tree) → k ≡ 0 → put_of p u ≡ put_of q v → did_put k p u a ≡ did_put 0 q v a
same_puts k p q u v a e f = ap (λ n. did_put n p u a) e ∙ ap (λ n. did_put 0 n u a) (let i : p ≡ q = cc in i) ∙ ap (λ i. did_put 0 q i a) (let i : u ≡ v = cc in i)

put_told : (c : Channel) (taker putter : Option Handler) (v a : Tree) (d : Channel) → PutDone c taker putter v a d → IsPutAnswer a
put_told c ts ps v a d (was_refused cl an k) = inr an
put_told c ts ps v a d (promised cl pr an k) = inl an
put_told c ts ps v a d (accepted cl pr r x y an k) = inl an

take_replies : (op : OpView) (k p : ℕ) (a : Tree) → slice_get (branches_of op) k ≡ Some (take_of p) → Replies op (did_take k p a) (reply_to op p a)
take_replies (taking c) k p a at = let o = only_one (take_of (port_of_value c)) k (take_of p) at in got (same_takes k p (port_of_value c) a o.0 o.1)
take_replies (putting c v) k p a at = apart_branches p (port_of_value c) v (only_one (put_of (port_of_value c) v) k (take_of p) at).1
take_replies (posting c v) k p a at = apart_branches p (port_of_value c) v (only_one (put_of (port_of_value c) v) k (take_of p) at).1
take_replies (choosing ports pr d) k p a at = chose k p a refl at refl
take_replies (making what) k p a at = no_branch k (take_of p) at
take_replies (spawning seed) k p a at = no_branch k (take_of p) at
take_replies (closing c) k p a at = no_branch k (take_of p) at
take_replies (registering name args) k p a at = no_branch k (take_of p) at
take_replies (printing line) k p a at = no_branch k (take_of p) at

put_replies : (op : OpView) (k p : ℕ) (v a : Tree) → slice_get (branches_of op) k ≡ Some (put_of p v) → IsPutAnswer a → Replies op (did_put k p v a) (reply_to op p a)
put_replies (putting c u) k p v a at is = let o = only_one (put_of (port_of_value c) u) k (put_of p v) at in gave (same_puts k p (port_of_value c) v u a o.0 o.1) is
put_replies (posting c u) k p v a at is = let o = only_one (put_of (port_of_value c) u) k (put_of p v) at in posts (same_puts k p (port_of_value c) v u a o.0 o.1) is
put_replies (choosing ports pr d) k p v a at is = chose_put k p v a refl at refl is
put_replies (taking c) k p v a at is = apart_branches (port_of_value c) p v (sym (only_one (take_of (port_of_value c)) k (put_of p v) at).1)
put_replies (making what) k p v a at is = no_branch k (put_of p v) at
put_replies (spawning seed) k p v a at is = no_branch k (put_of p v) at
put_replies (closing c) k p v a at is = no_branch k (put_of p v) at
put_replies (registering name args) k p v a at is = no_branch k (put_of p v) at
put_replies (printing line) k p v a at is = no_branch k (put_of p v) at

-- a value that passes, on either side
passes : (side : Side) (op : OpView) (k p : ℕ) (v u : Tree) → slice_get (branches_of op) k ≡ Some (branch_on side p u) → (side ≡ Put → v ≡ u) → Replies op (deed_on side k p v) (reply_to op p (told side v))
passes Take op k p v u at is = take_replies op k p v at
passes Put op k p v u at is = put_replies op k p v (bool true) (at ∙ ap (λ i. Some (put_of p i)) (sym (is refl))) (inl refl)

module _ (program : ProgramView) (s s2 : State) (e : EventView) (t : ℕ) (x : Task) (there : s.tasks t ≡ Some x) where
  abbrev pub Seen : Type 0
  Seen = (y : Task) × (s2.tasks t ≡ Some y) × Acts program x y (deed t (wait_of x.mode) e)

  same_there : (z : Task) (f : Tasks) → f t ≡ Some z → f t ≡ Some x → z ≡ x
  same_there z f a b = let k : Some z ≡ Some x = sym a ∙ b in cc

  -- the event of task u alone
  own : (u : ℕ) (z y : Task) (c : Deed) (rest : Tasks) → deed t (wait_of x.mode) e ≡ cond (eqb u t) (Some c) None → s.tasks u ≡ Some z → Acts program z y (Some c) → s2.tasks ≡ rest → rest u ≡ Some y → (t ≢ u → rest t ≡ s.tasks t) → Seen
  own u z y c rest shows at k is here elsewhere = by (eqb u t) refl where
    by : (b : Bool) → eqb u t ≡ b → Seen
    by true ut =
        let tu = eqb-true u t ut in (
          y,
          ap (λ (f : Tasks). f t) is ∙ ap rest (sym tu) ∙ here,
          subst (Acts program x y) (sym (shows ∙ ap (λ b. cond b (Some c) None) ut)) (subst (λ (q : Task). Acts program q y (Some c)) (same_there z s.tasks (ap s.tasks (sym tu) ∙ at) there) k),
        )
    by false ut = (x, ap (λ (f : Tasks). f t) is ∙ elsewhere (λ k. let j : true ≡ false = sym (eq-eqb u t (sym k)) ∙ ut in cc) ∙ there, idles (shows ∙ ap (λ b. cond b (Some c) None) ut) refl)

  alone : (u : ℕ) (z y : Task) (c : Deed) → deed t (wait_of x.mode) e ≡ cond (eqb u t) (Some c) None → s.tasks u ≡ Some z → Acts program z y (Some c) → s2.tasks ≡ update eqb s.tasks u (Some y) → Seen
  alone u z y c shows at k is = own u z y c (update eqb s.tasks u (Some y)) shows at k is (update_here s.tasks u (Some y)) (λ ne. update_apart s.tasks u (Some y) t ne)

  -- a task that goes on with the reply of a branch's channel
  with_reply : (z : Task) (op : OpView) (c : Deed) (p : ℕ) (a : Tree) (b : TaskBody) → IsAtOp z.body op → BodyRest program (body_fill (body_reply z.body p a) z.body) b → Replies op c (reply_to op p a) → Acts program z (runs z.result b) (Some c)
  with_reply z op c p a b at r k = goes op c (reply_to op p a) b refl at k (subst (λ i. BodyRest program (body_fill i z.body) b) (ap (λ i. reply_at i p a) at.1) r) refl

  not_mine : AllWaited s.tasks s.waits → (w : ℕ) → (owner_of w s.waits ≡ Some t → ⊥) → is_wait w (wait_of x.mode) ≡ false
  not_mine waited w away = by x.mode refl where
    by : (m : Mode) → x.mode ≡ m → is_wait w (wait_of m) ≡ false
    by running i = refl
    by over i = refl
    by (waiting n) i = at (eqb n w) refl where
      at : (b : Bool) → eqb n w ≡ b → eqb n w ≡ false
      at false k = k
      at true k = absurd (away (ap (λ j. owner_of j s.waits) (sym (eqb-true n w k)) ∙ waited n t x there i))

  -- task t is the owner of the wait at the front of a queue, or stays
  woken : (o : Option ℕ) (side : Side) (w k p : ℕ) (v : Tree) (h : Handler) (tasks after : Tasks) → AllStood s → AllWaited s.tasks s.waits → deed t (wait_of x.mode) e ≡ cond (is_wait w (wait_of x.mode)) (Some (deed_on side k p v)) None
      → front side p s.waits ≡ Some h → h.wait ≡ w → h.branch ≡ k → owner_of w s.waits ≡ o → tasks t ≡ Some x → Wakes program o tasks w p (told side v) after → s2.tasks ≡ after → (side ≡ Put → v ≡ h.value) → Seen
  woken None side w k p v h tasks after stood waited shows fr hw hk ow at wakes is value = (x, ap (λ (z : Tasks). z t) (is ∙ wakes) ∙ at, idles (shows ∙ ap (λ b. cond b (Some (deed_on side k p v)) None) (not_mine waited w (λ q. let j : None ≡ Some t = sym ow ∙ q in cc))) refl)
  woken (Some n) side w k p v h tasks after stood waited shows fr hw hk ow at wakes is value = by (eqb n t) refl where
    by : (b : Bool) → eqb n t ≡ b → Seen
    by true nt =
        let tn = eqb-true n t nt in
        let st = each-head (Stood s side p) (queue side p s.waits) h (stood side p) fr t (ap (λ i. owner_of i s.waits) hw ∙ ow ∙ ap (λ z. Some z) tn) in
        let same : st.0 ≡ x = same_there st.0 s.tasks st.2 there in
        let at_op' : IsAtOp x.body st.1 = subst (λ (q : Task). IsAtOp q.body st.1) same st.3 in
        let woke : wakes.0 ≡ x = same_there wakes.0 tasks (ap tasks (sym tn) ∙ wakes.1) at in
        let rest : BodyRest program (body_fill (body_reply x.body p (told side v)) x.body) wakes.3.0 = subst (λ (q : Task). BodyRest program (body_fill (body_reply q.body p (told side v)) q.body) wakes.3.0) woke wakes.3.1 in
        let mine : is_wait w (wait_of x.mode) ≡ true = ap (λ (q : Task). is_wait w (wait_of q.mode)) (sym woke) ∙ ap (λ m. is_wait w (wait_of m)) wakes.2 ∙ eq-eqb w w refl in (
          runs x.result wakes.3.0,
          ap (λ (z : Tasks). z t) (is ∙ wakes.3.2) ∙ ap (update eqb tasks n (Some (runs wakes.0.result wakes.3.0))) (sym tn) ∙ update_here tasks n (Some (runs wakes.0.result wakes.3.0)) ∙ ap (λ (q : Task). Some (runs q.result wakes.3.0)) woke,
          subst (Acts program x (runs x.result wakes.3.0)) (sym (shows ∙ ap (λ b. cond b (Some (deed_on side k p v)) None) mine))
              (with_reply x st.1 (deed_on side k p v) p (told side v) wakes.3.0 at_op' rest (passes side st.1 k p v h.value (ap (slice_get (branches_of st.1)) (sym hk) ∙ st.4) value)),
        )
    by false nt = (
      x,
      ap (λ (z : Tasks). z t) (is ∙ wakes.3.2) ∙ update_apart tasks n (Some (runs wakes.0.result wakes.3.0)) t (λ j. let i : true ≡ false = sym (eq-eqb n t (sym j)) ∙ nt in cc) ∙ at,
      idles (shows ∙ ap (λ b. cond b (Some (deed_on side k p v)) None) (not_mine waited w (λ c. let q : Some n ≡ Some t = sym ow ∙ c in let g : n ≡ t = cc in let i : true ≡ false = sym (eq-eqb n t g) ∙ nt in cc))) refl,
    )

  not_woken : (o : Option ℕ) (w p : ℕ) (v : Tree) (tasks after : Tasks) (u : ℕ) (y : Task) → tasks u ≡ Some y → y.mode ≡ running → Wakes program o tasks w p v after → after u ≡ Some y
  not_woken None w p v tasks after u y at r k = ap (λ (z : Tasks). z u) k ∙ at
  not_woken (Some n) w p v tasks after u y at r k =
      ap (λ (z : Tasks). z u) k.3.2 ∙ update_apart tasks n (Some (runs k.0.result k.3.0)) u (λ (j : u ≡ n). let i : running ≡ waiting w = sym r ∙ ap (λ (z : Task). z.mode) (let q : Some y ≡ Some k.0 = sym at ∙ ap tasks j ∙ k.1 in let g : y ≡ k.0 = cc in g) ∙ k.2 in cc) ∙ at

module _ (program : ProgramView) (s s2 : State) (t : ℕ) (x : Task) (there : s.tasks t ≡ Some x) (stood : AllStood s) (waited : AllWaited s.tasks s.waits) where
  abbrev Seen_of : EventView → Type 0
  Seen_of e = Seen program s s2 e t x there

  pub acts : (e : EventView) → Step program s e s2 → Seen_of e
  acts (made u p what moment) k = alone program s s2 (made u p what moment) t x there u k.0 (runs k.0.result k.6.0) (did_make p what moment) refl k.2.0 (goes (making what) (did_make p what moment) (port p) k.6.0 refl k.2.2 (creates p moment refl refl) k.6.1 refl) (tasks_of k.7 ∙ k.6.2)
  acts (spawned u n kind result) k =
      own program s s2 (spawned u n kind result) t x there u k.0 (runs k.0.result k.8.0) (did_spawn n kind result) (update eqb k.2 n (Some (runs result k.3))) refl k.4.0
      (goes (spawning k.1) (did_spawn n kind result) nil k.8.0 refl k.4.2 (starts n (ap (λ i. did_spawn n i result) (sym k.6) ∙ ap (did_spawn n (kind_of k.1)) (sym k.7)) refl) k.8.1 refl) (tasks_of k.10)
      (update_apart k.2 n (Some (runs result k.3)) u (λ (j : u ≡ n). let i : None ≡ Some k.0 = sym k.5 ∙ ap s.tasks (sym j) ∙ k.4.0 in cc) ∙ ap (λ (z : Tasks). z u) k.8.2 ∙ update_here s.tasks u (Some (runs k.0.result k.8.0)))
      (λ ne. update_apart k.2 n (Some (runs result k.3)) t (λ (j : t ≡ n). let i : None ≡ Some x = sym k.5 ∙ ap s.tasks (sym j) ∙ there in cc) ∙ ap (λ (z : Tasks). z t) k.8.2 ∙ update_apart s.tasks u (Some (runs k.0.result k.8.0)) t ne)
  acts (done u j b a) k = alone program s s2 (done u j b a) t x there u k.0 (runs k.0.result k.7.0) (deed_of b j a) refl k.4.0 (with_reply program s s2 (done u j b a) t x there k.0 k.1 (deed_of b j a) (port_of b) a k.7.0 k.4.2 k.7.1 (by b k.5.0 r.2)) (tasks_of k.8 ∙ k.7.2) where
    r : (c : Channel) × (s.channels (port_of b) ≡ Some c) × (row_on c (front Take (port_of b) s.waits) (front Put (port_of b) s.waits) b ≡ row_completes a k.3)
    r = row_channel (s.channels (port_of b)) (front Take (port_of b) s.waits) (front Put (port_of b) s.waits) b (row_completes a k.3) k.6 (λ q. cc)

    by : (o : BranchView) → slice_get (branches_of k.1) j ≡ Some o → row_on r.0 (front Take (port_of o) s.waits) (front Put (port_of o) s.waits) o ≡ row_completes a k.3 → Replies k.1 (deed_of o j a) (reply_to k.1 (port_of o) a)
    by (take_of p) at row = take_replies k.1 j p a at
    by (put_of p v) at row = put_replies k.1 j p v a at (put_told r.0 (front Take p s.waits) (front Put p s.waits) v a k.3 (put_done r.0 (front Take p s.waits) (front Put p s.waits) v a k.3 row))
  acts (met u j side p v w o) k = by (eqb u t) refl where
    e : EventView
    e = met u j side p v w o

    r : (c : Channel) × (s.channels (port_of k.2) ≡ Some c) × (row_on c (front Take (port_of k.2) s.waits) (front Put (port_of k.2) s.waits) k.2 ≡ meets k.3 v)
    r = row_channel (s.channels (port_of k.2)) (front Take (port_of k.2) s.waits) (front Put (port_of k.2) s.waits) k.2 (meets k.3 v) k.10 (λ q. cc)

    -- the task of the event
    mine : (b : BranchView) → slice_get (branches_of k.1) j ≡ Some b → side_of b ≡ side → port_of b ≡ p → row_on r.0 (front Take (port_of b) s.waits) (front Put (port_of b) s.waits) b ≡ meets k.3 v → Replies k.1 (deed_on side j p v) (reply_to k.1 p (told side v))
    mine (take_of n) at sd pt row = passes side k.1 j p v v (at ∙ ap (λ i. Some (take_of i)) pt ∙ ap (λ z. Some (branch_on z p v)) sd) (λ q. refl)
    mine (put_of n i) at sd pt row =
        let m = put_meets r.0 (front Take n s.waits) (front Put n s.waits) i k.3 v row in
        passes side k.1 j p v i (at ∙ ap (λ q. Some (put_of q i)) pt ∙ ap (λ z. Some (branch_on z p i)) sd) (λ q. m.value)

    -- the task that is woken
    front_there : (b : BranchView) → side_of b ≡ side → port_of b ≡ p → row_on r.0 (front Take (port_of b) s.waits) (front Put (port_of b) s.waits) b ≡ meets k.3 v → (front (other_side side) p s.waits ≡ Some k.3) × (other_side side ≡ Put → v ≡ k.3.value)
    front_there (take_of n) sd pt row =
        let g = take_meets r.0 (front Put n s.waits) k.3 v row in
        (subst (λ z. front (other_side z) p s.waits ≡ Some k.3) sd (ap (λ i. front Put i s.waits) (sym pt) ∙ g.in_front), λ q. g.value)
    front_there (put_of n i) sd pt row = (subst (λ z. front (other_side z) p s.waits ≡ Some k.3) sd (ap (λ q. front Take q s.waits) (sym pt) ∙ (put_meets r.0 (front Take n s.waits) (front Put n s.waits) i k.3 v row).in_front), λ q. absurd (let z : Take ≡ Put = ap other_side sd ∙ q in cc))

    here : k.4 u ≡ Some (runs k.0.result k.13.0)
    here = ap (λ (z : Tasks). z u) k.13.2 ∙ update_here s.tasks u (Some (runs k.0.result k.13.0))

    by : (b : Bool) → eqb u t ≡ b → Seen_of e
    by true ut =
        let tu = eqb-true u t ut in
        let same : k.0 ≡ x = (let q : Some k.0 ≡ Some x = sym k.6.0 ∙ ap s.tasks tu ∙ there in cc) in
        let does = with_reply program s s2 e t x there k.0 k.1 (deed_on side j p v) p (told side v) k.13.0 k.6.2 k.13.1 (mine k.2 k.7.0 k.8 k.9 r.2) in (
          runs k.0.result k.13.0,
          ap (λ (z : Tasks). z t) (tasks_of k.15) ∙ ap k.5 (sym tu) ∙ not_woken program s s2 e t x there (owner_of w s.waits) w p _ k.4 k.5 u (runs k.0.result k.13.0) here refl k.14,
          subst (Acts program x (runs k.0.result k.13.0)) (sym (ap (λ b. cond b (Some (deed_on side j p v)) (cond (is_wait w (wait_of x.mode)) (Some (deed_on (other_side side) o p v)) None)) ut)) (subst (λ (q : Task). Acts program q (runs k.0.result k.13.0) (Some (deed_on side j p v))) same does),
        )
    by false ut =
        let f = front_there k.2 k.8 k.9 r.2 in
        woken program s s2 e t x there (owner_of w s.waits) (other_side side) w o p v k.3 k.4 k.5 stood waited (ap (λ b. cond b (Some (deed_on side j p v)) (cond (is_wait w (wait_of x.mode)) (Some (deed_on (other_side side) o p v)) None)) ut) f.0 k.11 k.12 refl
        (ap (λ (z : Tasks). z t) k.13.2 ∙ update_apart s.tasks u (Some (runs k.0.result k.13.0)) t (λ j. let i : true ≡ false = sym (eq-eqb u t (sym j)) ∙ ut in cc) ∙ there) k.14 (tasks_of k.15) f.1
  acts (parked u w bs) k = alone program s s2 (parked u w bs) t x there u k.0 (record k.0 { mode = waiting w }) (did_wait w bs) refl k.2.0 (parks k.1 w (ap (λ i. Some (did_wait w i)) (sym k.4)) k.3 k.2.2 k.2.1 refl) (tasks_of k.8)
  acts (posted u w p v) k = alone program s s2 (posted u w p v) t x there u k.0 (runs k.0.result k.5.0) (did_post w p v) refl k.2.0 (goes (posting (port p) v) (did_post w p v) (bool true) k.5.0 refl k.2.2 (posts_late w refl refl) k.5.1 refl) (tasks_of k.6 ∙ k.5.2)
  acts (settled w j side p v) k = at_front (settle_does k.0 (front Take p s.waits) (front Put p s.waits) side k.2 v k.1 k.5) where
    e : EventView
    e = settled w j side p v

    wakes : front side p s.waits ≡ Some k.2 → (side ≡ Put → v ≡ k.2.value) → Seen_of e
    wakes fr value = woken program s s2 e t x there (owner_of w s.waits) side w j p v k.2 s.tasks k.3 stood waited refl fr k.6 k.7 refl there k.8 (tasks_of k.9) value

    at_front : Settled k.0 (front Take p s.waits) (front Put p s.waits) side k.2 v k.1 → Seen_of e
    at_front (moved_in sd fr vn d fx rm) = wakes (ap (λ z. front z p s.waits) sd ∙ fr) (λ q. vn)
    at_front (served sd fr vs is d) = wakes (ap (λ z. front z p s.waits) sd ∙ fr) (λ q. absurd (let z : Take ≡ Put = sym sd ∙ q in cc))
    at_front (served_nil sd fr is cl vn d) = wakes (ap (λ z. front z p s.waits) sd ∙ fr) (λ q. absurd (let z : Take ≡ Put = sym sd ∙ q in cc))
  acts (defaulted u v) k = alone program s s2 (defaulted u v) t x there u k.0 (runs k.0.result k.6.0) (did_default v) refl k.3.0 (goes k.1 (did_default v) (with_default v) k.6.0 refl k.3.2 (by k.1 k.4) k.6.1 refl) (tasks_of k.7 ∙ k.6.2) where
    by : (op : OpView) → default_of op ≡ Some v → Replies op (did_default v) (with_default v)
    by (choosing ports pr d) q = chose_default v refl q refl
    by (taking c) q = absurd (let z : None ≡ Some v = q in cc)
    by (putting c i) q = absurd (let z : None ≡ Some v = q in cc)
    by (posting c i) q = absurd (let z : None ≡ Some v = q in cc)
    by (making what) q = absurd (let z : None ≡ Some v = q in cc)
    by (spawning seed) q = absurd (let z : None ≡ Some v = q in cc)
    by (closing c) q = absurd (let z : None ≡ Some v = q in cc)
    by (registering name args) q = absurd (let z : None ≡ Some v = q in cc)
    by (printing line) q = absurd (let z : None ≡ Some v = q in cc)
  acts (closed u p) k = alone program s s2 (closed u p) t x there u k.0 (runs k.0.result k.3.0) (did_close p) refl k.2.0 (goes (closing (port p)) (did_close p) nil k.3.0 refl k.2.2 (shuts refl refl) k.3.1 refl) (tasks_of k.4 ∙ k.3.2)
  acts (registered u name args v) k = alone program s s2 (registered u name args v) t x there u k.0 (runs k.0.result k.5.0) (did_register name args v) refl k.3.0 (goes (registering name args) (did_register name args v) v k.5.0 refl k.3.2 (enrols refl) k.5.1 refl) (tasks_of k.6 ∙ k.5.2)
  acts (printed u line) k = alone program s s2 (printed u line) t x there u k.0 (runs k.0.result k.3.0) (did_print line) refl k.2.0 (goes (printing line) (did_print line) nil k.3.0 refl k.2.2 (prints refl refl) k.3.1 refl) (tasks_of k.4 ∙ k.3.2)
  acts (ticked m ports) k = (x, ap (λ (z : Tasks). z t) (tasks_of k.4) ∙ there, idles refl refl)
  acts (is_over u Ended) k = alone program s s2 (is_over u Ended) t x there u k.0 (record k.0 { mode = over }) (did_end Ended) refl k.2.0 (stops Ended refl k.2.1 (λ i. (k.1, k.3)) refl) (tasks_of k.4)
  acts (is_over u (Faulted fault place result)) k = alone program s s2 (is_over u (Faulted fault place result)) t x there u k.0 (record k.0 { mode = over }) (did_end (Faulted fault place result)) refl k.1.0 (stops (Faulted fault place result) refl k.1.1 (λ i. cc) refl) (tasks_of k.4)
