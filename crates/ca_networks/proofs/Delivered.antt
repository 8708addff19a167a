-- What a delivery has put, and when it is done.
use Rattle.std.proofs.Common.{◌≡◌, ◌≢◌, inl, inr, ℕ, List, [], ◌∷◌, ◌++◌, refl, sym, ap, ◌∙◌, subst, true, Option, Some, None, slice_get, append_assoc, append-nil}
use Rattle.ca_value.specs.Tree.{Tree, Trees, bool}
use Rattle.ca_term.specs.declared.place.Place.{Place}
use Rattle.ca_term.specs.declared.head.SystemTask.{SystemTask}
use Rattle.ca_term.specs.Operation.{OpView, taking, putting, choosing, posting, making, spawning, closing, registering, printing, system}
use Rattle.ca_term.specs.Program.{ProgramView}
use Rattle.ca_term.specs.Event.{put_of, EventView}
use Rattle.ca_meaning.specs.Operands.{port_of_value}
use Rattle.ca_meaning.specs.MultTable.{Delivery}
use Rattle.ca_meaning.specs.Choice.{branches_of}
use Rattle.ca_meaning.specs.State.{State, Task}
use Rattle.ca_meaning.proofs.Single.{same_task, same_op, same_seed, reached_once}
use Rattle.ca_laws.specs.Deeds.{Deed, did_take, did_put, did_wait, did_post, did_default, did_make, did_spawn, did_close, did_register, did_print, did_end, deed, deeds, wait_in}
use Rattle.ca_laws.specs.Taken.{put_by, put_in, Begins}
use Rattle.ca_laws.specs.Rules.{IsAllowed, KeepsTo, AllKeepTo, SpawnsFrom}
use Rattle.ca_laws.specs.MultRules.{DeliverRule}
use Rattle.ca_laws.proofs.Deeding.{and_deed, deeds_more}
use Rattle.ca_laws.proofs.More.{each_more}
use Rattle.ca_laws.proofs.Orders.{one_branch, no_branch}
use Rattle.ca_networks.specs.Networks.{IsSpawned}

-- a task keeps to the rule for the values of its Spawn
pub its_rule : (program : ProgramView) (journal : List EventView) (s : State) (kind : SystemTask) (Rule : Trees → Place → List Deed → OpView → Type 0) (values : Trees) (place : Place) (t : ℕ) → AllKeepTo kind Rule program journal s → IsSpawned program journal kind values place t → KeepsTo (Rule values place) t journal s
its_rule program journal s kind Rule values place t all is = subst (λ z. KeepsTo (Rule z place) t journal s) vs (subst (λ z. KeepsTo (Rule a.0 z) t journal s) ps a.3) where
  a : (values : Trees) × (place : Place) × SpawnsFrom program is.early is.spawner (system kind values place) × KeepsTo (Rule values place) t journal s
  a = all is.early is.late is.spawner t is.result is.told

  same_state : a.2.before ≡ is.from.before
  same_state = reached_once program is.early a.2.before is.from.before a.2.reaches is.from.reaches

  spawner : a.2.spawner ≡ is.from.spawner
  spawner = same_task is.from.before.tasks is.spawner a.2.spawner is.from.spawner (subst (λ (z : State). z.tasks is.spawner ≡ Some a.2.spawner) same_state a.2.stands.0) is.from.stands.0

  seed : system kind a.0 a.1 ≡ system kind values place
  seed = same_seed (system kind a.0 a.1) (system kind values place) (same_op a.2.spawner.body is.from.spawner.body (spawning (system kind a.0 a.1)) (spawning (system kind values place)) (ap (λ (z : Task). z.body) spawner) a.2.stands.2 is.from.stands.2)

  vs : a.0 ≡ values
  vs = let k : system kind a.0 a.1 ≡ system kind values place = seed in cc

  ps : a.1 ≡ place
  ps = let k : system kind a.0 a.1 ≡ system kind values place = seed in cc

-- what each allowed deed keeps holds of all of them
along : (Rule : List Deed → OpView → Type 0) (P : List Deed → Type 0) (all : List Deed) → ((before after : List Deed) (d : Deed) → all ≡ before ++ d ∷ after → IsAllowed Rule before d) → ((before : List Deed) (d : Deed) → IsAllowed Rule before d → P before → P (before ++ d ∷ []))
    → (before rest : List Deed) → all ≡ before ++ rest → P before → P all
along Rule P all did step before [] e p = subst P (sym (e ∙ append-nil before)) p
along Rule P all did step before (d ∷ rest) e p = along Rule P all did step (before ++ d ∷ []) rest (e ∙ sym (append_assoc before (d ∷ []) rest)) (step before d (did before rest d e) p)

-- the value into the tap, and then the answer
abbrev pub both_puts : Delivery → List (ℕ × Tree)
both_puts d = (d.channel, d.value) ∷ (d.acks, bool true) ∷ []

module _ (d : Delivery) (before : List Deed) where
  next_put : (op : OpView) (k p : ℕ) (v : Tree) → DeliverRule d before op → slice_get (branches_of op) k ≡ Some (put_of p v) → Begins (put_in before ++ (p, v) ∷ []) (both_puts d)
  next_put (putting c w) k p v r e = by r where
    q : put_of p v ≡ put_of (port_of_value c) w
    q = one_branch (put_of (port_of_value c) w) k (put_of p v) e

    pc : p ≡ port_of_value c
    pc = let i : put_of p v ≡ put_of (port_of_value c) w = q in cc

    vw : v ≡ w
    vw = let i : put_of p v ≡ put_of (port_of_value c) w = q in cc

    by : DeliverRule d before (putting c w) → Begins (put_in before ++ (p, v) ∷ []) (both_puts d)
    by (inl z) = ((d.acks, bool true) ∷ [], sym (ap (λ i. (i ++ (p, v) ∷ []) ++ (d.acks, bool true) ∷ []) z.2 ∙ ap (λ i. (i, v) ∷ (d.acks, bool true) ∷ []) (pc ∙ ap port_of_value z.0) ∙ ap (λ i. (d.channel, i) ∷ (d.acks, bool true) ∷ []) (vw ∙ z.1)))
    by (inr z) = ([], sym (ap (λ i. (i ++ (p, v) ∷ []) ++ []) z.2 ∙ ap (λ i. (d.channel, d.value) ∷ (i, v) ∷ []) (pc ∙ ap port_of_value z.0) ∙ ap (λ i. (d.channel, d.value) ∷ (d.acks, i) ∷ []) (vw ∙ z.1)))
  next_put (registering name args) k p v r e = no_branch (put_of p v) e
  next_put (taking x) k p v r e = absurd r
  next_put (closing x) k p v r e = absurd r
  next_put (making what) k p v r e = absurd r
  next_put (choosing ports priority default) k p v r e = absurd r
  next_put (spawning seed) k p v r e = absurd r
  next_put (printing line) k p v r e = absurd r
  next_put (posting x y) k p v r e = absurd r

  deliver_step : (c : Deed) → IsAllowed (DeliverRule d) before c → Begins (put_in before) (both_puts d) → Begins (put_in (before ++ c ∷ [])) (both_puts d)
  deliver_step c allowed k = subst (λ z. Begins z (both_puts d)) (sym (each_more put_by before c)) (by c allowed) where
    quiet : Begins (put_in before ++ []) (both_puts d)
    quiet = subst (λ z. Begins z (both_puts d)) (sym (append-nil (put_in before))) k

    by : (c : Deed) → IsAllowed (DeliverRule d) before c → Begins (put_in before ++ put_by c) (both_puts d)
    by (did_put j p v a) (inl o) = next_put o.0 j p v o.1 o.2
    by (did_put j p v a) (inr o) = absurd (let e : did_put j p v a ≡ did_end o.0 = o.1 in cc)
    by (did_take j p a) o = quiet
    by (did_wait w bs) o = quiet
    by (did_post w p v) o = quiet
    by (did_default v) o = quiet
    by (did_make p what m) o = quiet
    by (did_spawn u kind result) o = quiet
    by (did_close p) o = quiet
    by (did_register name args a) o = quiet
    by (did_print line) o = quiet
    by (did_end how) o = quiet

pub puts_begin : (d : Delivery) (u : ℕ) (journal : List EventView) (s : State) → KeepsTo (DeliverRule d) u journal s → Begins (put_in (deeds u journal)) (both_puts d)
puts_begin d u journal s k = along (DeliverRule d) (λ ds. Begins (put_in ds) (both_puts d)) (deeds u journal) k.did (λ before c. deliver_step d before c) [] (deeds u journal) refl (both_puts d, refl)

-- it answered
abbrev pub HasAnswered : ℕ → List (ℕ × Tree) → Type 0
HasAnswered acks xs = (before after : List (ℕ × Tree)) × (v : Tree) × (xs ≡ before ++ (acks, v) ∷ after)

pub answered_more : (acks : ℕ) (xs ys : List (ℕ × Tree)) → HasAnswered acks xs → HasAnswered acks (xs ++ ys)
answered_more acks xs ys k = (k.0, k.1 ++ ys, k.2, ap (λ z. z ++ ys) k.3 ∙ append_assoc k.0 ((acks, k.2) ∷ k.1) ys)

too_long : {A G : Type 0} (xs ys : List A) (x : A) → [] ≡ xs ++ x ∷ ys → G
too_long [] ys x e = absurd cc
too_long (z ∷ xs) ys x e = absurd cc

none_left : {A : Type 0} (xs ys : List A) → [] ≡ xs ++ ys → xs ≡ []
none_left [] ys e = refl
none_left (x ∷ xs) ys e = absurd cc

-- where it answered, both its puts are done
pub both_done : (d : Delivery) (xs : List (ℕ × Tree)) → d.channel ≢ d.acks → Begins xs (both_puts d) → HasAnswered d.acks xs → xs ≡ both_puts d
both_done d xs apart b k = by k.0 k.3 where
  all : (before : List (ℕ × Tree)) → xs ≡ before ++ (d.acks, k.2) ∷ k.1 → both_puts d ≡ before ++ (d.acks, k.2) ∷ (k.1 ++ b.0)
  all before e = b.1 ∙ ap (λ z. z ++ b.0) e ∙ append_assoc before ((d.acks, k.2) ∷ k.1) b.0

  by : (before : List (ℕ × Tree)) → xs ≡ before ++ (d.acks, k.2) ∷ k.1 → xs ≡ both_puts d
  by [] e = absurd (apart (let q : both_puts d ≡ (d.acks, k.2) ∷ (k.1 ++ b.0) = all [] e in let i : (d.channel, d.value) ≡ (d.acks, k.2) = cc in ap (λ (z : ℕ × Tree). z.0) i))
  by (x ∷ []) e =
      let q : both_puts d ≡ x ∷ (d.acks, k.2) ∷ (k.1 ++ b.0) = all (x ∷ []) e in
      let i : (d.acks, bool true) ∷ [] ≡ (d.acks, k.2) ∷ (k.1 ++ b.0) = cc in
      let h : [] ≡ k.1 ++ b.0 = cc in
      let n : k.1 ≡ [] = none_left k.1 b.0 h in
      let m : b.0 ≡ [] = sym (h ∙ ap (λ z. z ++ b.0) n) in
      sym (b.1 ∙ ap (λ z. xs ++ z) m ∙ append-nil xs)
  by (x ∷ (y ∷ zs)) e =
      let q : both_puts d ≡ x ∷ (y ∷ (zs ++ (d.acks, k.2) ∷ (k.1 ++ b.0))) = all (x ∷ (y ∷ zs)) e in
      too_long zs (k.1 ++ b.0) (d.acks, k.2) (let i : [] ≡ zs ++ (d.acks, k.2) ∷ (k.1 ++ b.0) = cc in i)

-- it answers once
pub answers_once : {G : Type 0} (d : Delivery) (xs : List (ℕ × Tree)) (v : Tree) → d.channel ≢ d.acks → Begins (xs ++ (d.acks, v) ∷ []) (both_puts d) → HasAnswered d.acks xs → G
answers_once d xs v apart b k =
    let whole = both_done d (xs ++ (d.acks, v) ∷ []) apart b (answered_more d.acks xs ((d.acks, v) ∷ []) k) in
    by xs k whole where
      by : {G : Type 0} (xs : List (ℕ × Tree)) → HasAnswered d.acks xs → xs ++ (d.acks, v) ∷ [] ≡ both_puts d → G
      by [] k e = too_long k.0 k.1 (d.acks, k.2) k.3
      by (x ∷ []) k e = at k.0 k.3 where
        first : x ≡ (d.channel, d.value)
        first = cc

        at : {G : Type 0} (before : List (ℕ × Tree)) → x ∷ [] ≡ before ++ (d.acks, k.2) ∷ k.1 → G
        at [] e = absurd (apart (let i : x ≡ (d.acks, k.2) = cc in ap (λ (z : ℕ × Tree). z.0) (sym first ∙ i)))
        at (y ∷ zs) e = too_long zs k.1 (d.acks, k.2) (let i : [] ≡ zs ++ (d.acks, k.2) ∷ k.1 = cc in i)
      by (x ∷ (y ∷ zs)) k e = too_long zs [] (d.acks, v) (let i : x ∷ (y ∷ (zs ++ (d.acks, v) ∷ [])) ≡ both_puts d = e in let j : zs ++ (d.acks, v) ∷ [] ≡ [] = cc in sym j)

-- what a task put after one more event
pub put_after : (u : ℕ) (journal : List EventView) (e : EventView) (o : Option Deed) → deed u (wait_in u journal) e ≡ o → put_in (deeds u (journal ++ e ∷ [])) ≡ put_in (and_deed (deeds u journal) o)
put_after u journal e o is = ap put_in (deeds_more u None journal e) ∙ ap (λ z. put_in (and_deed (deeds u journal) z)) is

pub put_grows : (acks u : ℕ) (journal : List EventView) (e : EventView) → HasAnswered acks (put_in (deeds u journal)) → HasAnswered acks (put_in (deeds u (journal ++ e ∷ [])))
put_grows acks u journal e k = by (deed u (wait_in u journal) e) refl where
  by : (o : Option Deed) → deed u (wait_in u journal) e ≡ o → HasAnswered acks (put_in (deeds u (journal ++ e ∷ [])))
  by None is = subst (HasAnswered acks) (sym (put_after u journal e None is ∙ ap put_in (append-nil (deeds u journal)))) k
  by (Some d) is = subst (HasAnswered acks) (sym (put_after u journal e (Some d) is ∙ each_more put_by (deeds u journal) d)) (answered_more acks (put_in (deeds u journal)) (put_by d) k)
