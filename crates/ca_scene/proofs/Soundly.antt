-- An admitted event finds what its step needs, and each step is there.
use Rattle.std.proofs.Common.{◌≡◌, ◌≢◌, ℕ, zero, suc, ◌<◌, ◌≤◌, List, [], ◌∷◌, ◌++◌, refl, sym, ap, ap₂, ◌∙◌, subst, arith, Option, Some, None, is_some, option_map, unwrap_or, slice_get, Bool, true, false, not, ◌&&◌, cond, eqb, eqb-true, eq-eqb, nat_le, nat_lt}
use Rattle.std.proofs.lemmas.Bool.{and_parts, leb-true, ltb-true, not-true}
use Rattle.std.specs.Map.{update}
use Rattle.std.proofs.lemmas.Map.{update_apart}
use Rattle.ca_value.specs.Tree.{Tree, Trees, port, bool, nil}
use Rattle.ca_term.specs.declared.fault.Fault.{Fault}
use Rattle.ca_term.specs.declared.place.Place.{Place}
use Rattle.ca_term.specs.declared.event.Side.{Side}
use Rattle.ca_term.specs.declared.event.Side.TheVariants.{Take, Put}
use Rattle.ca_term.specs.declared.event.Ending.TheVariants.{Ended, Faulted}
use Rattle.ca_term.specs.declared.event.TaskKind.{TaskKind}
use Rattle.ca_term.specs.Operation.{OpView, SeedView, WhatView, unbuffered, fixed, dropping, sliding, promise, timeout, mult, mix, publication, making, spawning, closing, registering, printing, posting}
use Rattle.ca_term.specs.Program.{ProgramView}
use Rattle.ca_term.specs.Event.{BranchView, put_of, EventView, made, spawned, done, met, parked, posted, settled, defaulted, closed, registered, printed, ticked, over as is_over, port_number}
use Rattle.ca_meaning.specs.Body.{At, ended}
use Rattle.ca_meaning.specs.Channel.{Channel, channel_made}
use Rattle.ca_meaning.specs.Wait.{Handler, side_of, port_of, front, without, owner_of, told, is_among}
use Rattle.ca_meaning.specs.Row.{Row, not_ready, completes, meets, Settling, unsettled, settles, settle_row}
use Rattle.ca_meaning.specs.Registry.{Registry, Registered, answers, refuses}
use Rattle.ca_registry.specs.Gives.{gives_answer}
use Rattle.ca_meaning.specs.Task.{TaskBody, body_at, new_task, body_reply}
use Rattle.ca_meaning.specs.State.{State, Task, Tasks, Mode, running, waiting, over, runs, due, open_after, shut_at, shut_all, shut_result}
use Rattle.ca_meaning.specs.TaskSteps.{IsMoment, moments, kind_of, result_of, with_deadline}
use Rattle.ca_meaning.specs.Choice.{branches_of, has_priority, default_of, parks, row, is_ready, any_ready, NoneReady, Picks}
use Rattle.ca_meaning.specs.Going.{Runs, RunsAtOperation, Goes, Wakes}
use Rattle.ca_meaning.specs.ChannelSteps.{other_side, with_default}
use Rattle.ca_meaning.specs.Refusal.{fault_at, registering_gives}
use Rattle.ca_meaning.specs.Steps.{Step}
use Rattle.ca_meaning.proofs.Possible.{body_rests, goes_there, waiters_kept}
use Rattle.ca_scene.specs.Same.{same, same_side, same_branch, same_branches, same_numbers, same_number, same_fault, same_place, same_kind}
use Rattle.ca_scene.specs.Admits.{asks, prints, operation_closes, posts, operation_makes, is_moment, is_reading, completes_with, meets_so, ready_before, may_pick, is_branch, completes_branch, meets_at, meets_by, is_waiting, waits_on, owner_waits, can_wake, is_new, parks_on, is_default, defaults_to, settling_in, settling_at, settles_so, seeds, spawns, registers, standing_of, is_ended, is_fault, faults_at, has_result, has_none, admits}
use Rattle.ca_scene.specs.Admitted.{Woken, Admitted}
use Rattle.ca_scene.proofs.Sames.{never, same_true, same_side_true, same_branch_true, same_branches_true, same_numbers_true, same_number_true, same_fault_true, same_place_true, same_kind_true}
use Rattle.ca_scene.proofs.Asked.{no_some, stands_of, runs_of, prints_is, closes_is, posts_is, makes_is, registers_is, spawns_is, ended_is}

parts : (a b : Bool) → a && b ≡ true → (a ≡ true) × (b ≡ true)
parts a b e = and_parts a b e

none_of : {A : Type 0} (o : Option A) → not (is_some o) ≡ true → o ≡ None
none_of None e = refl
none_of (Some x) e = never e

isnt : (b : Bool) → not b ≡ true → b ≡ false
isnt b e = not-true b e

moment_is : (now : ℕ) (what : WhatView) (m : Option ℕ) → is_moment now what m ≡ true → IsMoment now what m
moment_is now (timeout n) (Some m) e = let k = parts (nat_le now m) (nat_lt m moments) e in (leb-true now m k.0, ltb-true m moments k.1)
moment_is now (timeout n) None e = never e
moment_is now unbuffered m e = none_of m e
moment_is now (fixed n) m e = none_of m e
moment_is now (dropping n) m e = none_of m e
moment_is now (sliding n) m e = none_of m e
moment_is now promise m e = none_of m e
moment_is now (mult v) m e = none_of m e
moment_is now (mix v w) m e = none_of m e
moment_is now (publication v) m e = none_of m e

-- a test of what a task asks for, which fails where it asks for nothing
asked : (s : State) (t : ℕ) (f : Option OpView → Bool) → f None ≡ false → f (asks s t) ≡ true → (op : OpView) × (asks s t ≡ Some op) × (f (Some op) ≡ true)
asked s t f n e = by (asks s t) refl where
  by : (o : Option OpView) → asks s t ≡ o → (op : OpView) × (asks s t ≡ Some op) × (f (Some op) ≡ true)
  by None is = absurd (let k : false ≡ true = sym n ∙ ap f (sym is) ∙ e in cc)
  by (Some op) is = (op, is, ap f (sym is) ∙ e)

unready : (r : Row) → is_ready r ≡ false → r ≡ not_ready
unready not_ready e = refl
unready (completes a d) e = absurd (let k : true ≡ false = e in cc)
unready (meets h v) e = absurd (let k : true ≡ false = e in cc)

no_first : (s : State) (k : ℕ) (bs : List BranchView) → ready_before s k bs ≡ false → (j : ℕ) (o : BranchView) → j < k → slice_get bs j ≡ Some o → row s o ≡ not_ready
no_first s zero bs e j o lt at = absurd (omega (arith, lt))
no_first s (suc k) [] e j o lt at = no_some o at
no_first s (suc k) (b ∷ bs) e j o lt at = by (is_ready (row s b)) refl e j lt at (λ r i l. no_first s k bs r i o l) where
  by : (t : Bool) → is_ready (row s b) ≡ t → cond t true (ready_before s k bs) ≡ false → (j : ℕ) → j < suc k → slice_get (b ∷ bs) j ≡ Some o → (ready_before s k bs ≡ false → (i : ℕ) → i < k → slice_get bs i ≡ Some o → row s o ≡ not_ready) → row s o ≡ not_ready
  by true is e j lt at more = absurd (let x : true ≡ false = e in cc)
  by false is e zero lt at more = subst (λ (o : BranchView). row s o ≡ not_ready) (let x : b ≡ o = cc in x) (unready (row s b) is)
  by false is e (suc j) lt at more = more e j (omega (arith, lt)) at

picks_of : (s : State) (op : OpView) (k : ℕ) (b : BranchView) → slice_get (branches_of op) k ≡ Some b → may_pick s op k ≡ true → Picks s op k b
picks_of s op k b at e = (at, λ p j o lt aj. no_first s k (branches_of op) (by (has_priority op) p e) j o lt aj) where
  by : (q : Bool) → q ≡ true → not (q && ready_before s k (branches_of op)) ≡ true → ready_before s k (branches_of op) ≡ false
  by true p e = isnt (ready_before s k (branches_of op)) e
  by false p e = absurd (let x : false ≡ true = p in cc)

woken_of : (s : State) (w : ℕ) → can_wake s w ≡ true → Woken s w (owner_of w s.waits)
woken_of s w e = by (owner_of w s.waits) e where
  mode : (m : Mode) → is_waiting w m ≡ true → m ≡ waiting w
  mode running e = never e
  mode over e = never e
  mode (waiting v) e = ap waiting (eqb-true v w e)

  there : (u : ℕ) (o : Option Task) → s.tasks u ≡ o → waits_on w o ≡ true → (x : Task) × (s.tasks u ≡ Some x) × (x.mode ≡ waiting w)
  there u None is e = never e
  there u (Some x) is e = (x, is, mode x.mode e)

  by : (o : Option ℕ) → owner_waits s w o ≡ true → Woken s w o
  by None e = tt
  by (Some u) e = there u (s.tasks u) refl e

completes_of : (a : Tree) (r : Row) → completes_with a r ≡ true → (after : Channel) × (r ≡ completes a after)
completes_of a (completes b after) e = (after, ap (λ z. completes z after) (sym (same_true a b e)))
completes_of a not_ready e = never e
completes_of a (meets h v) e = never e

abbrev MeetsSo : Tree → ℕ → ℕ → Row → Type 0
MeetsSo v w o r = (h : Handler) × (r ≡ meets h v) × (h.wait ≡ w) × (h.branch ≡ o)

meets_of : (v : Tree) (w o : ℕ) (r : Row) → meets_so v w o r ≡ true → MeetsSo v w o r
meets_of v w o (meets h u) e = let k = parts (same v u) (eqb h.wait w && eqb h.branch o) e in let j = parts (eqb h.wait w) (eqb h.branch o) k.1 in (h, ap (meets h) (sym (same_true v u k.0)), eqb-true h.wait w j.0, eqb-true h.branch o j.1)
meets_of v w o not_ready e = never e
meets_of v w o (completes a d) e = never e

branch_is : (b : BranchView) (o : Option BranchView) → is_branch b o ≡ true → o ≡ Some b
branch_is b None e = never e
branch_is b (Some c) e = ap (λ (z : BranchView). Some z) (sym (same_branch_true b c e))

default_is : (v : Tree) (o : Option Tree) → is_default v o ≡ true → o ≡ Some v
default_is v None e = never e
default_is v (Some u) e = ap (λ (z : Tree). Some z) (sym (same_true v u e))

answers_of : (v : Tree) (r : Registered) → gives_answer v r ≡ true → (q : Registry) × (r ≡ answers v q)
answers_of v (answers u q) e = (q, ap (λ z. answers z q) (sym (same_true v u e)))
answers_of v (refuses f) e = never e

fault_is : (f : Fault) (p : Place) (o : Option (Fault × Place)) → is_fault f p o ≡ true → o ≡ Some (f, p)
fault_is f p None e = never e
fault_is f p (Some g) e = let k = parts (same_fault f g.0) (same_place p g.1) e in ap₂ (λ (a : Fault) (b : Place). Some (a, b)) (sym (same_fault_true f g.0 k.0)) (sym (same_place_true p g.1 k.1))

abbrev SettlesSo : State → ℕ → ℕ → Side → ℕ → Tree → Type 0
SettlesSo s w k side p v = (c after : Channel) × (h : Handler) × (s.channels p ≡ Some c) × (settle_row c (front Take p s.waits) (front Put p s.waits) ≡ settles side h v after) × (h.wait ≡ w) × (h.branch ≡ k)

settles_of : (s : State) (w k : ℕ) (side : Side) (p : ℕ) (v : Tree) → settles_so w k side v (settling_at s p) ≡ true → SettlesSo s w k side p v
settles_of s w k side p v e = by (s.channels p) refl e where
  row_is : (c : Channel) → s.channels p ≡ Some c → (r : Settling) → settle_row c (front Take p s.waits) (front Put p s.waits) ≡ r → settles_so w k side v r ≡ true → SettlesSo s w k side p v
  row_is c at unsettled r e = never e
  row_is c at (settles sd h u after) r e =
      let x = parts (same_side sd side) (same v u && (eqb h.wait w && eqb h.branch k)) e in
      let y = parts (same v u) (eqb h.wait w && eqb h.branch k) x.1 in
      let z = parts (eqb h.wait w) (eqb h.branch k) y.1 in
      (c, after, h, at, r ∙ ap₂ (λ (a : Side) (b : Tree). settles a h b after) (same_side_true sd side x.0) (sym (same_true v u y.0)), eqb-true h.wait w z.0, eqb-true h.branch k z.1)

  by : (o : Option Channel) → s.channels p ≡ o → settles_so w k side v (settling_in o (front Take p s.waits) (front Put p s.waits)) ≡ true → SettlesSo s w k side p v
  by None at e = never e
  by (Some c) at e = row_is c at (settle_row c (front Take p s.waits) (front Put p s.waits)) refl e

filled : (ns : List ℕ) → not (has_none ns) ≡ true → ns ≢ []
filled [] e = never e
filled (n ∷ ns) e = λ k. cc

has_result_of : (s : State) (t : ℕ) (x : Task) (r : Option ℕ) → s.tasks t ≡ Some x → has_result r (s.tasks t) ≡ true → x.result ≡ r
has_result_of s t x r at e = same_number_true x.result r (ap (has_result r) (sym at) ∙ e)

-- the test's parts
abbrev MeetsBy : State → ℕ → Side → ℕ → Tree → ℕ → ℕ → OpView → Type 0
MeetsBy s k side p v w o op = (b : BranchView) × (h : Handler) × Picks s op k b × (side_of b ≡ side) × (port_of b ≡ p) × (row s b ≡ meets h v) × (h.wait ≡ w) × (h.branch ≡ o)

meeting : (s : State) (k : ℕ) (side : Side) (p : ℕ) (v : Tree) (w o : ℕ) (op : OpView) → meets_by s k side p v w o (Some op) ≡ true → MeetsBy s k side p v w o op
meeting s k side p v w o op e = let m = parts (may_pick s op k) (meets_at s side p v w o (slice_get (branches_of op) k)) e in by (slice_get (branches_of op) k) refl m.0 m.1 where
  by : (c : Option BranchView) → slice_get (branches_of op) k ≡ c → may_pick s op k ≡ true → meets_at s side p v w o c ≡ true → MeetsBy s k side p v w o op
  by None at m e = never e
  by (Some b) at m e =
      let x = parts (same_side (side_of b) side) (eqb (port_of b) p && meets_so v w o (row s b)) e in
      let y = parts (eqb (port_of b) p) (meets_so v w o (row s b)) x.1 in
      let h = meets_of v w o (row s b) y.1 in
      (b, h.0, picks_of s op k b at m, same_side_true (side_of b) side x.0, eqb-true (port_of b) p y.0, h.1, h.2, h.3)

pub admitted : (s : State) (e : EventView) → admits s e ≡ true → Admitted s e
admitted s (made t p what m) e =
    let a = parts (operation_makes what (asks s t)) _ e in
    let b = parts (not (is_some (s.channels p))) _ a.1 in
    let c = parts (not (is_some (s.registries p))) (is_moment s.now what m) b.1 in
    let st = stands_of s t (making what) (makes_is what (asks s t) a.0) in
    (st.0, st.1, none_of (s.channels p) b.0, none_of (s.registries p) c.0, moment_is s.now what m c.1)
admitted s (spawned t u kind result) e =
    let a = parts (spawns kind result (asks s t)) (not (is_some (s.tasks u))) e in
    let b = spawns_is kind result (asks s t) a.0 in
    let c = parts (same_kind (kind_of b.0) kind) (same_number (result_of b.0) result) b.2 in
    let st = stands_of s t (spawning b.0) b.1 in
    (st.0, b.0, st.1, none_of (s.tasks u) a.1, same_kind_true (kind_of b.0) kind c.0, same_number_true (result_of b.0) result c.1)
admitted s (done t k b a) e =
    let o = asked s t (completes_branch s k b a) refl e in
    let st = stands_of s t o.0 o.1 in
    let x = parts (is_branch b (slice_get (branches_of o.0) k)) _ o.2 in
    let y = parts (may_pick s o.0 k) (completes_with a (row s b)) x.1 in
    let r = completes_of a (row s b) y.1 in
    (st.0, o.0, r.0, st.1, picks_of s o.0 k b (branch_is b (slice_get (branches_of o.0) k) x.0) y.0, r.1)
admitted s (met t k side p v w o) e =
    let a = parts (meets_by s k side p v w o (asks s t)) (can_wake s w) e in
    let q = asked s t (meets_by s k side p v w o) refl a.0 in
    let st = stands_of s t q.0 q.1 in
    let m = meeting s k side p v w o q.0 q.2 in
    (st.0, q.0, m.0, m.1, st.1, m.2, m.3, m.4, m.5, m.6, m.7, woken_of s w a.1)
admitted s (parked t w bs) e =
    let a = parts (parks_on s bs (asks s t)) (is_new s w) e in
    let q = asked s t (parks_on s bs) refl a.0 in
    let st = stands_of s t q.0 q.1 in
    let x = parts (parks q.0) _ q.2 in
    let y = parts (same_branches bs (branches_of q.0)) _ x.1 in
    let z = parts (not (is_some (default_of q.0))) (not (any_ready s (branches_of q.0))) y.1 in
    let same = same_branches_true bs (branches_of q.0) y.0 in
    (st.0, q.0, st.1, x.0, sym same, none_of (default_of q.0) z.0, ap (any_ready s) same ∙ isnt (any_ready s (branches_of q.0)) z.1, isnt (is_among w s.used) a.1)
admitted s (posted t w p v) e =
    let a = parts (posts p v (asks s t)) _ e in
    let b = parts (not (any_ready s (put_of p v ∷ []))) (is_new s w) a.1 in
    let st = stands_of s t (posting (port p) v) (posts_is p v (asks s t) a.0) in
    (st.0, st.1, isnt (any_ready s (put_of p v ∷ [])) b.0, isnt (is_among w s.used) b.1)
admitted s (settled w k side p v) e =
    let a = parts (settles_so w k side v (settling_at s p)) (can_wake s w) e in
    let b = settles_of s w k side p v a.0 in
    (b.0, b.1, b.2, b.3, b.4, b.5, b.6, woken_of s w a.1)
admitted s (defaulted t v) e =
    let q = asked s t (defaults_to s v) refl e in
    let st = stands_of s t q.0 q.1 in
    let x = parts (is_default v (default_of q.0)) (not (any_ready s (branches_of q.0))) q.2 in
    (st.0, q.0, st.1, default_is v (default_of q.0) x.0, isnt (any_ready s (branches_of q.0)) x.1)
admitted s (closed t p) e = stands_of s t (closing (port p)) (closes_is p (asks s t) e)
admitted s (registered t name args v) e =
    let a = parts (registers name args (asks s t)) _ e in
    let st = stands_of s t (registering name args) (registers_is name args (asks s t) a.0) in
    let r = answers_of v (registering_gives s name args) a.1 in
    (st.0, r.0, st.1, r.1)
admitted s (printed t line) e = stands_of s t (printing line) (prints_is line (asks s t) e)
admitted s (ticked m ports) e =
    let a = parts (nat_le s.now m) _ e in
    let b = parts (nat_lt m moments) _ a.1 in
    let c = parts (same_numbers (due m s.deadlines) ports) (not (has_none ports)) b.1 in
    (leb-true s.now m a.0, ltb-true m moments b.0, same_numbers_true (due m s.deadlines) ports c.0, filled ports c.1)
admitted s (is_over t Ended) e =
    let a = ended_is (standing_of (s.tasks t)) e in
    let r = runs_of s t (ended a.0) a.1 in
    (r.0, a.0, r.1, r.2)
admitted s (is_over t (Faulted f p r)) e =
    let a = parts (faults_at s f p (standing_of (s.tasks t))) _ e in
    by (standing_of (s.tasks t)) refl a.0 a.1 where
      by : (o : Option At) → standing_of (s.tasks t) ≡ o → faults_at s f p o ≡ true → has_result (option_map port_number r) (s.tasks t) ≡ true → Admitted s (is_over t (Faulted f p r))
      by None is e h = never e
      by (Some at) is e h =
          let q = runs_of s t at is in
          (q.0, q.1, ap (fault_at s) q.2 ∙ fault_is f p (fault_at s at) e, has_result_of s t q.0 (option_map port_number r) q.1.0 h)

-- the tasks once the owner of the wait, if it has one, has its answer
wakes : (program : ProgramView) (s : State) (tasks : Tasks) (w p : ℕ) (v : Tree) → ((u w : ℕ) (y : Task) → s.tasks u ≡ Some y → y.mode ≡ waiting w → tasks u ≡ Some y) → (o : Option ℕ) → Woken s w o → (after : Tasks) × Wakes program o tasks w p v after
wakes program s tasks w p v kept None k = (tasks, refl)
wakes program s tasks w p v kept (Some u) k = let g = goes_there program tasks u k.0 (body_reply k.0.body p v) in (g.0, (k.0, kept u w k.0 k.1 k.2, k.2, g.1))

-- what is admitted is a step
pub step_there : (program : ProgramView) (s : State) (e : EventView) → Admitted s e → (s2 : State) × Step program s e s2
step_there program s (made t p what m) x = let g = goes_there program s.tasks t x.0 (port p) in (_, (x.0, g.0, x.1, x.2, x.3, x.4, g.1, refl))
step_there program s (spawned t u kind result) x =
    let g = goes_there program s.tasks t x.0 nil in
    let b = body_rests program (new_task program x.1) in
    (_, (x.0, x.1, g.0, b.0, x.2, x.3, x.4, x.5, g.1, b.1, refl))
step_there program s (done t k b a) x = let g = goes_there program s.tasks t x.0 (body_reply x.0.body (port_of b) a) in (_, (x.0, x.1, g.0, x.2, x.3, x.4, x.5, g.1, refl))
step_there program s (met t k side p v w o) x =
    let g = goes_there program s.tasks t x.0 (body_reply x.0.body p (told side v)) in
    let n = wakes program s g.0 w p (told (other_side side) v) (λ u i y is m. ap (λ (z : Tasks). z u) g.1.2 ∙ waiters_kept s t x.0 (runs x.0.result g.1.0) x.4.0 x.4.1 u i y is m) (owner_of w s.waits) x.11 in
    (_, (x.0, x.1, x.2, x.3, g.0, n.0, x.4, x.5, x.6, x.7, x.8, x.9, x.10, g.1, n.1, refl))
step_there program s (parked t w bs) x = (_, (x.0, x.1, x.2, x.3, x.4, x.5, x.6, x.7, refl))
step_there program s (posted t w p v) x = let g = goes_there program s.tasks t x.0 (bool true) in (_, (x.0, g.0, x.1, x.2, x.3, g.1, refl))
step_there program s (settled w k side p v) x =
    let n = wakes program s s.tasks w p (told side v) (λ u i y is m. is) (owner_of w s.waits) x.7 in
    (_, (x.0, x.1, x.2, n.0, x.3, x.4, x.5, x.6, n.1, refl))
step_there program s (defaulted t v) x = let g = goes_there program s.tasks t x.0 (with_default v) in (_, (x.0, x.1, g.0, x.2, x.3, x.4, g.1, refl))
step_there program s (closed t p) x = let g = goes_there program s.tasks t x.0 nil in (_, (x.0, g.0, x.1, g.1, refl))
step_there program s (registered t name args v) x = let g = goes_there program s.tasks t x.0 v in (_, (x.0, x.1, g.0, x.2, x.3, g.1, refl))
step_there program s (printed t line) x = let g = goes_there program s.tasks t x.0 nil in (_, (x.0, g.0, x.1, g.1, refl))
step_there program s (ticked m ports) x = (_, (x.0, x.1, x.2, x.3, refl))
step_there program s (is_over t Ended) x = (_, (x.0, x.1, x.2, x.3, refl))
step_there program s (is_over t (Faulted f p r)) x = (_, (x.0, x.1, x.2, x.3, refl))
