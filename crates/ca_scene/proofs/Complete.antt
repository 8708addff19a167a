-- Each event that a step allows is admitted.
use Rattle.std.proofs.Common.{◌≡◌, ◌≢◌, ℕ, zero, suc, ◌<◌, ◌≤◌, List, [], ◌∷◌, refl, sym, ap, ap₂, ◌∙◌, subst, arith, Option, Some, None, is_some, option_map, slice_get, Bool, true, false, not, ◌&&◌, cond, eqb, eqb-true, eq-eqb, nat_le, nat_lt}
use Rattle.std.proofs.lemmas.Bool.{and_parts, and_from, leb-true, le-leb, ltb-true, lt-ltb}
use Rattle.std.proofs.lemmas.Slice.Eq.{bytes_eq-Decides}
use Rattle.std.specs.Map.{update}
use Rattle.std.specs.Str.{bytes_eq}
use Rattle.ca_value.specs.Tree.{Tree, Trees, port, bool}
use Rattle.ca_term.specs.declared.fault.Fault.{Fault}
use Rattle.ca_term.specs.declared.place.Place.{Place}
use Rattle.ca_term.specs.declared.event.Side.{Side}
use Rattle.ca_term.specs.declared.event.Side.TheVariants.{Take, Put}
use Rattle.ca_term.specs.declared.event.Ending.TheVariants.{Ended, Faulted}
use Rattle.ca_term.specs.declared.event.TaskKind.{TaskKind}
use Rattle.ca_term.specs.declared.head.RegisterName.{RegisterName}
use Rattle.ca_term.specs.Operation.{OpView, WhatView, unbuffered, fixed, dropping, sliding, promise, timeout, mult, mix, publication, making, spawning, closing, registering, printing, posting}
use Rattle.ca_term.specs.Program.{ProgramView}
use Rattle.ca_term.specs.Event.{BranchView, put_of, EventView, made, spawned, done, met, parked, posted, settled, defaulted, closed, registered, printed, ticked, over as is_over, port_number}
use Rattle.ca_meaning.specs.Body.{ended}
use Rattle.ca_meaning.specs.Channel.{Channel}
use Rattle.ca_meaning.specs.Wait.{Handler, side_of, port_of, front, owner_of, is_among}
use Rattle.ca_meaning.specs.Row.{Row, not_ready, completes, meets, Settling, settles}
use Rattle.ca_meaning.specs.Registry.{answers}
use Rattle.ca_registry.specs.Gives.{gives_answer}
use Rattle.ca_meaning.specs.Task.{body_at}
use Rattle.ca_meaning.specs.State.{State, Task, Tasks, Mode, running, waiting, due}
use Rattle.ca_meaning.specs.TaskSteps.{IsMoment, moments}
use Rattle.ca_meaning.specs.Choice.{branches_of, has_priority, default_of, parks, row, is_ready, any_ready, Picks}
use Rattle.ca_meaning.specs.Going.{RunsAtOperation, Goes, Wakes}
use Rattle.ca_meaning.specs.Refusal.{fault_at}
use Rattle.ca_meaning.specs.Steps.{Step}
use Rattle.ca_scene.specs.Same.{same, same_side, same_branch, same_branches, same_numbers, same_number, same_fault, same_place, same_kind}
use Rattle.ca_scene.specs.Admits.{asks, prints, operation_closes, posts, operation_makes, is_moment, is_reading, completes_with, meets_so, ready_before, may_pick, is_branch, completes_branch, meets_at, meets_by, is_waiting, waits_on, owner_waits, can_wake, is_new, parks_on, is_default, defaults_to, settling_in, settling_at, settles_so, seeds, spawns, registers, standing_of, is_ended, is_fault, faults_at, has_result, has_none, admits}
use Rattle.ca_scene.proofs.Sames.{never, same_from, same_self, same_items_from, same_side_itself, same_branch_itself, same_branches_itself, same_numbers_itself, same_number_itself, same_what_itself, same_fault_itself, same_place_itself, same_name_itself, same_kind_itself}
use Rattle.ca_scene.proofs.Asked.{asks_of, standing_is}

-- a test of what the task asks for
tested : (s : State) (t : ℕ) (op : OpView) (x : Task) (f : Option OpView → Bool) → RunsAtOperation s t op x → f (Some op) ≡ true → f (asks s t) ≡ true
tested s t op x f st e = ap f (asks_of s t op x st) ∙ e

none_there : {A : Type 0} (o : Option A) → o ≡ None → not (is_some o) ≡ true
none_there o e = ap (λ z. not (is_some z)) e

pub both : (a b : Bool) → a ≡ true → b ≡ true → a && b ≡ true
both a b e f = and_from a b e f

off : (b : Bool) → b ≡ false → not b ≡ true
off b e = ap not e

moment_shown : (now : ℕ) (what : WhatView) (m : Option ℕ) → IsMoment now what m → is_moment now what m ≡ true
moment_shown now (timeout n) (Some m) i = both (nat_le now m) (nat_lt m moments) (le-leb now m i.0) (lt-ltb m moments i.1)
moment_shown now (timeout n) None i = absurd i
moment_shown now unbuffered m i = none_there m i
moment_shown now (fixed n) m i = none_there m i
moment_shown now (dropping n) m i = none_there m i
moment_shown now (sliding n) m i = none_there m i
moment_shown now promise m i = none_there m i
moment_shown now (mult v) m i = none_there m i
moment_shown now (mix v w) m i = none_there m i
moment_shown now (publication v) m i = none_there m i

row_unready : (r : Row) → r ≡ not_ready → is_ready r ≡ false
row_unready r e = ap is_ready e

-- none before the k-th is ready
pub none_before : (s : State) (k : ℕ) (bs : List BranchView) → ((j : ℕ) (o : BranchView) → j < k → slice_get bs j ≡ Some o → row s o ≡ not_ready) → ready_before s k bs ≡ false
none_before s zero bs f = refl
none_before s (suc k) [] f = refl
none_before s (suc k) (b ∷ bs) f = ap (λ c. cond c true (ready_before s k bs)) (row_unready (row s b) (f 0 b (omega arith) refl)) ∙ none_before s k bs (λ j o lt at. f (suc j) o (omega (arith, lt)) at)

pub picks_may : (s : State) (op : OpView) (k : ℕ) (b : BranchView) → Picks s op k b → may_pick s op k ≡ true
picks_may s op k b p = by (has_priority op) p.1 where
  by : (q : Bool) → (q ≡ true → (j : ℕ) (o : BranchView) → j < k → slice_get (branches_of op) j ≡ Some o → row s o ≡ not_ready) → not (q && ready_before s k (branches_of op)) ≡ true
  by false f = refl
  by true f = ap not (none_before s k (branches_of op) (f refl))

waits : (w : ℕ) (x : Task) → x.mode ≡ waiting w → waits_on w (Some x) ≡ true
waits w x e = ap (is_waiting w) e ∙ eq-eqb w w refl

wakes_can : (program : ProgramView) (s : State) (w p : ℕ) (v : Tree) (woken : Tasks) → Wakes program (owner_of w s.waits) s.tasks w p v woken → can_wake s w ≡ true
wakes_can program s w p v woken k = by (owner_of w s.waits) k where
  by : (o : Option ℕ) → Wakes program o s.tasks w p v woken → owner_waits s w o ≡ true
  by None k = refl
  by (Some u) (x, at, m, g) = ap (waits_on w) at ∙ waits w x m

abbrev mode_or : Mode → Option Task → Mode
mode_or m None = m
mode_or m (Some x) = x.mode

unwaiting : {G : Type 0} (w : ℕ) (m : Mode) → running ≡ m → m ≡ waiting w → G
unwaiting w m e f = absurd (let k : running ≡ waiting w = e ∙ f in cc)

-- the same where task t went on before
wakes_other : (program : ProgramView) (s : State) (t w p q : ℕ) (x : Task) (a v : Tree) (tasks woken : Tasks) → x.mode ≡ running → s.tasks t ≡ Some x → Goes program s.tasks t x a tasks → Wakes program (owner_of w s.waits) tasks w p v woken → can_wake s w ≡ true
wakes_other program s t w p q x a v tasks woken m at g k = by (owner_of w s.waits) k where
  there : (u : ℕ) (y : Task) → y.mode ≡ waiting w → (b : Bool) → eqb t u ≡ b → cond b (Some (record { result = x.result; body = g.0; mode = running })) (s.tasks u) ≡ Some y → waits_on w (s.tasks u) ≡ true
  there u y n true is e = unwaiting w y.mode (ap (mode_or running) e) n
  there u y n false is e = ap (waits_on w) e ∙ waits w y n

  by : (o : Option ℕ) → Wakes program o tasks w p v woken → owner_waits s w o ≡ true
  by None k = refl
  by (Some u) (y, uy, n, h) = there u y n (eqb t u) refl (ap (λ (z : Tasks). z u) (sym g.2) ∙ uy)

not_empty : (ns : List ℕ) → ns ≢ [] → not (has_none ns) ≡ true
not_empty [] f = absurd (f refl)
not_empty (n ∷ ns) f = refl

-- what a step allows is admitted
pub complete : (program : ProgramView) (s s2 : State) (e : EventView) → Step program s e s2 → admits s e ≡ true
complete program s s2 (made t p what m) x =
    both (operation_makes what (asks s t)) _ (tested s t (making what) x.0 (operation_makes what) x.2 (same_what_itself what))
    (both (not (is_some (s.channels p))) _ (none_there (s.channels p) x.3)
    (both (not (is_some (s.registries p))) (is_moment s.now what m) (none_there (s.registries p) x.4) (moment_shown s.now what m x.5)))
complete program s s2 (done t k b a) x =
    tested s t x.1 x.0 (completes_branch s k b a) x.4
    (both (is_branch b (slice_get (branches_of x.1) k)) _ (ap (is_branch b) x.5.0 ∙ same_branch_itself b)
    (both (may_pick s x.1 k) (completes_with a (row s b)) (picks_may s x.1 k b x.5) (ap (completes_with a) x.6 ∙ same_self a)))
complete program s s2 (met t k side p v w o) x =
    both (meets_by s k side p v w o (asks s t)) (can_wake s w)
    (tested s t x.1 x.0 (meets_by s k side p v w o) x.6
    (both (may_pick s x.1 k) (meets_at s side p v w o (slice_get (branches_of x.1) k)) (picks_may s x.1 k x.2 x.7)
    (ap (meets_at s side p v w o) x.7.0
    ∙ both (same_side (side_of x.2) side) _ (ap (λ z. same_side z side) x.8 ∙ same_side_itself side)
    (both (eqb (port_of x.2) p) (meets_so v w o (row s x.2)) (eq-eqb (port_of x.2) p x.9)
    (ap (meets_so v w o) x.10 ∙ both (same v v) _ (same_self v) (both (eqb x.3.wait w) (eqb x.3.branch o) (eq-eqb x.3.wait w x.11) (eq-eqb x.3.branch o x.12)))))))
    (wakes_other program s t w p p x.0 _ _ x.4 x.5 x.6.1 x.6.0 x.13 x.14)
complete program s s2 (parked t w bs) x =
    both (parks_on s bs (asks s t)) (is_new s w)
    (tested s t x.1 x.0 (parks_on s bs) x.2
    (both (parks x.1) _ x.3
    (both (same_branches bs (branches_of x.1)) _ (ap (same_branches bs) x.4 ∙ same_branches_itself bs)
    (both (not (is_some (default_of x.1))) (not (any_ready s (branches_of x.1))) (none_there (default_of x.1) x.5) (off (any_ready s (branches_of x.1)) (ap (any_ready s) x.4 ∙ x.6))))))
    (off (is_among w s.used) x.7)
complete program s s2 (posted t w p v) x =
    both (posts p v (asks s t)) _ (tested s t (posting (port p) v) x.0 (posts p v) x.2 (both (eqb p p) (same v v) (eq-eqb p p refl) (same_self v)))
    (both (not (any_ready s (put_of p v ∷ []))) (is_new s w) (off (any_ready s (put_of p v ∷ [])) x.3) (off (is_among w s.used) x.4))
complete program s s2 (settled w k side p v) x =
    both (settles_so w k side v (settling_at s p)) (can_wake s w)
    (ap (λ c. settles_so w k side v (settling_in c (front Take p s.waits) (front Put p s.waits))) x.4 ∙ ap (settles_so w k side v) x.5
    ∙ both (same_side side side) _ (same_side_itself side) (both (same v v) _ (same_self v) (both (eqb x.2.wait w) (eqb x.2.branch k) (eq-eqb x.2.wait w x.6) (eq-eqb x.2.branch k x.7))))
    (wakes_can program s w p _ x.3 x.8)
complete program s s2 (defaulted t v) x =
    tested s t x.1 x.0 (defaults_to s v) x.3
    (both (is_default v (default_of x.1)) (not (any_ready s (branches_of x.1))) (ap (is_default v) x.4 ∙ same_self v) (off (any_ready s (branches_of x.1)) x.5))
complete program s s2 (closed t p) x = tested s t (closing (port p)) x.0 (operation_closes p) x.2 (eq-eqb p p refl)
complete program s s2 (registered t name args v) x =
    both (registers name args (asks s t)) _ (tested s t (registering name args) x.0 (registers name args) x.3 (both _ _ (same_name_itself name) (same_items_from args args refl)))
    (ap (gives_answer v) x.4 ∙ same_self v)
complete program s s2 (printed t line) x = tested s t (printing line) x.0 (prints line) x.2 ((bytes_eq-Decides line line).1 refl)
complete program s s2 (ticked m ports) x =
    both (nat_le s.now m) _ (le-leb s.now m x.0) (both (nat_lt m moments) _ (lt-ltb m moments x.1)
    (both (same_numbers (due m s.deadlines) ports) (not (has_none ports)) (ap (λ z. same_numbers z ports) x.2 ∙ same_numbers_itself ports) (not_empty ports x.3)))
complete program s s2 (is_over t Ended) x = ap is_ended (standing_is s t x.0 x.2) ∙ ap (λ a. is_ended (Some a)) x.3
complete program s s2 (is_over t (Faulted f p r)) x =
    both (faults_at s f p (standing_of (s.tasks t))) _ (ap (faults_at s f p) (standing_is s t x.0 x.1) ∙ ap (is_fault f p) x.2 ∙ both (same_fault f f) (same_place p p) (same_fault_itself f) (same_place_itself p))
    (ap (has_result (option_map port_number r)) x.1.0 ∙ ap (λ z. same_number z (option_map port_number r)) x.3 ∙ same_number_itself (option_map port_number r))
complete program s s2 (spawned t u kind result) x =
    both (spawns kind result (asks s t)) (not (is_some (s.tasks u)))
    (tested s t (spawning x.1) x.0 (spawns kind result) x.4 (both _ _ (ap (λ z. same_kind z kind) x.6 ∙ same_kind_itself kind) (ap (λ z. same_number z result) x.7 ∙ same_number_itself result)))
    (none_there (s.tasks u) x.5)
