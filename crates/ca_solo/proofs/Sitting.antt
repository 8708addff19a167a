-- With one worker each running task is in the lane or in the ready part.
use Rattle.std.proofs.Common.{◌≡◌, ◌≢◌, ◌⊎◌, inl, inr, ⊎_elim, ℕ, List, [], ◌∷◌, ◌++◌, refl, sym, ap, ◌∙◌, subst, Bool, true, false, cond, Option, Some, None, eqb, eqb-true, eq-eqb}
use Rattle.std.specs.Map.{update}
use Rattle.ca_value.specs.Tree.{Tree}
use Rattle.ca_term.specs.declared.event.Ending.TheVariants.{Ended, Faulted}
use Rattle.ca_term.specs.Program.{ProgramView}
use Rattle.ca_term.specs.Event.{EventView, made, spawned, done, met, parked, posted, settled, defaulted, closed, registered, printed, ticked, over as is_over}
use Rattle.ca_meaning.specs.Wait.{owner_of}
use Rattle.ca_meaning.specs.State.{State, Task, Tasks, running, waiting, over}
use Rattle.ca_meaning.specs.Going.{Goes, Wakes}
use Rattle.ca_meaning.specs.Steps.{Step}
use Rattle.ca_meaning.specs.EndsLaw.{is_of}
use Rattle.ca_meaning.specs.Solo.{Lane, Desk, event_counted, joined_by, made_one, ReadsMoment, CountsAlts, Leaves}
use Rattle.ca_solo.specs.Stirs.{AmongPorts}
use Rattle.ca_solo.specs.Seats.{On, AllSit}

pub in_more : (t : ℕ) (xs ys : List ℕ) → AmongPorts t xs → AmongPorts t (xs ++ ys)
in_more t [] ys i = absurd i
in_more t (x ∷ xs) ys (inl e) = inl e
in_more t (x ∷ xs) ys (inr i) = inr (in_more t xs ys i)

pub in_last : (t : ℕ) (xs : List ℕ) → AmongPorts t (xs ++ t ∷ [])
in_last t [] = inl refl
in_last t (x ∷ xs) = inr (in_last t xs)

abbrev pub with_one : Option ℕ → List ℕ → List ℕ
with_one None r = r
with_one (Some u) r = r ++ u ∷ []

-- a task is put that sits there
put_sits : (tasks : Tasks) (l : Option Lane) (r : List ℕ) (t : ℕ) (z : Option Task) → AllSit tasks l r → On l t ⊎ AmongPorts t r → AllSit (update eqb tasks t z) l r
put_sits tasks l r t z all here u x at runs = by (eqb t u) refl at where
  by : (b : Bool) → eqb t u ≡ b → cond b z (tasks u) ≡ Some x → On l u ⊎ AmongPorts u r
  by true is e = subst (λ n. On l n ⊎ AmongPorts n r) (eqb-true t u is) here
  by false is e = all u x e runs

counted_sits : (tasks : Tasks) (l : Option Lane) (r : List ℕ) → AllSit tasks l r → AllSit tasks (event_counted l) r
counted_sits tasks None r all = all
counted_sits tasks (Some lane) r all = all

more_sits : (tasks : Tasks) (l : Option Lane) (r : List ℕ) (u : ℕ) → AllSit tasks l r → AllSit tasks l (r ++ u ∷ [])
more_sits tasks l r u all t x at runs = ⊎_elim (λ o. inl o) (λ i. inr (in_more t r (u ∷ []) i)) (all t x at runs)

on_lane_of : (l : Option Lane) (lane : Lane) (t : ℕ) → l ≡ Some lane → t ≡ lane.task → On l t
on_lane_of l lane t e is = subst (λ z. On z t) (sym e) is

goes_sits : (program : ProgramView) (tasks after : Tasks) (l : Option Lane) (r : List ℕ) (t : ℕ) (y : Task) (v : Tree) → On l t → Goes program tasks t y v after → AllSit tasks l r → AllSit after (event_counted l) r
goes_sits program tasks after l r t y v on g all = subst (λ (z : Tasks). AllSit z (event_counted l) r) (sym g.2) (counted_sits _ l r (put_sits tasks l r t _ all (inl on)))

pub wakes_sits : (program : ProgramView) (o : Option ℕ) (tasks after : Tasks) (l : Option Lane) (r : List ℕ) (w p : ℕ) (v : Tree) → Wakes program o tasks w p v after → AllSit tasks l r → AllSit after l (with_one o r)
wakes_sits program None tasks after l r w p v x all = subst (λ (z : Tasks). AllSit z l r) (sym x) all
wakes_sits program (Some u) tasks after l r w p v x all = subst (λ (z : Tasks). AllSit z l (r ++ u ∷ [])) (sym x.3.2) (put_sits tasks l (r ++ u ∷ []) u _ (more_sits tasks l r u all) (inr (in_last u r)))

-- the task leaves the lane, and runs no more
leaves_sits : (tasks : Tasks) (l : Option Lane) (r : List ℕ) (t : ℕ) (z : Task) → On l t → (z.mode ≢ running) → AllSit tasks l r → AllSit (update eqb tasks t (Some z)) None r
leaves_sits tasks l r t z on stops all u x at runs = by (eqb t u) refl at where
  only : (l : Option Lane) → On l t → On l u → t ≡ u
  only None a b = absurd a
  only (Some lane) a b = a ∙ sym b

  by : (b : Bool) → eqb t u ≡ b → cond b (Some z) (tasks u) ≡ Some x → On None u ⊎ AmongPorts u r
  by true is e = absurd (stops (let k : z ≡ x = cc in ap (λ (y : Task). y.mode) k ∙ runs))
  by false is e = ⊎_elim (λ o. let k : true ≡ false = sym (eq-eqb t u (only l on o)) ∙ is in absurd cc) (λ i. inr i) (all u x e runs)

-- what an event leaves of the lane and the ready part
abbrev Placed : Desk → Option Lane → List ℕ → Type 0
Placed d l r = (d.lane ≡ l) × (d.ready ≡ r)

pub placed : (tasks : Tasks) (d : Desk) (l : Option Lane) (r : List ℕ) → Placed d l r → AllSit tasks l r → AllSit tasks d.lane d.ready
placed tasks d l r p all = subst (λ z. AllSit tasks z d.ready) (sym p.0) (subst (AllSit tasks l) (sym p.1) all)

same_place : (d d2 : Desk) → d ≡ d2 → Placed d d2.lane d2.ready
same_place d d2 e = (ap (λ (z : Desk). z.lane) e, ap (λ (z : Desk). z.ready) e)

read_place : (m : Option ℕ) (d d2 : Desk) → ReadsMoment m d d2 → Placed d2 d.lane d.ready
read_place None d d2 x = same_place d2 d x
read_place (Some m) d d2 x = same_place d2 _ x.2

counts_place : (s : State) (d : Desk) (t : ℕ) (d2 : Desk) → CountsAlts s d t d2 → Placed d2 d.lane d.ready
counts_place s d t d2 x = same_place d2 _ x.4

pub joined_place : (o : Option ℕ) (d : Desk) → Placed (joined_by o d) d.lane (with_one o d.ready)
joined_place None d = (refl, refl)
joined_place (Some u) d = (refl, refl)

then_placed : (d d1 d2 : Desk) → Placed d2 (event_counted d1.lane) d1.ready → Placed d1 d.lane d.ready → Placed d2 (event_counted d.lane) d.ready
then_placed d d1 d2 a b = (a.0 ∙ ap event_counted b.0, a.1 ∙ b.1)

then_left : (d d1 d2 : Desk) → Placed d2 None d1.ready → Placed d1 d.lane d.ready → Placed d2 None d.ready
then_left d d1 d2 a b = (a.0, a.1 ∙ b.1)

abbrev pub tasks_of : {s t : State} → s ≡ t → s.tasks ≡ t.tasks
tasks_of e = ap (λ (z : State). z.tasks) e

sits : (s2 : State) (tasks : Tasks) (d2 : Desk) (l : Option Lane) (r : List ℕ) → s2.tasks ≡ tasks → Placed d2 l r → AllSit tasks l r → AllSit s2.tasks d2.lane d2.ready
sits s2 tasks d2 l r e p all = subst (λ (z : Tasks). AllSit z d2.lane d2.ready) (sym e) (placed tasks d2 l r p all)

waits_not : (w : ℕ) → waiting w ≢ running
waits_not w e = cc

over_not : over ≢ running
over_not e = cc

pub event_sits : (program : ProgramView) (s s2 : State) (d d2 : Desk) (lane : Lane) (e : EventView) → d.lane ≡ Some lane → is_of lane.task e ≡ true → Step program s e s2 → Leaves s d e d2 → AllSit s.tasks d.lane d.ready → AllSit s2.tasks d2.lane d2.ready
event_sits program s s2 d d2 lane (made t p what moment) on is x y all = sits s2 x.1 d2 _ _ (tasks_of x.7) (then_placed d y.0 d2 (same_place d2 _ y.3) (read_place moment d y.0 y.2)) (goes_sits program s.tasks x.1 d.lane d.ready t x.0 _ (on_lane_of d.lane lane t on (eqb-true t lane.task is)) x.6 all)
event_sits program s s2 d d2 lane (spawned t u kind result) on is x y all =
    sits s2 _ d2 _ _ (tasks_of x.10) (same_place d2 _ y.1) (put_sits x.2 (event_counted d.lane) (d.ready ++ u ∷ []) u _ (more_sits x.2 (event_counted d.lane) d.ready u (goes_sits program s.tasks x.2 d.lane d.ready t x.0 _ (on_lane_of d.lane lane t on (eqb-true t lane.task is)) x.8 all)) (inr (in_last u d.ready)))
event_sits program s s2 d d2 lane (done t k b a) on is x y all = sits s2 x.2 d2 _ _ (tasks_of x.8) (then_placed d y.0 d2 (same_place d2 _ y.3) (counts_place s d t y.0 y.2)) (goes_sits program s.tasks x.2 d.lane d.ready t x.0 _ (on_lane_of d.lane lane t on (eqb-true t lane.task is)) x.7 all)
event_sits program s s2 d d2 lane (met t k side p v w o) on is x y all =
    let c = counts_place s d t y.0 y.2 in
    let j = joined_place (owner_of w s.waits) (made_one y.0) in
    let at = same_place d2 _ y.3 in
    sits s2 x.5 d2 (event_counted d.lane) (with_one (owner_of w s.waits) d.ready) (tasks_of x.15) (at.0 ∙ j.0 ∙ ap event_counted c.0, at.1 ∙ j.1 ∙ ap (with_one (owner_of w s.waits)) c.1)
    (wakes_sits program (owner_of w s.waits) x.4 x.5 (event_counted d.lane) d.ready w p _ x.14 (goes_sits program s.tasks x.4 d.lane d.ready t x.0 _ (on_lane_of d.lane lane t on (eqb-true t lane.task is)) x.13 all))
event_sits program s s2 d d2 lane (parked t w bs) on is x y all = sits s2 _ d2 _ _ (tasks_of x.8) (then_left d y.0 d2 (same_place d2 _ y.3) (counts_place s d t y.0 y.2)) (leaves_sits s.tasks d.lane d.ready t _ (on_lane_of d.lane lane t on (eqb-true t lane.task is)) (waits_not w) all)
event_sits program s s2 d d2 lane (posted t w p v) on is x y all = sits s2 x.1 d2 _ _ (tasks_of x.6) (same_place d2 _ y.1) (goes_sits program s.tasks x.1 d.lane d.ready t x.0 _ (on_lane_of d.lane lane t on (eqb-true t lane.task is)) x.5 all)
event_sits program s s2 d d2 lane (settled w k side p v) on is x y all = absurd y
event_sits program s s2 d d2 lane (defaulted t v) on is x y all = sits s2 x.2 d2 _ _ (tasks_of x.7) (then_placed d y.0 d2 (same_place d2 _ y.2) (counts_place s d t y.0 y.1)) (goes_sits program s.tasks x.2 d.lane d.ready t x.0 _ (on_lane_of d.lane lane t on (eqb-true t lane.task is)) x.6 all)
event_sits program s s2 d d2 lane (closed t p) on is x y all = sits s2 x.1 d2 _ _ (tasks_of x.4) (same_place d2 _ y) (goes_sits program s.tasks x.1 d.lane d.ready t x.0 _ (on_lane_of d.lane lane t on (eqb-true t lane.task is)) x.3 all)
event_sits program s s2 d d2 lane (registered t name args v) on is x y all = sits s2 x.2 d2 _ _ (tasks_of x.6) (same_place d2 _ y) (goes_sits program s.tasks x.2 d.lane d.ready t x.0 _ (on_lane_of d.lane lane t on (eqb-true t lane.task is)) x.5 all)
event_sits program s s2 d d2 lane (printed t line) on is x y all = sits s2 x.1 d2 _ _ (tasks_of x.4) (same_place d2 _ y) (goes_sits program s.tasks x.1 d.lane d.ready t x.0 _ (on_lane_of d.lane lane t on (eqb-true t lane.task is)) x.3 all)
event_sits program s s2 d d2 lane (ticked m ports) on is x y all = absurd y
event_sits program s s2 d d2 lane (is_over t Ended) on is x y all = sits s2 _ d2 _ _ (tasks_of x.4) (same_place d2 _ y) (leaves_sits s.tasks d.lane d.ready t _ (on_lane_of d.lane lane t on (eqb-true t lane.task is)) over_not all)
event_sits program s s2 d d2 lane (is_over t (Faulted fault place result)) on is x y all = sits s2 _ d2 _ _ (tasks_of x.4) (same_place d2 _ y) (leaves_sits s.tasks d.lane d.ready t _ (on_lane_of d.lane lane t on (eqb-true t lane.task is)) over_not all)
