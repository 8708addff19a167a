-- Each move leaves each running task in the lane or in the ready part.
use Rattle.std.proofs.Common.{◌≡◌, ◌⊎◌, inl, inr, ⊎_elim, ℕ, List, [], ◌∷◌, ◌++◌, refl, sym, ap, subst, Bool, true, false, cond, Option, Some, None, eqb, eqb-true}
use Rattle.ca_term.specs.Program.{ProgramView}
use Rattle.ca_term.specs.Event.{EventView}
use Rattle.ca_meaning.specs.Wait.{owner_of}
use Rattle.ca_meaning.specs.State.{State, Task, Tasks, running, Opening}
use Rattle.ca_meaning.specs.Solo.{Lane, Desk, joined_by}
use Rattle.ca_solo.specs.Stirs.{AmongPorts}
use Rattle.ca_solo.specs.Positions.{free, Position, first_position}
use Rattle.ca_solo.specs.Moves.{SoloMove, picks, is_in_time, is_late, waits_idle, makes_one, settles_one, passes_one, yields, rests}
use Rattle.ca_solo.specs.Alone.{PhaseFollows, Alone}
use Rattle.ca_solo.specs.Seats.{On, AllSit, TasksSeated}
use Rattle.ca_solo.proofs.Following.{follows_in}
use Rattle.ca_solo.proofs.Sitting.{in_more, in_last, with_one, wakes_sits, placed, joined_place, tasks_of, event_sits}

-- the moves
pub lane_free : (s : State) (d desk : Desk) → PhaseFollows s d desk free → desk.lane ≡ None
lane_free s d desk f = ap (λ (z : Desk). z.lane) f.0.2

picked_sits : (tasks : Tasks) (l : Option Lane) (ready rest : List ℕ) (t : ℕ) → l ≡ None → ready ≡ t ∷ rest → AllSit tasks l ready → AllSit tasks (Some (record { task = t; events = 0 })) rest
picked_sits tasks l ready rest t none e all u x at runs = by (subst (λ z. On z u ⊎ AmongPorts u (t ∷ rest)) none (subst (λ r. On l u ⊎ AmongPorts u r) e (all u x at runs))) where
  by : On None u ⊎ AmongPorts u (t ∷ rest) → (u ≡ t) ⊎ AmongPorts u rest
  by (inl o) = absurd o
  by (inr i) = i

yields_sits : (tasks : Tasks) (l : Option Lane) (ready : List ℕ) (lane : Lane) → l ≡ Some lane → AllSit tasks l ready → AllSit tasks None (ready ++ lane.task ∷ [])
yields_sits tasks l ready lane e all u x at runs = ⊎_elim (λ o. inr (let is : u ≡ lane.task = subst (λ z. On z u) e o in subst (λ n. AmongPorts u (ready ++ n ∷ [])) is (in_last u ready))) (λ i. inr (in_more u ready (lane.task ∷ []) i)) (all u x at runs)

pub move_seated : (program : ProgramView) (readings : List ℕ) (journal : List EventView) (w w2 : Position) (es : List EventView) → Alone program readings journal w → SoloMove program w w2 es → TasksSeated w → TasksSeated w2
move_seated program readings journal w w2 es a (picks x e) all =
    let f = follows_in program readings journal w free a x.2 in
    subst TasksSeated (sym x.4) (picked_sits w.state.tasks w.desk.lane w.desk.ready x.1 x.0 (lane_free w.state a.desk w.desk f) x.3 all)
move_seated program readings journal w w2 es a (is_in_time x e) all = subst TasksSeated (sym x.3) all
move_seated program readings journal w w2 es a (is_late m ports x e) all = subst TasksSeated (sym x.7) (subst (λ (z : Tasks). AllSit z w.desk.lane w.desk.ready) (sym (tasks_of x.5.4)) all)
move_seated program readings journal w w2 es a (waits_idle m ports x e) all = subst TasksSeated (sym x.8) (subst (λ (z : Tasks). AllSit z w.desk.lane w.desk.ready) (sym (tasks_of x.6.4)) all)
move_seated program readings journal w w2 es a (makes_one h x e) all = subst TasksSeated (sym x.9) (event_sits program w.state x.1 w.desk x.2 x.0 h x.4 x.6 x.7 x.8 all)
move_seated program readings journal w w2 es a (settles_one h x e) all =
    let o = owner_of x.2 w.state.waits in
    let j = joined_place o w.desk in
    subst TasksSeated (sym x.10) (placed x.6.tasks (joined_by o w.desk) w.desk.lane (with_one o w.desk.ready) j (subst (λ (z : Tasks). AllSit z w.desk.lane (with_one o w.desk.ready)) (sym (tasks_of x.9.9)) (wakes_sits program o w.state.tasks x.9.3 w.desk.lane w.desk.ready x.2 x.0 _ x.9.8 all)))
move_seated program readings journal w w2 es a (passes_one x e) all = subst TasksSeated (sym x.4) all
move_seated program readings journal w w2 es a (yields x e) all = subst TasksSeated (sym x.4) (yields_sits w.state.tasks w.desk.lane w.desk.ready x.0 x.2 all)
move_seated program readings journal w w2 es a (rests x e) all = subst TasksSeated (sym x.2) all

pub starts_seated : (program : ProgramView) (readings : List ℕ) (s : State) → Opening program s → TasksSeated (first_position readings s)
starts_seated program readings s o = subst (λ (z : State). TasksSeated (first_position readings z)) (sym o.2) (λ u x at runs. by u x (eqb 0 u) refl at) where
  by : (u : ℕ) (x : Task) (b : Bool) → eqb 0 u ≡ b → cond b (Some (record { result = None; body = o.0; mode = running })) None ≡ Some x → ⊥ ⊎ ((u ≡ 0) ⊎ ⊥)
  by u x true is e = inr (inl (sym (eqb-true 0 u is)))
  by u x false is e = absurd (let k : None ≡ Some x = e in cc)

-- nobody runs where the lane and the ready part are empty
pub nobody_runs : (w : Position) → TasksSeated w → w.desk.lane ≡ None → w.desk.ready ≡ [] → (t : ℕ) (x : Task) → w.state.tasks t ≡ Some x → x.mode ≡ running → ⊥
nobody_runs w all none empty t x at runs = by (subst (λ z. On z t ⊎ AmongPorts t []) none (subst (λ r. On w.desk.lane t ⊎ AmongPorts t r) empty (all t x at runs))) where
  by : On None t ⊎ AmongPorts t [] → ⊥
  by (inl o) = o
  by (inr i) = i
