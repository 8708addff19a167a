-- The clock reaches a moment.
use Rattle.std.proofs.Common.{◌≡◌, ℕ, suc, ◌≤◌, List, [], ◌∷◌, length, drop, refl, sym, ap, ap₂, ◌∙◌, subst, arith, Option, Some, None, OnSome, option_map, slice_get, true}
use Rattle.ca_value.specs.Deadlines.{Deadline, due, open_after}
use Rattle.ca_value.specs.declared.value.PortId.{PortId}
use Rattle.ca_timers.specs.Timers.{AreOrdered}
use Rattle.ca_timers.proofs.Order.{none_leaves, pop_leaves}
use Rattle.ca_term.specs.Event.{port_number, ticked}
use Rattle.ca_term.specs.Program.{ProgramView}
use Rattle.ca_meaning.specs.State.{State}
use Rattle.ca_meaning.specs.Steps.{Step}
use Rattle.ca_scene.specs.declared.scene.Scene.{Scene}
use Rattle.ca_scene.specs.Admits.{admits}
use Rattle.ca_scene.specs.Scene.{scene_state}
use Rattle.ca_scene.proofs.Soundly.{admitted}
use Rattle.ca_replay.specs.Changes.{Passes, ShutsAll}

length_zero : {X : Type 0} (xs : List X) → length xs ≡ 0 → slice_get xs 0 ≡ None
length_zero [] e = refl
length_zero (x ∷ xs) e = absurd (let k : suc (length xs) ≡ 0 = e in cc)

-- the first deadline was due, and is gone
pub popped_one : (m n : ℕ) (ds ds2 : List Deadline) (o : Option PortId) → AreOrdered ds → option_map port_number o ≡ slice_get (due m ds) 0 → OnSome o (ds2 ≡ drop 1 ds) → length (due m ds) ≡ suc n → AreOrdered ds2 × (open_after m ds2 ≡ open_after m ds) × (length (due m ds2) ≡ n)
popped_one m n ds ds2 o ordered is popped many = by (due m ds) refl o is popped where
  tail : (ds : List Deadline) → AreOrdered ds → AreOrdered (drop 1 ds)
  tail [] a = tt
  tail (d ∷ ds) a = a.1

  by : (xs : List ℕ) → due m ds ≡ xs → (o : Option PortId) → option_map port_number o ≡ slice_get (due m ds) 0 → OnSome o (ds2 ≡ drop 1 ds) → AreOrdered ds2 × (open_after m ds2 ≡ open_after m ds) × (length (due m ds2) ≡ n)
  by [] e o is popped = absurd (let k : 0 ≡ suc n = sym (ap (λ (z : List ℕ). length z) e) ∙ many in cc)
  by (x ∷ xs) e None is popped = absurd (let k : None ≡ Some x = is ∙ ap (λ (z : List ℕ). slice_get z 0) e in cc)
  by (x ∷ xs) e (Some p) is popped = let left = pop_leaves m ds p.n ordered (sym is) in
      let rest : due m (drop 1 ds) ≡ xs = left.0 ∙ ap (λ (z : List ℕ). drop 1 z) e in
      let count : suc (length xs) ≡ suc n = sym (ap (λ (z : List ℕ). length z) e) ∙ many in
      (subst AreOrdered (sym popped) (tail ds ordered), ap (open_after m) popped ∙ left.1, ap (λ (z : List Deadline). length (due m z)) popped ∙ ap (λ (z : List ℕ). length z) rest ∙ (let k : length xs ≡ n = omega (arith, count) in k))

-- none is left that is due
pub popped_all : (m : ℕ) (ds : List Deadline) → AreOrdered ds → length (due m ds) ≡ 0 → ds ≡ open_after m ds
popped_all m ds ordered e = sym (none_leaves m ds ordered (length_zero (due m ds) e))

pub passed_state : (s n : Scene) (m : ℕ) → n ≡ record s { timers = n.timers } → n.timers.deadlines ≡ open_after m s.timers.deadlines → n.timers.moment ≡ m → Passes (scene_state s) m (scene_state n)
passed_state s n m same d t = ap scene_state same ∙ ap₂ (λ ds k. record (scene_state s) { deadlines = ds; now = k }) d t

module _ (s s2 : State) (m : ℕ) (ports : List ℕ) (e : admits s (ticked m ports) ≡ true) (shuts : ShutsAll s ports s2) where
  pub tick_later : s2.now ≤ m
  tick_later = subst (λ k. k ≤ m) (sym (ap (λ (z : State). z.now) shuts)) (admitted s (ticked m ports) e).0

  pub tick_count : length ports ≡ length (due m s2.deadlines)
  tick_count = sym (ap (λ (z : State). length (due m z.deadlines)) shuts ∙ ap (λ (z : List ℕ). length z) (admitted s (ticked m ports) e).2)

  pub tick_step : (program : ProgramView) (s3 : State) → Passes s2 m s3 → Step program s (ticked m ports) s3
  tick_step program s3 passes =
      let a = admitted s (ticked m ports) e in
      (a.0, a.1, a.2, a.3, passes ∙ ap (λ (z : State). record z { deadlines = open_after m z.deadlines; now = m }) shuts)
