-- Each event leaves the users of ports sole.
use Rattle.std.proofs.Common.{◌≡◌, ◌⊎◌, inl, inr, ℕ, ◌≤◌, refl, sym, ap, ◌∙◌, subst, arith, Bool, true, false, Option, Some, None, eqb, eqb-true, eq-eqb}
use Rattle.std.proofs.lemmas.Map.{update_here}
use Rattle.ca_term.specs.declared.event.TaskKind.{TaskKind}
use Rattle.ca_term.specs.Program.{ProgramView, IsProgram, known_in}
use Rattle.ca_term.specs.Event.{EventView, spawned}
use Rattle.ca_meaning.specs.Body.{BodyView}
use Rattle.ca_meaning.specs.Task.{TaskBody, script, new_task}
use Rattle.ca_meaning.specs.TaskSteps.{SpawnStep}
use Rattle.ca_meaning.specs.State.{State, Task, Tasks, runs}
use Rattle.ca_meaning.specs.Steps.{Step}
use Rattle.ca_meaning.specs.Sound.{Sound}
use Rattle.ca_meaning.proofs.Tasks.{AllBodies, tasks_of}
use Rattle.ca_meaning.proofs.TaskBodies.{IsOf}
use Rattle.ca_laws.specs.Deeds.{deed}
use Rattle.ca_laws.proofs.Acts.{wait_of, Acts}
use Rattle.ca_laws.proofs.Acted.{acts}
use Rattle.ca_laws.proofs.Deeding.{comes}
use Rattle.ca_laws.proofs.Stood.{AllStood}
use Rattle.ca_roles.specs.Roles.{Hidden, Role, public, hidden, Roles, no_roles, Grows}
use Rattle.ca_roles.specs.Sealed.{Sealed, IsSealed}
use Rattle.ca_roles.specs.Once.{User, UsesOnce, StartsOnce}
use Rattle.ca_roles.specs.Typed.{TypedBody, Typed}
use Rattle.ca_roles.specs.SoleUsers.{own_of, owns, IsUser, AreSole}
use Rattle.ca_roles.proofs.Answered.{count, not_hidden, IsOfProgram}
use Rattle.ca_roles.proofs.Owning.{rested_owns}
use Rattle.ca_roles.proofs.Moving.{ScriptsGetPublic, Moved, was_script, moved_once, moved_count, moved_new}
use Rattle.ca_roles.proofs.Sole.{Spent, user_hidden, same_task, acts_own, made_by, none_before}
use Rattle.ca_roles.proofs.Coming.{new_count, new_once, spawner_spent}
use Rattle.ca_roles.proofs.Counted.{at_most}

module _ (program : ProgramView) (checked : IsProgram program) (sealed : IsSealed program) (starts : StartsOnce program) (roles more : Roles) (s s2 : State) (e : EventView) (typed : Typed program roles s) (after : Typed program more s2) (grows : Grows roles more) (bodies : AllBodies (IsOf (known_in checked.plain program)) s.tasks) (sound : Sound s) (stood : AllStood s) (answers : ScriptsGetPublic roles s e) (step : Step program s e s2) (h : Spent s) where
  -- a task that was there
  old : (t : ℕ) (x y : Task) → s.tasks t ≡ Some x → s2.tasks t ≡ Some y → Acts program x y (deed t (wait_of x.mode) e)
  old t x y there now = let a = acts program s s2 t x there stood sound.waited e step in subst (λ z. Acts program x z (deed t (wait_of x.mode) e)) (same_task a.0 y (sym a.1 ∙ now)) a.2

  -- a new one
  abbrev New : ℕ → Task → Type 0
  New t y = (u : ℕ) × (kind : TaskKind) × (result : Option ℕ) × (e ≡ spawned u t kind result) × (x : SpawnStep program s u t kind result s2) × (y.body ≡ x.3)

  new : (t : ℕ) (y : Task) → s.tasks t ≡ None → s2.tasks t ≡ Some y → New t y
  new t y absent now = by (comes program s s2 t absent e step) where
    by : (s2.tasks t ≡ None) ⊎ ((u : ℕ) × (kind : TaskKind) × (result : Option ℕ) × (b : TaskBody) × (e ≡ spawned u t kind result) × (s2.tasks t ≡ Some (runs result b))) → New t y
    by (inl z) = absurd (let j : None ≡ Some y = sym z ∙ now in cc)
    by (inr z) =
        let x = subst (λ i. Step program s i s2) z.4 step in
        (z.0, z.1, z.2, z.4, x, ap (λ (i : Task). i.body) (same_task y (runs z.2 x.3) (sym now ∙ ap (λ (f : Tasks). f t) (tasks_of x.10) ∙ update_here x.2 t (Some (runs z.2 x.3)))))

  text_of : (t : ℕ) (x : Task) (b : BodyView) → s.tasks t ≡ Some x → x.body ≡ script b → Sealed t roles b.term no_roles
  text_of t x b there is = subst (TypedBody program t roles) is (typed.tasks t x there).body

  fits_of : (t : ℕ) (x : Task) (b : BodyView) → s.tasks t ≡ Some x → x.body ≡ script b → IsOfProgram program checked sealed starts t b.term
  fits_of t x b there is = subst (IsOf (known_in checked.plain program)) is (bodies t x there)

  was : (t : ℕ) (x y : Task) (d : BodyView) → s.tasks t ≡ Some x → s2.tasks t ≡ Some y → y.body ≡ script d → (b : BodyView) × (x.body ≡ script b) × Moved program roles b d
  was t x y d there now is = was_script program roles s s2 e typed step answers t x y d there (old t x y there now) is

  texts : (t : ℕ) (y : Task) (d : BodyView) → s2.tasks t ≡ Some y → y.body ≡ script d → UsesOnce d.term
  texts t y d now is = by (s.tasks t) refl where
    by : (o : Option Task) → s.tasks t ≡ o → UsesOnce d.term
    by (Some x) there = let w = was t x y d there now is in moved_once program checked sealed starts t roles w.0 d (fits_of t x w.0 there w.1) (text_of t x w.0 there w.1) (h.texts t x w.0 there w.1) w.2
    by None there = let n = new t y there now in new_once program checked sealed starts roles s s2 typed bodies n.0 t n.1 n.2 n.4 d (sym n.5 ∙ is)

  none_new : (t : ℕ) (y : Task) (d : BodyView) (k : User) (q : ℕ) → s.tasks t ≡ None → s2.tasks t ≡ Some y → y.body ≡ script d → count k q d.term ≡ 0
  none_new t y d k q there now is = let n = new t y there now in new_count program checked sealed starts roles s s2 typed bodies n.0 t n.1 n.2 n.4 d (sym n.5 ∙ is) k q

  -- of a hidden port no text can start more than it could
  fewer : (t : ℕ) (x y : Task) (b d : BodyView) (k : User) (q m : ℕ) (i : Hidden) → roles q ≡ Some (hidden m i) → s.tasks t ≡ Some x → x.body ≡ script b → Moved program roles b d → count k q d.term ≤ count k q b.term
  fewer t x y b d k q m i role there is w = moved_count program checked sealed starts t roles b d (fits_of t x b there is) (text_of t x b there is) (h.texts t x b there is) k q m i role (h.once t x b k q there is) w

  through : (a b : ℕ) → a ≤ b → b ≤ 1 → a ≤ 1
  through a b l m = omega (arith, l, m)

  none_left : (a b : ℕ) → a ≤ b → b ≡ 0 → a ≡ 0
  none_left a b l e = omega (arith, l, e)

  once : (t : ℕ) (y : Task) (d : BodyView) (k : User) (q : ℕ) → s2.tasks t ≡ Some y → y.body ≡ script d → count k q d.term ≤ 1
  once t y d k q now is = by (s.tasks t) refl where
    at_role : (x : Task) (b : BodyView) → s.tasks t ≡ Some x → x.body ≡ script b → Moved program roles b d → (r : Option Role) → roles q ≡ r → count k q d.term ≤ 1
    at_role x b there i w None role = moved_new program checked sealed starts t roles b d (fits_of t x b there i) (text_of t x b there i) (h.texts t x b there i) k q role w
    at_role x b there i w (Some public) role = at_most (count k q d.term) (not_hidden k q t more d.term (λ z j. let g : Some public ≡ Some (hidden t z) = sym (grows q public role) ∙ j in cc) (subst (TypedBody program t more) is (after.tasks t y now).body))
    at_role x b there i w (Some (hidden m z)) role = through (count k q d.term) (count k q b.term) (fewer t x y b d k q m z role there i w) (h.once t x b k q there i)

    by : (o : Option Task) → s.tasks t ≡ o → count k q d.term ≤ 1
    by (Some x) there = let w = was t x y d there now is in at_role x w.0 there w.1 w.2 (roles q) refl
    by None there = at_most (count k q d.term) (none_new t y d k q there now is)

  -- a user that was there
  user_was : (u : ℕ) (x y : Task) (k : User) (q : ℕ) → s.tasks u ≡ Some x → s2.tasks u ≡ Some y → own_of y.body ≡ owns k q → IsUser s k q u
  user_was u x y k q there now own = (x, there, sym (acts_own program x y (deed u (wait_of x.mode) e) (old u x y there now)) ∙ own)

  spent_by_old : (t u : ℕ) (x y : Task) (d : BodyView) (k : User) (q : ℕ) → s.tasks t ≡ Some x → s2.tasks t ≡ Some y → y.body ≡ script d → IsUser s k q u → count k q d.term ≡ 0
  spent_by_old t u x y d k q there now is user =
      let w = was t x y d there now is in
      let role = user_hidden program u roles user.0.body k q (typed.tasks u user.0 user.1).body user.2 in
      none_left (count k q d.term) (count k q w.0.term) (fewer t x y w.0 d k q role.0 role.1 role.2 there w.1 w.2) (h.spent t u x w.0 k q there w.1 user)

  -- of the spawner of a new user, and of another task
  spent_by_new : (t u : ℕ) (x y z : Task) (d : BodyView) (k : User) (q : ℕ) → s.tasks t ≡ Some x → s2.tasks t ≡ Some y → y.body ≡ script d → New u z → own_of z.body ≡ owns k q → count k q d.term ≡ 0
  spent_by_new t u x y z d k q there now is n own = by (eqb n.0 t) refl where
    its : own_of n.4.3 ≡ owns k q
    its = sym (ap own_of n.5) ∙ own

    by : (b : Bool) → eqb n.0 t ≡ b → count k q d.term ≡ 0
    by true i = spawner_spent program checked sealed starts roles s s2 typed bodies n.0 u n.1 n.2 n.4 k q its (λ b at. (h.texts n.0 n.4.0 b n.4.4.0 at, h.once n.0 n.4.0 b k q n.4.4.0 at)) y d (ap s2.tasks (eqb-true n.0 t i) ∙ now) is
    by false i =
        let w = was t x y d there now is in
        let m = made_by program sealed roles s typed h n.0 n.4.0 n.4.1 n.4.4 k q (sym (rested_owns program (new_task program n.4.1) n.4.3 n.4.9) ∙ its) in
        let apart : count k q w.0.term ≡ 0 = not_hidden k q t roles w.0.term (λ a j. let g : Some (hidden n.0 m.0) ≡ Some (hidden t a) = sym m.1 ∙ j in let f : n.0 ≡ t = cc in let c : true ≡ false = sym (eq-eqb n.0 t f) ∙ i in cc) (text_of t x w.0 there w.1) in
        none_left (count k q d.term) (count k q w.0.term) (fewer t x y w.0 d k q n.0 m.0 m.1 there w.1 w.2) apart

  spent : (t u : ℕ) (y : Task) (d : BodyView) (k : User) (q : ℕ) → s2.tasks t ≡ Some y → y.body ≡ script d → IsUser s2 k q u → count k q d.term ≡ 0
  spent t u y d k q now is user = by (s.tasks t) (s.tasks u) refl refl where
    by : (o p : Option Task) → s.tasks t ≡ o → s.tasks u ≡ p → count k q d.term ≡ 0
    by None p there at = none_new t y d k q there now is
    by (Some x) (Some z) there at = spent_by_old t u x y d k q there now is (user_was u z user.0 k q at user.1 user.2)
    by (Some x) None there at = spent_by_new t u x y user.0 d k q there now is (new u user.0 at user.1) user.2

  -- a new user is the first
  first_user : (t u : ℕ) (y : Task) (k : User) (q : ℕ) → New t y → own_of y.body ≡ owns k q → IsUser s k q u → ⊥
  first_user t u y k q n own user = none_before program sealed roles s typed h n.0 n.4.0 n.4.1 n.4.4 k q (sym (rested_owns program (new_task program n.4.1) n.4.3 n.4.9) ∙ sym (ap own_of n.5) ∙ own) u user

  same_new : (t u : ℕ) (y z : Task) → New t y → New u z → t ≡ u
  same_new t u y z a b = let j : spawned a.0 t a.1 a.2 ≡ spawned b.0 u b.1 b.2 = sym a.3 ∙ b.3 in cc

  sole : AreSole s2
  sole k q t u a b = by (s.tasks t) (s.tasks u) refl refl where
    by : (o p : Option Task) → s.tasks t ≡ o → s.tasks u ≡ p → t ≡ u
    by (Some x) (Some z) there at = h.sole k q t u (user_was t x a.0 k q there a.1 a.2) (user_was u z b.0 k q at b.1 b.2)
    by (Some x) None there at = absurd (first_user u t b.0 k q (new u b.0 at b.1) b.2 (user_was t x a.0 k q there a.1 a.2))
    by None (Some z) there at = absurd (first_user t u a.0 k q (new t a.0 there a.1) a.2 (user_was u z b.0 k q at b.1 b.2))
    by None None there at = same_new t u a.0 b.0 (new t a.0 there a.1) (new u b.0 at b.1)

  pub spent_step : Spent s2
  spent_step = record { texts = texts; once = once; spent = spent; sole = sole }
