-- The task that a Spawn starts: what its text can start, and what its spawner's text can start by then.
use Rattle.std.proofs.Common.{◌≡◌, ℕ, suc, ◌+◌, ◌≤◌, [], ◌∷◌, ◌++◌, refl, sym, ap, ◌∙◌, subst, arith, Option, Some, None}
use Rattle.std.proofs.lemmas.Map.{update_here, update_apart}
use Rattle.ca_value.specs.Tree.{nil, port}
use Rattle.ca_term.specs.declared.event.TaskKind.{TaskKind}
use Rattle.ca_term.specs.Operation.{SeedView, go, system, spawning}
use Rattle.ca_term.specs.Program.{ProgramView, IsProgram, known_in}
use Rattle.ca_meaning.specs.Operands.{values_in}
use Rattle.ca_meaning.specs.Redex.{redex}
use Rattle.ca_meaning.specs.Body.{BodyView, fill}
use Rattle.ca_meaning.specs.Rest.{Rest}
use Rattle.ca_meaning.specs.Task.{TaskBody, script, system_task, body_fill, BodyRest, new_task}
use Rattle.ca_meaning.specs.TaskSteps.{SpawnStep}
use Rattle.ca_meaning.specs.State.{State, Task, Tasks, runs}
use Rattle.ca_meaning.specs.Going.{IsAtOp}
use Rattle.ca_meaning.proofs.Tasks.{AllBodies, tasks_of}
use Rattle.ca_meaning.proofs.TaskBodies.{IsOf}
use Rattle.ca_roles.specs.Roles.{Role, public, hidden, Roles, no_roles}
use Rattle.ca_roles.specs.Sealed.{Sealed, IsSealed}
use Rattle.ca_roles.specs.Once.{User, UsesOnce, StartsOnce}
use Rattle.ca_roles.specs.Typed.{TypedBody, MayAsk, Typed}
use Rattle.ca_roles.specs.SoleUsers.{own_of, owns}
use Rattle.ca_roles.proofs.Rested.{redex_sealed}
use Rattle.ca_roles.proofs.TypedBodies.{IsChecked, body_asks, rest_typed, start_checked}
use Rattle.ca_roles.proofs.Onces.{started_once}
use Rattle.ca_roles.proofs.Answered.{same_script, count, not_hidden, maker, steps_once, answered_count}
use Rattle.ca_roles.proofs.Owning.{rested_owns, system_starts}
use Rattle.ca_roles.proofs.Spending.{own_none, spends}

-- a number that isn't the maker's
apart_from : (m : ℕ) → m ≡ suc m → ⊥
apart_from m e = absurd (omega (arith, e))

module _ (program : ProgramView) (checked : IsProgram program) (sealed : IsSealed program) (starts : StartsOnce program) (roles : Roles) (s s2 : State) (typed : Typed program roles s) (bodies : AllBodies (IsOf (known_in checked.plain program)) s.tasks) (t n : ℕ) (kind : TaskKind) (result : Option ℕ) (x : SpawnStep program s t n kind result s2) where
  is_checked : (b : TaskBody) → IsOf (known_in checked.plain program) b → IsChecked (known_in checked.plain program) b
  is_checked (script b) k = k
  is_checked (system_task b) k = tt

  spawner_of : IsOf (known_in checked.plain program) x.0.body
  spawner_of = bodies t x.0 x.4.0

  may : MayAsk program roles x.0.body (spawning x.1)
  may = body_asks program checked sealed t roles s x.0.body (spawning x.1) (typed.tasks t x.0 x.4.0).body (is_checked x.0.body spawner_of) x.4.2 x.4.3

  new_checked : IsChecked (known_in checked.plain program) (new_task program x.1)
  new_checked = start_checked program checked sealed x.0.body x.1 spawner_of x.4.2

  -- whatever its number
  new_typed : (u : ℕ) → TypedBody program u roles x.3
  new_typed u = rest_typed program checked sealed u roles (new_task program x.1) x.3 x.9 new_checked (may.0 u)

  -- a go block's task can start nothing with a port that is there
  pub new_count : (d : BodyView) → x.3 ≡ script d → (k : User) (q : ℕ) → count k q d.term ≡ 0
  new_count d is k q = by (roles q) refl where
    text : (u : ℕ) → Sealed u roles d.term no_roles
    text u = subst (TypedBody program u roles) is (new_typed u)

    by : (o : Option Role) → roles q ≡ o → count k q d.term ≡ 0
    by None e = not_hidden k q 0 roles d.term (λ h j. let i : None ≡ Some (hidden 0 h) = sym e ∙ j in cc) (text 0)
    by (Some public) e = not_hidden k q 0 roles d.term (λ h j. let i : Some public ≡ Some (hidden 0 h) = sym e ∙ j in cc) (text 0)
    by (Some (hidden m y)) e = not_hidden k q (suc m) roles d.term (λ h j. let i : Some (hidden m y) ≡ Some (hidden (suc m) h) = sym e ∙ j in let f : m ≡ suc m = cc in apart_from m f) (text (suc m))

  pub new_once : (d : BodyView) → x.3 ≡ script d → UsesOnce d.term
  new_once d is = by x.1 (may.0 n) new_checked x.9 where
    by : (seed : SeedView) → TypedBody program n roles (new_task program seed) → IsChecked (known_in checked.plain program) (new_task program seed) → BodyRest program (new_task program seed) x.3 → UsesOnce d.term
    by (go number values port_of place) h c r =
        subst (λ (z : BodyView). UsesOnce z.term) (same_script r.0 d (sym r.2 ∙ is))
        (steps_once program checked sealed starts n roles r.1.reached c h (started_once n program.bodies number (values_in values ++ port port_of ∷ []) sealed.bodies starts.bodies))
    by (system k values place) h c r = absurd (let j : system_task r.0 ≡ script d = sym r.2 ∙ is in cc)

  -- a new user is one that the redex of its spawner's text counts
  pub new_user : (k : User) (q : ℕ) → own_of x.3 ≡ owns k q → (b : BodyView) × (x.0.body ≡ script b) × (1 ≤ count k q (redex b.term)) × Sealed t roles b.term no_roles
  new_user k q own = by x.0.body refl (typed.tasks t x.0 x.4.0).body x.4.2 where
    seed_owns : own_of (new_task program x.1) ≡ owns k q
    seed_owns = sym (rested_owns program (new_task program x.1) x.3 x.9) ∙ own

    by : (body : TaskBody) → x.0.body ≡ body → TypedBody program t roles body → IsAtOp body (spawning x.1) → (b : BodyView) × (x.0.body ≡ script b) × (1 ≤ count k q (redex b.term)) × Sealed t roles b.term no_roles
    by (script b) is h stands = (b, is, spends program t roles s q k b x.1 stands.0 stands.1 x.4.3 h seed_owns, h)
    by (system_task b) is h stands = own_none k q (sym (system_starts program b x.1 stands) ∙ seed_owns)

  -- the spawner, after the event
  spawner_after : s2.tasks t ≡ Some (runs x.0.result x.8.0)
  spawner_after =
      ap (λ (z : Tasks). z t) (tasks_of x.10) ∙ update_apart x.2 n (Some (runs result x.3)) t (λ e. let j : None ≡ Some x.0 = sym x.5 ∙ ap s.tasks (sym e) ∙ x.4.0 in cc)
      ∙ ap (λ (z : Tasks). z t) x.8.2 ∙ update_here s.tasks t (Some (runs x.0.result x.8.0))

  -- its text can start no other such user
  pub spawner_spent : (k : User) (q : ℕ) → own_of x.3 ≡ owns k q → ((b : BodyView) → x.0.body ≡ script b → UsesOnce b.term × (count k q b.term ≤ 1)) → (y : Task) (d : BodyView) → s2.tasks t ≡ Some y → y.body ≡ script d → count k q d.term ≡ 0
  spawner_spent k q own before y d there is = by u.0 u.1 u.2 u.3 x.8.1 x.4.2 where
    u : (b : BodyView) × (x.0.body ≡ script b) × (1 ≤ count k q (redex b.term)) × Sealed t roles b.term no_roles
    u = new_user k q own

    after_is : x.8.0 ≡ script d
    after_is = ap (λ (z : Task). z.body) (let j : Some (runs x.0.result x.8.0) ≡ Some y = sym spawner_after ∙ there in let i : runs x.0.result x.8.0 ≡ y = cc in i) ∙ is

    none_left : (c r a : ℕ) → c + r ≤ a → a ≤ 1 → 1 ≤ r → c ≡ 0
    none_left c r a l m o = omega (arith, l, m, o)

    by : (b : BodyView) → x.0.body ≡ script b → 1 ≤ count k q (redex b.term) → Sealed t roles b.term no_roles → BodyRest program (body_fill nil x.0.body) x.8.0 → IsAtOp x.0.body (spawning x.1) → count k q d.term ≡ 0
    by b at_script one text rest stands = at_rest (subst (λ z. BodyRest program (body_fill nil z) x.8.0) at_script rest) (subst (λ z. IsAtOp z (spawning x.1)) at_script stands) where
      private : roles q ≡ Some public → ⊥
      private e = let m = maker k q t roles (redex b.term) (redex_sealed t roles b.term text) one in let j : Some public ≡ Some (hidden t m.0) = sym e ∙ m.1 in cc

      at_rest : BodyRest program (script (fill nil b)) x.8.0 → IsAtOp (script b) (spawning x.1) → count k q d.term ≡ 0
      at_rest r st =
          let known_once = before b at_script in
          let rest_is = subst (Rest program (fill nil b)) (same_script r.0 d (sym r.2 ∙ after_is)) r.1 in
          none_left (count k q d.term) (count k q (redex b.term)) (count k q b.term)
          (answered_count program checked sealed starts t roles b d (subst (IsOf (known_in checked.plain program)) at_script spawner_of) text known_once.0 nil (spawning x.1) st.0 st.1 (λ what e. cc) tt rest_is k q private known_once.1) known_once.1 one
