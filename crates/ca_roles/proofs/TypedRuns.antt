-- Along every legal journal of a checked program whose text is sealed, states are typed.
use Rattle.std.proofs.Common.{◌≡◌, ℕ, List, [], ◌∷◌, ◌++◌, refl, sym, subst, Bool, true, false, cond, Some, None, eqb, eqb-true}
use Rattle.std.specs.Map.{update}
use Rattle.ca_term.specs.Operation.{OpView}
use Rattle.ca_term.specs.Program.{ProgramView, IsProgram, known_in}
use Rattle.ca_term.specs.Event.{EventView}
use Rattle.ca_meaning.specs.Body.{new_body}
use Rattle.ca_meaning.specs.Task.{script}
use Rattle.ca_meaning.specs.State.{State, Task, runs, Opening}
use Rattle.ca_meaning.specs.Going.{RunsAtOperation}
use Rattle.ca_meaning.specs.Steps.{Step, Steps}
use Rattle.ca_meaning.specs.Legal.{Reaches}
use Rattle.ca_meaning.proofs.Tasks.{AllBodies}
use Rattle.ca_meaning.proofs.TaskBodies.{IsOf, reached_of}
use Rattle.ca_laws.proofs.Deeding.{Traced, traced_step, opening_traced}
use Rattle.ca_roles.specs.Roles.{Roles, no_roles}
use Rattle.ca_roles.specs.Sealed.{IsSealed}
use Rattle.ca_roles.specs.Typed.{TypedTask, MayAsk, Typed}
use Rattle.ca_roles.proofs.TypedBodies.{rest_typed}
use Rattle.ca_roles.proofs.TypedSteps.{may_ask, Onward, typed_step}
use Rattle.ca_roles.proofs.TypedTasks.{no_wait}

no_some : {A : Type 0} {G : Type 0} (x : A) → None ≡ Some x → G
no_some x e = absurd cc

-- at first no port has a role
pub opening_typed : (program : ProgramView) → IsProgram program → IsSealed program → (s : State) → Opening program s → Typed program no_roles s
opening_typed program checked sealed s o = subst (Typed program no_roles) (sym o.2) (record {
  tasks = task;
  held = λ p c e. no_some c e;
  posts = λ side p. tt;
  registries = λ p r e. no_some r e;
  deadlines = tt;
  absent = λ p c r. refl;
  channels = λ p c e. no_some c e;
  hidden_channels = λ p m h e. no_some _ e;
  ended = λ p m w c e. no_some _ e;
}) where
  main : TypedTask program no_roles 0 (runs None o.0)
  main = record {
    body = rest_typed program checked sealed 0 no_roles (script (new_body program.main)) o.0 o.1 (record { bound = checked.main_fits.bound; fits = checked.main_fits.fits }) (sealed.main 0);
    result = tt;
    waits = λ w op e at. no_wait w e;
  }

  task : (t : ℕ) (x : Task) → update eqb (λ n. None) 0 (Some (runs None o.0)) t ≡ Some x → TypedTask program no_roles t x
  task t x e = by (eqb 0 t) refl e where
    by : (b : Bool) → eqb 0 t ≡ b → cond b (Some (runs None o.0)) None ≡ Some x → TypedTask program no_roles t x
    by true i e =
        let same : runs None o.0 ≡ x = cc in
        subst (λ n. TypedTask program no_roles n x) (eqb-true 0 t i) (subst (TypedTask program no_roles 0) same main)
    by false i e = no_some x e

steps_more : (program : ProgramView) (s t u : State) (es : List EventView) (e : EventView) → Steps program s es t → Step program t e u → Steps program s (es ++ e ∷ []) u
steps_more program s t u [] e x k = (u, subst (λ z. Step program z e u) x k, refl)
steps_more program s t u (f ∷ es) e x k = (x.0, x.1, steps_more program x.0 t u es e x.2 k)

-- what is known of a state that is reached, with the roles of its ports
pub record Known (program : ProgramView) (journal : List EventView) (roles : Roles) (s : State) : Type 0 where
  pub reaches : Reaches program journal s
  pub traced : Traced journal s
  pub typed : Typed program roles s

module _ (program : ProgramView) (checked : IsProgram program) (sealed : IsSealed program) where
  pub opening_known : (s : State) → Opening program s → Known program [] no_roles s
  opening_known s o = record { reaches = record { opening = s; opens = o; steps = refl }; traced = opening_traced program s o; typed = opening_typed program checked sealed s o }

  pub bodies_known : (journal : List EventView) (roles : Roles) (s : State) → Known program journal roles s → AllBodies (IsOf (known_in checked.plain program)) s.tasks
  bodies_known journal roles s k = reached_of program checked journal s k.reaches

  pub asks_known : (journal : List EventView) (roles : Roles) (s : State) → Known program journal roles s → (t : ℕ) (op : OpView) (x : Task) → RunsAtOperation s t op x → MayAsk program roles x.body op
  asks_known journal roles s k = may_ask program checked sealed roles s k.typed (bodies_known journal roles s k)

  -- the next event
  pub step_known : (journal : List EventView) (roles : Roles) (s s2 : State) (e : EventView) → Known program journal roles s → Step program s e s2 → (more : Roles) × Onward program roles more s s2 e × Known program (journal ++ e ∷ []) more s2
  step_known journal roles s s2 e k x =
      let o = typed_step program checked sealed roles s s2 e k.typed k.traced.known.sound k.traced.stood (bodies_known journal roles s k) x in (
        o.0,
        o.1,
        record {
          reaches = record { opening = k.reaches.opening; opens = k.reaches.opens; steps = steps_more program k.reaches.opening s s2 journal e k.reaches.steps x };
          traced = traced_step program journal s s2 e x k.traced;
          typed = o.1.typed;
        },
      )
