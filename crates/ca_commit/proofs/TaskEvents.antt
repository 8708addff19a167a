-- Lines, what is made and started, and registries: such events that move the parts they touch are steps.
use Rattle.std.proofs.Common.{◌≡◌, ℕ, List, refl, ap, cond, Option, Some, None, eqb}
use Rattle.std.specs.Map.{update}
use Rattle.ca_value.specs.Tree.{Tree, Trees, nil}
use Rattle.ca_term.specs.Program.{ProgramView}
use Rattle.ca_term.specs.declared.head.RegisterName.{RegisterName}
use Rattle.ca_term.specs.Operation.{printing, registering}
use Rattle.ca_term.specs.Event.{EventView, printed, registered}
use Rattle.ca_meaning.specs.Body.{At}
use Rattle.ca_meaning.specs.Operands.{port_of_value, first_of, rest_of}
use Rattle.ca_meaning.specs.Registry.{Registry, answers, refuses}
use Rattle.ca_meaning.specs.Refusal.{registered_at}
use Rattle.ca_term.specs.declared.fault.Fault.TheVariants.{NotAPort}
use Rattle.ca_meaning.specs.Task.{TaskBody}
use Rattle.ca_meaning.specs.State.{State, runs}
use Rattle.ca_meaning.specs.Steps.{Step}
use Rattle.ca_commit.specs.Contents.{Parts, whole}
use Rattle.ca_commit.specs.Stands.{Stands, port_count}
use Rattle.ca_commit.specs.TaskMoves.{MovesPrint, MovesRegister}
use Rattle.ca_commit.proofs.AgentLaws.{GoesOn, TakesAnswers}
use Rattle.ca_commit.proofs.Answering.{goes_to, stands_at}
use Rattle.ca_commit.proofs.Laid.{IsPart, laid_parts}
use Rattle.ca_commit.proofs.Landing.{altered, unaltered}
use Rattle.ca_commit.proofs.Numbers.{From, from_same, from_there}
use Rattle.ca_commit.proofs.Shown.{shown_by, shows}
use Rattle.ca_commit.proofs.Steps.{went}

-- an event that leads from s to a state that the parts stand for
abbrev pub Leads : {A : Type 0} → (A → At) → (ProgramView → A → Option ℕ → TaskBody → Type 0) → ProgramView → ℕ → Parts A → State → EventView → Type 0
Leads place stands program n after s e = (s2 : State) × Step program s e s2 × Stands place stands program n after s2

module _ {A : Type 0} (place : A → At) (stands : ProgramView → A → Option ℕ → TaskBody → Type 0) (program : ProgramView) (n : ℕ)
    (advances : ProgramView → A → A → Type 0) (goes_on_law : GoesOn stands place advances) (gives : A → Tree → A → Type 0) (answers_law : TakesAnswers stands place gives) where
  pub print_steps : (now old new : Parts A) (s : State) (w t : ℕ) (line : List ℕ) → Stands place stands program n now s → IsPart old now → MovesPrint place advances gives w t line old new → Leads place stands program n (laid_parts now new) s (printed t line)
  print_steps now old new s w t line st part m = let op = printing line in let g = went place stands program n advances goes_on_law gives answers_law now old new s w t op nil st part m.answers in
      let tasks = update eqb s.tasks t (Some (runs g.0.result g.4.0)) in let s2 : State = record s { tasks = tasks } in (
        s2,
        (g.0, tasks, stands_at place stands program n advances goes_on_law gives answers_law now old new s w t op nil st part m.answers g refl, (g.4.0, g.4.1, refl), refl),
        goes_to place stands program n advances goes_on_law gives answers_law now old new s s2 w t op nil (whole now.bank) (whole now.registry) st part m.answers g m.counts refl refl refl refl refl
            (unaltered now.bank old.bank new.bank part.banks m.banks) (unaltered now.registry old.registry new.registry part.registries m.registries) m.shards m.readys m.timers st.holds st.registered
            (from_same n port_count (update eqb now.lane w (Some m.answers.stands.lane2)) s.channels) (from_same n port_count (update eqb now.lane w (Some m.answers.stands.lane2)) s.registries),
      )

  pub register_steps : (now old new : Parts A) (s : State) (w t : ℕ) (name : RegisterName) (args : Trees) (v : Tree) → Stands place stands program n now s → IsPart old now → MovesRegister place advances gives w t name args v old new → Leads place stands program n (laid_parts now new) s (registered t name args v)
  register_steps now old new s w t name args v st part m = let op = registering name args in let p = port_of_value (first_of args) in let g = went place stands program n advances goes_on_law gives answers_law now old new s w t op v st part m.acts in
      let tasks = update eqb s.tasks t (Some (runs g.0.result g.4.0)) in let s2 : State = record s { tasks = tasks; registries = update eqb s.registries p (Some m.registry) } in
      let held = shows now old s (shown_by st) part in (
        s2,
        (g.0, m.registry, tasks, stands_at place stands program n advances goes_on_law gives answers_law now old new s w t op v st part m.acts g refl, m.by_table s held, (g.4.0, g.4.1, refl), refl),
        goes_to place stands program n advances goes_on_law gives answers_law now old new s s2 w t op v (whole now.bank) (update eqb (whole now.registry) p (Some m.registry)) st part m.acts g m.counts refl refl refl refl refl
            (unaltered now.bank old.bank new.bank part.banks m.banks) (altered now.registry old.registry new.registry p (Some m.registry) part.registries m.registries) m.shards m.readys m.timers st.holds
            (λ q. ap (λ o. cond (eqb p q) (Some m.registry) o) (st.registered q))
            (from_same n port_count (update eqb now.lane w (Some m.acts.stands.lane2)) s.channels) (by (s.registries p) refl (m.by_table s held)),
      ) where
        by : (o : Option Registry) → s.registries (port_of_value (first_of args)) ≡ o → registered_at s o name (rest_of args) ≡ answers v m.registry → From n port_count (update eqb now.lane w (Some m.acts.stands.lane2)) s.registries (update eqb s.registries (port_of_value (first_of args)) (Some m.registry))
        by (Some r) e k = from_there n port_count (update eqb now.lane w (Some m.acts.stands.lane2)) s.registries (port_of_value (first_of args)) r m.registry e
        by None e k = absurd (let z : refuses NotAPort ≡ answers v m.registry = k in cc)
