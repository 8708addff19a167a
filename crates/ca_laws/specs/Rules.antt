-- A rule of a task says which operations it may ask for, after all that it did.
use Rattle.std.specs.Prelude.{◌≡◌, ℕ, List, ◌∷◌, ◌++◌, ◌⊎◌, Option, Some}
use Rattle.ca_value.specs.Tree.{Trees}
use Rattle.ca_term.specs.declared.event.TaskKind.{TaskKind}
use Rattle.ca_term.specs.declared.head.SystemTask.{SystemTask}
use Rattle.ca_term.specs.declared.event.Ending.{Ending}
use Rattle.ca_term.specs.declared.place.Place.{Place}
use Rattle.ca_term.specs.Operation.{OpView, SeedView, system, spawning}
use Rattle.ca_term.specs.Program.{ProgramView}
use Rattle.ca_term.specs.Event.{EventView, spawned}
use Rattle.ca_meaning.specs.State.{State, Task}
use Rattle.ca_meaning.specs.TaskSteps.{kind_of_system}
use Rattle.ca_meaning.specs.Going.{IsAtOp, RunsAtOperation}
use Rattle.ca_meaning.specs.Legal.{Reaches}
use Rattle.ca_laws.specs.Deeds.{Deed, did_end, deeds, IsDeedOf}

-- a deed is of an operation that the rule allows after those before it, or it is the task's end
abbrev pub IsAllowed : (List Deed → OpView → Type 0) → List Deed → Deed → Type 0
IsAllowed Rule before d = ((op : OpView) × Rule before op × IsDeedOf op d) ⊎ ((how : Ending) × (d ≡ did_end how))

-- task t of the state keeps to the rule: in all that it did by the journal, and at the operation at which it stands
pub record KeepsTo (Rule : List Deed → OpView → Type 0) (t : ℕ) (journal : List EventView) (s : State) : Type 0 where
  pub did : (before after : List Deed) (d : Deed) → deeds t journal ≡ before ++ d ∷ after → IsAllowed Rule before d
  pub task : Task
  pub there : s.tasks t ≡ Some task
  pub asks : (op : OpView) → IsAtOp task.body op → Rule (deeds t journal) op

-- after the first events task u stands at spawning from this seed
pub record SpawnsFrom (program : ProgramView) (early : List EventView) (u : ℕ) (seed : SeedView) : Type 0 where
  pub before : State
  pub reaches : Reaches program early before
  pub spawner : Task
  pub stands : RunsAtOperation before u (spawning seed) spawner

-- each task of the kind that is spawned in the journal keeps to the rule for the values and the place of its Spawn
abbrev pub AllKeepTo : SystemTask → (Trees → Place → List Deed → OpView → Type 0) → ProgramView → List EventView → State → Type 0
AllKeepTo kind Rule program journal s =
    (early late : List EventView) (u t : ℕ) (result : Option ℕ) → journal ≡ early ++ spawned u t (kind_of_system kind) result ∷ late
    → (values : Trees) × (place : Place) × SpawnsFrom program early u (system kind values place) × KeepsTo (Rule values place) t journal s

-- the same of a kind that has more to it than its word, as a publication's function, which its seed tells
abbrev pub AllKeepToOf : {F : Type 0} → (F → SystemTask) → (F → Trees → Place → List Deed → OpView → Type 0) → TaskKind → ProgramView → List EventView → State → Type 0
AllKeepToOf {F} kind Rule word program journal s =
    (early late : List EventView) (u t : ℕ) (result : Option ℕ) → journal ≡ early ++ spawned u t word result ∷ late
    → (f : F) × (values : Trees) × (place : Place) × SpawnsFrom program early u (system (kind f) values place) × KeepsTo (Rule f values place) t journal s
