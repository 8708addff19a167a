-- A task that was spawned with a given text.
use Rattle.std.specs.Prelude.{◌≡◌, ℕ, List, ◌∷◌, ◌++◌, Option}
use Rattle.ca_term.specs.declared.event.TaskKind.{TaskKind}
use Rattle.ca_term.specs.Operation.{SeedView}
use Rattle.ca_term.specs.Kernel.{Kernel}
use Rattle.ca_term.specs.Program.{ProgramView}
use Rattle.ca_term.specs.Event.{EventView, spawned}
use Rattle.ca_meaning.specs.Body.{new_body}
use Rattle.ca_meaning.specs.Task.{script, new_task}
use Rattle.ca_laws.specs.Rules.{SpawnsFrom}

-- in the journal a task was spawned as t, its body at its Spawn being this text
abbrev pub StartsAs : ProgramView → List EventView → ℕ → Kernel → Type 0
StartsAs program journal t text = (early : List EventView) × (late : List EventView) × (u : ℕ) × (kind : TaskKind) × (result : Option ℕ) × (seed : SeedView)
    × (journal ≡ early ++ spawned u t kind result ∷ late) × SpawnsFrom program early u seed × (new_task program seed ≡ script (new_body text))
