-- Each task but the main text is spawned once, so the values of its Spawn are its own.
use Rattle.std.specs.Prelude.{◌≡◌, ℕ, List, ◌∷◌, ◌++◌, Option}
use Rattle.ca_term.specs.declared.event.TaskKind.{TaskKind}
use Rattle.ca_term.specs.Event.{EventView, spawned}

abbrev pub SpawnedOnce : List EventView → Type 0
SpawnedOnce journal =
    (first middle last : List EventView) (t w u : ℕ) (kind other : TaskKind) (r q : Option ℕ) → journal ≡ first ++ spawned t u kind r ∷ (middle ++ spawned w u other q ∷ last) → ⊥
