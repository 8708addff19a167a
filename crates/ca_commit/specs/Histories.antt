-- What the workers of a run drew, in order, from its opening parts.
use Rattle.std.specs.Prelude.{◌≡◌, ℕ, List, [], ◌∷◌, ◌++◌, Option}
use Rattle.ca_value.specs.Tree.{Tree}
use Rattle.ca_term.specs.Program.{ProgramView}
use Rattle.ca_term.specs.Operation.{SeedView}
use Rattle.ca_term.specs.Event.{EventView}
use Rattle.ca_meaning.specs.Body.{At}
use Rattle.ca_commit.specs.Agents.{TaskAgent}
use Rattle.ca_commit.specs.Contents.{Content}
use Rattle.ca_commit.specs.Moving.{Moves, visible}
use Rattle.ca_commit.specs.Running.{AreAt, contents_written}
use Rattle.ca_commit.specs.Touched.{Drawn, touches}

-- a drawn event with the contents of what it touches, before and after
pub record Entry (A : Type 0) : Type 0 where
  pub drawn : Drawn
  pub before : List (Content (TaskAgent A))
  pub after : List (Content (TaskAgent A))

-- the journal that they amount to
abbrev pub journal : {A : Type 0} → List (Entry A) → List EventView
journal [] = []
journal (e ∷ es) = visible e.drawn.what ++ journal es

-- each event moves the contents that the ones before it left
abbrev pub EntriesFollow : {A : Type 0} → (A → At) → (ProgramView → A → A → Type 0) → (A → Tree → A → Type 0) → (ProgramView → SeedView → A → Type 0) → (ℕ → Option (Content (TaskAgent A))) → List (Entry A) → (ℕ → Option (Content (TaskAgent A))) → Type 0
EntriesFollow place advances gives starts now [] last = last ≡ now
EntriesFollow place advances gives starts now (e ∷ es) last = AreAt now (touches e.drawn) e.before × Moves place advances gives starts e.drawn e.before e.after × EntriesFollow place advances gives starts (contents_written now (touches e.drawn) e.after) es last
