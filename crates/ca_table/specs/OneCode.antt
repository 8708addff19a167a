-- All agents of a run are over one code: an agent's relations with that, and the parts that say which code it is.
use Rattle.std.specs.Prelude.{◌≡◌, List, [], ◌∷◌}
use Rattle.ca_value.specs.Tree.{Tree}
use Rattle.ca_term.specs.Operation.{SeedView}
use Rattle.ca_term.specs.Program.{ProgramView}
use Rattle.ca_meaning.specs.Task.{TaskBody}
use Rattle.ca_states.specs.Code.{CodeView}
use Rattle.ca_table.specs.Seen.{PartSeen}

module _ {A : Type 0} (over : CodeView → A → Type 0) (code : CodeView) where
  -- it stands for the body, and is over the code
  abbrev pub stands_over : (ProgramView → A → TaskBody → Type 0) → ProgramView → A → TaskBody → Type 0
  stands_over stands program a b = stands program a b × over code a

  -- it goes on, and stays over the code
  abbrev pub advances_over : (ProgramView → A → A → Type 0) → ProgramView → A → A → Type 0
  advances_over advances program a c = advances program a c × (over code a → over code c)

  abbrev pub gives_over : (A → Tree → A → Type 0) → A → Tree → A → Type 0
  gives_over gives a v c = gives a v c × (over code a → over code c)

  -- it is new, and over the code
  abbrev pub starts_over : (ProgramView → SeedView → A → Type 0) → ProgramView → SeedView → A → Type 0
  starts_over starts program seed a = starts program seed a × over code a

module _ {A : Type 0} (code : CodeView) where
  -- each of these parts has the code
  abbrev pub HaveCode : List (PartSeen A) → Type 0
  HaveCode [] = Unit {0}
  HaveCode (p ∷ ps) = (p.code ≡ code) × HaveCode ps

  -- before an event and after it
  abbrev pub AllCoded : List (PartSeen A) → List (PartSeen A) → Type 0
  AllCoded before after = HaveCode before × HaveCode after
