-- What is read from a source, and the program of a script.
use Rattle.std.specs.Prelude.{◌≡◌, ℕ, ◌≤◌, List, length, Option, Ok}
use Rattle.std.specs.Io.KnownBytes.{Consumes, IsAtEnd}
use Rattle.ca_term.specs.Program.{ProgramView}
use Rattle.ca_reader.specs.Form.{FormTrees}
use Rattle.ca_reader.specs.Reads.{Reads}
use Rattle.ca_derived.specs.Outcome.{made}
use Rattle.ca_derived.specs.Expand.{expand}
use Rattle.ca_check.specs.Expansion.{expansion_of}

-- the greatest length of a script, in bytes
abbrev pub greatest_length : ℕ
greatest_length = 1_048_576

-- that of an input of a script and a journal
abbrev pub greatest_input : ℕ
greatest_input = 67_108_864

-- the text reads to these forms, and they are expanded to those derived
abbrev pub Derives : List ℕ → FormTrees → Type 0
Derives input derived = (forms : FormTrees) × Reads input forms × (expand forms ≡ made derived)

-- the text is a script, and this is its program
abbrev pub ProgramOf : List ℕ → ProgramView → Type 0
ProgramOf input program = (derived : FormTrees) × Derives input derived × (expansion_of derived ≡ Ok program)

-- the text is a script that has a program
abbrev pub HasProgram : List ℕ → Type 0
HasProgram input = (program : ProgramView) × ProgramOf input program

-- this was read; it is all that the source had, and no longer than so many bytes
pub record ReadWhole (most : ℕ) (before after : Option (List ℕ)) (input : List ℕ) : Type 0 where
  pub read : Consumes before after input
  pub whole : IsAtEnd after
  pub short : length input ≤ most
