-- The right operand of a builtin of two.
use Rattle.std.specs.Prelude.{ℕ, ◌<◌, List}
use Rattle.ca_value.specs.Tree.{Tree, int}
use Rattle.ca_states.specs.declared.slots.Operand.{Operand}
use Rattle.ca_states.specs.Machine.{read}

-- what it is, over these slots
abbrev pub operand_value : Operand → List Tree → Tree
operand_value (Operand.Slot a) s = read s a
operand_value (Operand.Int z) s = int z

-- its slot is one of so many
abbrev pub IsThere : Operand → ℕ → Type 0
IsThere (Operand.Slot a) width = a < width
IsThere (Operand.Int z) width = Unit {0}
