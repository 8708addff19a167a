-- What a reduce and a split may be over, so that no call of it comes to an operation.
use Rattle.std.specs.Prelude.{ℕ, None}
use Rattle.ca_term.specs.declared.head.Head.{Head}
use Rattle.ca_term.specs.Fits.{Suits, IsPlainHead}
use Rattle.ca_term.specs.Program.{ProgramView, IsProgram, known_in}

-- the program is a checked one, and in it the head is a builtin that takes so many values, or a plain function of so
-- many parameters
abbrev pub IsPlainFor : ProgramView → Head → ℕ → Type 0
IsPlainFor program f n = (checked : IsProgram program) × Suits (known_in checked.plain program) None f n × IsPlainHead checked.plain f
