-- What holds of a task's term as long as it runs.
use Rattle.std.specs.Prelude.{ℕ, [], Bool, Option, None}
use Rattle.ca_term.specs.declared.head.Head.{Head}
use Rattle.ca_term.specs.Kernel.{Kernel}
use Rattle.ca_term.specs.Closed.{IsClosed}
use Rattle.ca_term.specs.Fits.{Fits, IsOrderly, Suits}
use Rattle.ca_term.specs.Program.{ProgramView, IsProgram, known_in}

-- no name is free, and each head is one that S admits there
pub record IsBodyBy (S : Option ℕ → Head → ℕ → Type 0) (t : Kernel) : Type 0 where
  pub bound : IsClosed [] t
  pub fits : Fits S None t

-- What can be told without a program: no name is free, each recur stands in tail position of a loop and has
-- its arity, and each builtin takes so many values.
abbrev pub IsBody : Kernel → Type 0
IsBody t = IsBodyBy IsOrderly t

-- A body of a checked program: the same, and each function and each go body that the term names is there and
-- takes so many values.
pub record IsBodyOf (program : ProgramView) (t : Kernel) : Type 0 where
  pub checked : IsProgram program
  pub plain : ℕ → Bool
  pub suits : IsBodyBy (Suits (known_in plain program)) t
