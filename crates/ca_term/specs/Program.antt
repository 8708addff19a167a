-- A program as plain data: its functions and its go bodies by number, and its main text.
use Rattle.std.specs.Prelude.{◌≡◌, ℕ, suc, List, [], ◌∷◌, map, length, All, None, Bool, true}
use Rattle.ca_value.specs.Seq.{list}
use Rattle.ca_value.specs.declared.seq.Seq.{Seq}
use Rattle.ca_term.specs.Kernel.{Kernel}
use Rattle.ca_term.specs.Closed.{IsClosed}
use Rattle.ca_term.specs.Fits.{Known, Suits, Fits, BindsAnew, IsPlain}
use Rattle.ca_term.specs.Source.{IsSource}
use Rattle.ca_term.specs.View.{kernel}
use Rattle.ca_term.specs.declared.term.Term.{Term}
use Rattle.ca_term.specs.declared.program.Procedure.{Procedure}

-- a text that is started with values, which are put in for the parameters
pub record ProcedureView : Type 0 where
  pub parameters : List ℕ
  pub body : Kernel

pub record ProgramView : Type 0 where
  pub functions : List ProcedureView
  pub bodies : List ProcedureView
  pub main : Kernel

abbrev pub arity : ProcedureView → ℕ
arity t = length t.parameters

-- what the terms of the program may name
abbrev pub known_in : (ℕ → Bool) → ProgramView → Known
known_in plain p = record { functions = map arity p.functions; bodies = map arity p.bodies; plain = plain }

-- a text with these parameters: every name in it is bound, and once on each path; it fits, and none of it runs yet
pub record IsText (known : Known) (names : List ℕ) (t : Kernel) : Type 0 where
  pub bound : IsClosed names t
  pub anew : BindsAnew names t
  pub fits : Fits (Suits known) None t
  pub source : IsSource t

abbrev pub IsProcedure : Known → ProcedureView → Type 0
IsProcedure known t = IsText known t.parameters t.body

-- each of the functions from number n on that is said to be plain is so
abbrev pub ArePlainFrom : (ℕ → Bool) → ℕ → List ProcedureView → Type 0
ArePlainFrom plain n [] = Unit {0}
ArePlainFrom plain n (t ∷ ts) = (plain n ≡ true → IsPlain plain t.body) × ArePlainFrom plain (suc n) ts

-- A checked program. Some of its functions are said to be plain: none of these has an operation, or calls
-- one that isn't plain.
pub record IsProgram (p : ProgramView) : Type 0 where
  pub plain : ℕ → Bool
  pub functions_fit : All (IsProcedure (known_in plain p)) p.functions
  pub bodies_fit : All (IsProcedure (known_in plain p)) p.bodies
  pub main_fits : IsText (known_in plain p) [] p.main
  pub plain_functions : ArePlainFrom plain 0 p.functions

-- what a `Program` holds
pub record ProgramParts : Type 0 where
  pub functions : Seq Procedure
  pub bodies : Seq Procedure
  pub main : Term

abbrev pub procedure_view : Procedure → ProcedureView
procedure_view t = record { parameters = list t.parameters; body = kernel t.body }

abbrev pub program_view : ProgramParts → ProgramView
program_view p = record { functions = map procedure_view (list p.functions); bodies = map procedure_view (list p.bodies); main = kernel p.main }
