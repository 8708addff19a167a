-- What is said of the constants of a program's texts.
use Rattle.std.specs.Prelude.{All}
use Rattle.ca_value.specs.Tree.{Tree, nil, bool, int, text, key, vector, map, port}
use Rattle.ca_value.specs.IsValue.{Scalars, IsInteger, IsKeyword}
use Rattle.ca_term.specs.Kernel.{Kernel, Kernels, Bindings, const, var, branch, bind, loop, seq, frame, turn, apply, none, item, empty, binding}
use Rattle.ca_term.specs.Program.{ProcedureView, ProgramView}

-- an integer or a keyword is such a one
abbrev pub IsScalar : Scalars → Tree → Type 0
IsScalar scalars (int z) = IsInteger scalars z
IsScalar scalars (key s) = IsKeyword scalars s
IsScalar scalars v = Unit {0}

-- each integer and each keyword that stands in the term is such a one
abbrev mutual
  pub HasScalars : Scalars → Kernel → Type 0
  HasScalars scalars (const v) = IsScalar scalars v
  HasScalars scalars (var n) = Unit {0}
  HasScalars scalars (branch c a b) = HasScalars scalars c × HasScalars scalars a × HasScalars scalars b
  HasScalars scalars (bind bs body) = BindingsHaveScalars scalars bs × HasScalars scalars body
  HasScalars scalars (loop fs bs body) = BindingsHaveScalars scalars bs × HasScalars scalars body
  HasScalars scalars (seq ts) = TermsHaveScalars scalars ts
  HasScalars scalars (frame body) = HasScalars scalars body
  HasScalars scalars (turn names whole now) = HasScalars scalars whole × HasScalars scalars now
  HasScalars scalars (apply h ts p) = TermsHaveScalars scalars ts

  pub TermsHaveScalars : Scalars → Kernels → Type 0
  TermsHaveScalars scalars none = Unit {0}
  TermsHaveScalars scalars (item t ts) = HasScalars scalars t × TermsHaveScalars scalars ts

  pub BindingsHaveScalars : Scalars → Bindings → Type 0
  BindingsHaveScalars scalars empty = Unit {0}
  BindingsHaveScalars scalars (binding n t bs) = HasScalars scalars t × BindingsHaveScalars scalars bs

-- and so in each text of the program
pub record ProgramHasScalars (scalars : Scalars) (program : ProgramView) : Type 0 where
  pub functions : All (λ (t : ProcedureView). HasScalars scalars t.body) program.functions
  pub bodies : All (λ (t : ProcedureView). HasScalars scalars t.body) program.bodies
  pub main : HasScalars scalars program.main
