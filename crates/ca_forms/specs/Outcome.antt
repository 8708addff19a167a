-- What a walk through forms comes to: something, with what was gathered on the way, or the first error.
use Rattle.std.specs.Prelude.{List, Bool, true, cond, nat_le}
use Rattle.ca_term.specs.declared.place.Place.{Place}
use Rattle.ca_term.specs.Kernel.{Kernel, const}
use Rattle.ca_term.specs.Program.{ProcedureView}
use Rattle.ca_value.specs.Tree.{nil}
use Rattle.ca_forms.specs.declared.error.CheckErrorKind.{CheckErrorKind}
use Rattle.ca_forms.specs.Depth.{kernel_depth}

-- the go bodies so far, by number, and whether a term was too deep
pub record Gathered : Type 0 where
  pub bodies : List ProcedureView
  pub deep : Bool

pub data WalkOutcome (A : Type 0) : Type 0 where
  done : A → Gathered → WalkOutcome A
  refused : CheckErrorKind → Place → WalkOutcome A

-- goes on where nothing was refused
abbrev pub after_walk : {A B : Type 0} → WalkOutcome A → (A → Gathered → WalkOutcome B) → WalkOutcome B
after_walk (done a s) k = k a s
after_walk (refused e p) k = refused e p

-- The term; in place of one that is deeper than 400, nil and the mark. So no deeper term is ever made, and
-- the walk goes on to the end of the top-level form.
abbrev pub limited : Kernel → Gathered → WalkOutcome Kernel
limited t s = cond (nat_le (kernel_depth t) 400) (done t s) (done (const nil) (record s { deep = true }))
