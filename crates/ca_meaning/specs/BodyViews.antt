-- The body that a `Body` stands for, and what the code tells of where it stands.
use Rattle.std.specs.Prelude.{◌≡◌, Bool, true, false, Option, Some, None}
use Rattle.ca_value.specs.Tree.{Tree}
use Rattle.ca_term.specs.Operation.{WantView}
use Rattle.ca_term.specs.View.{kernel}
use Rattle.ca_meaning.specs.Body.{BodyView, At, local, at_op, ended, faulted, nowhere}
use Rattle.ca_meaning.specs.BodyParts.{BodyParts}
use Rattle.ca_meaning.specs.declared.body.Stand.{Stand}

abbrev pub body_view : BodyParts → BodyView
body_view b = record { term = kernel b.term; turns = b.turns; depth = b.depth; fault = b.fault }

abbrev pub stand_of : At → Stand
stand_of local = Stand.Local
stand_of (at_op w) = Stand.AtOp
stand_of (ended v) = Stand.Ended
stand_of (faulted f p) = Stand.Faulted f p
stand_of nowhere = Stand.Ended

abbrev pub is_at_op : At → Bool
is_at_op (at_op w) = true
is_at_op a = false

-- the value of a body that is at its end
abbrev pub ended_value : At → Option Tree
ended_value local = None
ended_value (at_op w) = None
ended_value (ended v) = Some v
ended_value (faulted f p) = None
ended_value nowhere = None

-- where it is at an operation, it is at that one
abbrev pub AtNoOther : At → WantView → Type 0
AtNoOther a w = is_at_op a ≡ true → a ≡ at_op w
