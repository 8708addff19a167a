-- What a plain function that a system task applies comes to, and what a pipeline's job makes of a value. (core.async
-- API reference: `pub`, `pipeline`; Clojure reference, `map`, `filter`, `mapcat`.)
use Rattle.std.specs.Prelude.{◌≡◌, Result, Ok, Err, Bool, false, ◌||◌, cond}
use Rattle.ca_value.specs.declared.builtin.Builtin.{Builtin}
use Rattle.ca_value.specs.Outcome.{Outcome}
use Rattle.ca_value.specs.Builtins.{builtin_result}
use Rattle.ca_value.specs.Tree.{Tree, Trees, nil, vector, none, item}
use Rattle.ca_term.specs.declared.place.Place.{Place}
use Rattle.ca_term.specs.declared.fault.Fault.{Fault}
use Rattle.ca_term.specs.declared.fault.Fault.TheVariants.{WrongKind, NilPut}
use Rattle.ca_term.specs.declared.head.PlainFunction.{PlainFunction}
use Rattle.ca_term.specs.declared.head.PlainFunction.TheVariants.{Defined, Keyword}
use Rattle.ca_term.specs.declared.head.Transform.{Transform}
use Rattle.ca_term.specs.declared.head.Transform.TheVariants.{Map, Filter, Mapcat}
use Rattle.ca_term.specs.declared.head.Head.TheVariants.{Call}
use Rattle.ca_term.specs.Kernel.{const, apply, none as no_terms, item as term}
use Rattle.ca_term.specs.Program.{ProgramView}
use Rattle.ca_meaning.specs.Operands.{is_nil, truth}
use Rattle.ca_meaning.specs.Asking.{task_fault}
use Rattle.ca_meaning.specs.Body.{BodyView, At, local, at_op, ended, faulted, nowhere, at, new_body}
use Rattle.ca_meaning.specs.Rest.{Rest}
use Rattle.ca_meaning.specs.Asks.{one_of, two_of}

-- A value, or a fault. The fault is one of the form that applies the function, wherever in the function it arose.
abbrev pub Returned : Type 0
Returned = Result Tree Fault

-- a plain function has no operations, and its text no free names
abbrev pub returned_at : At → Returned
returned_at (ended v) = Ok v
returned_at (faulted f q) = Err f
returned_at (at_op w) = Err WrongKind
returned_at local = Err WrongKind
returned_at nowhere = Err WrongKind

abbrev pub of_builtin : Outcome → Returned
of_builtin (Ok v) = Ok v
of_builtin (Err f) = Err (task_fault f)

-- The function applied to v by a form at the place comes to r: a function of the program is called by itself, its turns
-- and its depth counted from 0; a keyword gets from a map.
abbrev pub Applied : ProgramView → PlainFunction → Tree → Place → Tree → Returned → Type 0
Applied program (Defined n) keyword p v r = (c : BodyView) × Rest program (new_body (apply (Call n) (term (const v) no_terms) p)) c × (r ≡ returned_at (at c))
Applied program (PlainFunction.Builtin b) keyword p v r = r ≡ of_builtin (builtin_result b (one_of v))
Applied program Keyword keyword p v r = r ≡ of_builtin (builtin_result Builtin.Get (two_of v keyword))

-- what a pipeline's jobs do: the transform, its function, the keyword where that is the function, and the place of
-- the pipeline
pub record Work : Type 0 where
  pub transform : Transform
  pub function : PlainFunction
  pub keyword : Tree
  pub place : Place

pub data Outputs : Type 0 where
  outputs : Trees → Outputs
  no_outputs : Fault → Outputs

abbrev pub has_nil : Trees → Bool
has_nil none = false
has_nil (item v vs) = is_nil v || has_nil vs

-- a nil among the outputs is a fault
abbrev pub without_nil : Trees → Outputs
without_nil ys = cond (has_nil ys) (no_outputs NilPut) (outputs ys)

-- the items of a vector; nil has none, and nothing else has any
abbrev pub items_output : Tree → Outputs
items_output (vector ys) = without_nil ys
items_output nil = outputs none
items_output w = no_outputs WrongKind

-- of the value v, where the function gave w
abbrev pub outputs_of : Transform → Tree → Tree → Outputs
outputs_of Map v w = without_nil (one_of w)
outputs_of Filter v w = without_nil (cond (truth w) (one_of v) none)
outputs_of Mapcat v w = items_output w

abbrev pub outputs_by : Transform → Tree → Returned → Outputs
outputs_by x v (Ok w) = outputs_of x v w
outputs_by x v (Err f) = no_outputs f

-- the job makes these outputs of the value
abbrev pub Outs : ProgramView → Work → Tree → Outputs → Type 0
Outs program w v o = (r : Returned) × Applied program w.function w.keyword w.place v r × (o ≡ outputs_by w.transform v r)
