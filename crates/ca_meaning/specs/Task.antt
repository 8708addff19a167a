-- A task's body: a script's text, or a system task. Where it stands, the body with its operation
-- replaced by the answer, and the body after all its local steps.
use Rattle.std.specs.Prelude.{◌≡◌, ℕ, [], ◌∷◌, ◌++◌}
use Rattle.ca_value.specs.Tree.{Tree, port, vector, none, item}
use Rattle.ca_term.specs.Operation.{OpView, SeedView, go, system, choosing}
use Rattle.ca_term.specs.Program.{ProgramView}
use Rattle.ca_meaning.specs.Body.{BodyView, At, at_op, at, fill, new_body}
use Rattle.ca_meaning.specs.Rest.{Rest}
use Rattle.ca_meaning.specs.Started.{procedure_at, started}
use Rattle.ca_meaning.specs.System.{SystemBody, new_system, system_at, system_fill, SystemRest}
use Rattle.ca_meaning.specs.Operands.{values_in}

pub data TaskBody : Type 0 where
  script : BodyView → TaskBody
  system_task : SystemBody → TaskBody

abbrev pub body_at : TaskBody → At
body_at (script b) = at b
body_at (system_task b) = system_at b

abbrev pub body_fill : Tree → TaskBody → TaskBody
body_fill v (script b) = script (fill v b)
body_fill v (system_task b) = system_task (system_fill v b)

abbrev pub BodyRest : ProgramView → TaskBody → TaskBody → Type 0
BodyRest program (script b) c = (d : BodyView) × Rest program b d × (c ≡ script d)
BodyRest program (system_task b) c = (d : SystemBody) × SystemRest program b d × (c ≡ system_task d)

-- a go block's body is its text with the values, and last the result port, in place of their names
abbrev pub new_task : ProgramView → SeedView → TaskBody
new_task program (go n values result place) = script (new_body (started (procedure_at program.bodies n) (values_in values ++ port result ∷ [])))
new_task program (system kind values place) = system_task (new_system kind values place)

-- what a task gets where its operation is done on that port with that answer: an alts gets both
abbrev pub reply_to : OpView → ℕ → Tree → Tree
reply_to (choosing ports priority default) p v = vector (item v (item (port p) none))
reply_to op p v = v

abbrev pub reply_at : At → ℕ → Tree → Tree
reply_at (at_op want) p v = reply_to want.op p v
reply_at elsewhere p v = v

abbrev pub body_reply : TaskBody → ℕ → Tree → Tree
body_reply b p v = reply_at (body_at b) p v
