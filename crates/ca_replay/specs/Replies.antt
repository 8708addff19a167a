-- What a task gets where its operation is done: one that stands at an alts gets the port with the answer.
use Rattle.std.specs.Prelude.{◌≡◌, ℕ, Option, Some, None, Bool, true, false}
use Rattle.ca_value.specs.Tree.{Tree}
use Rattle.ca_term.specs.Operation.{OpView, choosing}
use Rattle.ca_term.specs.Program.{ProgramView}
use Rattle.ca_meaning.specs.Going.{Goes}
use Rattle.ca_meaning.specs.State.{Task, Tasks}
use Rattle.ca_meaning.specs.Task.{body_at, body_reply}
use Rattle.ca_scene.specs.Standing.{Shown, shown_op, shown_end, shown_fault, elsewhere, shown_at}

abbrev pub is_choosing : OpView → Bool
is_choosing (choosing ports priority default) = true
is_choosing op = false

abbrev pub shown_chooses : Shown → Bool
shown_chooses (shown_op w) = is_choosing w.op
shown_chooses shown_end = false
shown_chooses (shown_fault f p) = false
shown_chooses elsewhere = false

abbrev pub chooses_there : Option Task → Bool
chooses_there None = false
chooses_there (Some x) = shown_chooses (shown_at (body_at x.body))

-- the task of that number, whatever it is, goes on where its operation is done on port p with the answer
abbrev pub GoesReplied : ProgramView → Tasks → ℕ → ℕ → Tree → Tasks → Type 0
GoesReplied program tasks t p answer after = (x : Task) → tasks t ≡ Some x → Goes program tasks t x (body_reply x.body p answer) after
