use Rattle.std.proofs.Common.{◌≡◌, ℕ, ◌<◌, length}
use Rattle.std.specs.Prelude.{IfSome, slice_get}
use Rattle.ca_value.specs.Seq.{list}
use Rattle.ca_states.proofs.notes.Notes.new.Given as goal

abbrev pub invariant-loop-i : goal.invariant-loop-i
invariant-loop-i l =
    (length (list l.marks) ≡ length (list l.initial.marks)) × ((k : ℕ) → k < l.i → IfSome (slice_get (list l.marks) k) (λ m. m.block < 1))
