use Rattle.std.proofs.Common.{◌≡◌, ℕ, ◌+◌, ◌-◌, ◌<◌, length}
use Rattle.ca_value.specs.Seq.{list}
use Rattle.ca_states.specs.Code.{Slots}
use Rattle.ca_states.specs.Machine.{slots_from}
use Rattle.ca_states.specs.Valid.{noted_all}
use Rattle.ca_states.specs.Told.{slot_told, IsBefore}
use Rattle.ca_states.proofs.notes.Notes.note_range.Given as goal

abbrev pub invariant-loop-i : goal.invariant-loop-i
invariant-loop-i l =
    (length (list l.self.marks) ≡ length (list l.fn.self.marks)) × (l.self.block ≡ l.fn.self.block)
    × ((n : ℕ) → l.fn.self.block < n → IsBefore l.fn.self n → IsBefore l.self n)
    × ((s : Slots) (k : ℕ) → noted_all l.known (slots_from (l.from + l.i) (l.count - l.i)) (slot_told l.self s) k ≡ noted_all l.known (slots_from l.from l.count) (slot_told l.fn.self s) k)
