use Rattle.std.proofs.Common.{◌≡◌, ℕ, ◌<◌, length, map, drop}
use Rattle.std.specs.Prelude.{IsTrue}
use Rattle.ca_value.specs.Seq.{list}
use Rattle.ca_states.specs.Code.{instruction, slots_view}
use Rattle.ca_states.specs.Valid.{each, is_instruction_in_range, reads_known, known_after}
use Rattle.ca_states.specs.Told.{slot_told, IsBefore}
use Rattle.ca_states.proofs.notes.Notes.pass_all.Given as goal

abbrev pub invariant-loop-instr : goal.invariant-loop-instr
invariant-loop-instr l =
    (length (list l.self.marks) ≡ length (list l.fn.self.marks)) × (l.self.block ≡ l.fn.self.block)
    × ((n : ℕ) → l.fn.self.block < n → IsBefore l.fn.self n → IsBefore l.self n)
    × IsTrue (each (is_instruction_in_range l.width) (map instruction (drop l.instr-index l.instrs)))
    × (reads_known (slot_told l.fn.self (slots_view l.entry)) (map instruction l.instrs) ≡ reads_known (slot_told l.self (slots_view l.entry)) (map instruction (drop l.instr-index l.instrs)))
    × ((k : ℕ) → known_after (slot_told l.fn.self (slots_view l.entry)) (map instruction l.instrs) k ≡ known_after (slot_told l.self (slots_view l.entry)) (map instruction (drop l.instr-index l.instrs)) k)
