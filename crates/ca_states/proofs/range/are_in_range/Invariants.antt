use Rattle.std.proofs.Common.{◌≡◌, map, drop}
use Rattle.ca_states.specs.Code.{instruction}
use Rattle.ca_states.specs.Valid.{each, is_instruction_in_range}
use Rattle.ca_states.proofs.range.are_in_range.Given as goal

abbrev pub invariant-loop-instr : goal.invariant-loop-instr
invariant-loop-instr l =
    each (is_instruction_in_range l.width) (map instruction l.instrs) ≡ each (is_instruction_in_range l.width) (map instruction (drop l.instr-index l.instrs))
