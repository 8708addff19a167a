use Rattle.std.proofs.Common.{◌≡◌, ◌++◌, map}
use Rattle.ca_value.specs.Seq.{list}
use Rattle.ca_states.specs.Code.{instruction}
use Rattle.ca_moves.specs.Plain.{plain_instruction}
use Rattle.ca_moves.proofs.blocks.moving_where.Given as goal

abbrev pub invariant-loop-instr : goal.invariant-loop-instr
invariant-loop-instr l = map plain_instruction (map instruction (list l.moved)) ++ map plain_instruction (map instruction l.instr-iterator.rest.items) ≡ map plain_instruction (map instruction (list l.fn.instrs))
