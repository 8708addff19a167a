use Rattle.std.proofs.Common.{◌≡◌, map}
use Rattle.ca_value.specs.Seq.{list}
use Rattle.ca_states.specs.Code.{instruction}
use Rattle.ca_moves.specs.Plain.{plain_instruction, doing}
use Rattle.ca_moves.proofs.letting_go.letting_go.Given as goal

abbrev pub invariant-loop-slot : goal.invariant-loop-slot
invariant-loop-slot l = doing (map plain_instruction (map instruction (list l.instrs))) ≡ doing (map plain_instruction (map instruction (list l.fn.instrs)))
