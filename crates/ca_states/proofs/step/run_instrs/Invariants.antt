use Rattle.std.proofs.Common.{◌≡◌, drop, length, map}
use Rattle.ca_value.specs.View.{views}
use Rattle.ca_states.specs.Code.{instruction}
use Rattle.ca_states.specs.Runs.{effects}
use Rattle.ca_states.proofs.step.run_instrs.Given as goal

abbrev pub invariant-loop-instr : goal.invariant-loop-instr
invariant-loop-instr l = record {
  runs : effects (map instruction (drop l.instr-index l.instrs)) (views l.slots) ≡ effects (map instruction l.instrs) (views l.fn.slots);
  same : length l.slots ≡ length l.fn.slots;
}
