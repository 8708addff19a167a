use Rattle.std.proofs.Common.{length, sym, subst}
use Rattle.std.specs.Prelude.{IsTrue}
use Rattle.ca_states.specs.Code.{instruction}
use Rattle.ca_states.specs.Valid.{is_instruction_in_range}
use Rattle.ca_states.proofs.StandingLaws.{instruction_at}
use Rattle.ca_states.proofs.step.run_instrs.Goals as goal

pub run_instr-requires : goal.run_instr-requires
run_instr-requires c =
    subst (λ n. IsTrue (is_instruction_in_range n (instruction c.instr-item.result))) (sym c.loop-instr.invariant.same)
    (instruction_at (length c.args.slots.now) c.args.instrs.now c.loop-instr.instr-index c.instr-item.result c.requires c.loop-instr-test.true c.instr-item.is)
