use Rattle.std.proofs.Common.{subst, IfOk, IfSome}
use Rattle.std.specs.Prelude.{IfNone}
use Rattle.ca_term.specs.Program.{ProgramView}
use Rattle.ca_states.specs.ValidCode.{valid_code}
use Rattle.ca_lower.specs.Gos.{SameGos}
use Rattle.ca_lower.specs.Lowered.{Lowered}
use Rattle.ca_agent.specs.Seeds.{HasSeed}
use Rattle.ca_machine.specs.Machines.{Starts}
use Rattle.ca_machine.specs.View.{machine_view}
use Rattle.ca_machine.proofs.machine.Machine.of_seed.Goals as goal

pub returns-clause-starts : goal.returns-clause-starts
returns-clause-starts c = let K = valid_code c.args.code.now in
    subst (λ task. IfOk c.machine_of.result (λ o. IfSome o (λ m. (program : ProgramView) → Lowered program K → SameGos program K → Starts program task (machine_view m)))) c.in_ok-copy.ensures c.machine_of.ensures.starts

pub returns-clause-none : goal.returns-clause-none
returns-clause-none c = let K = valid_code c.args.code.now in
    subst (λ task. IfOk c.machine_of.result (λ o. IfNone o (HasSeed K task → ⊥))) c.in_ok-copy.ensures c.machine_of.ensures.none
