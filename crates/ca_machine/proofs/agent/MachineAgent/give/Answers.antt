use Rattle.ca_states.specs.ValidCode.{valid_code}
use Rattle.ca_machine.proofs.Halting.{waits}
use Rattle.ca_machine.proofs.agent.MachineAgent.give.Goals as goal

pub invariant_of-self : goal.invariant_of-self
invariant_of-self c =
    let m = c.args.self.now in
    let C = valid_code m.code.value in
    record { ready = c.answer.ensures.stands C (waits C m.runner m.stage m.halt c.requires m.ready).stands }
