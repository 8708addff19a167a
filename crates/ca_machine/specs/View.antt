-- What a `Machine` stands for.
use Rattle.ca_states.specs.Standing.{state_view, waiting_slot}
use Rattle.ca_states.specs.ValidCode.{valid_code}
use Rattle.ca_machine.specs.declared.machine.Machine.{Machine}
use Rattle.ca_machine.specs.Machines.{MachineView}
use Rattle.ca_machine.specs.Stages.{stage_place}

abbrev pub machine_view : Machine → MachineView
machine_view m = record { code = valid_code m.code.value; state = state_view m.runner; answer = waiting_slot m.runner; place = stage_place m.stage m.halt }
