-- A machine may go to another thread.
use denote.Param.Send.{IsSend, sendable}
use denote.Param.SendFields.{declared_send, variants_send}
use Rattle.std.proofs.Crossing.{crosses}
use Rattle.ca_states.proofs.Sending.{halt_send, runner_send, valid_code_send, valid_code_sync}
use Rattle.ca_machine.specs.contracts.machine.Machine as Machine
use Rattle.ca_machine.specs.contracts.stage.Stage as Stage

stage_send : IsSend Stage.the_row
stage_send = variants_send Stage.enum (search sendable depth 20)

pub machine_send : IsSend Machine.the_row
machine_send = declared_send Machine.the_type (search (sendable, crosses, runner_send, stage_send, halt_send, valid_code_send, valid_code_sync) depth 20)
