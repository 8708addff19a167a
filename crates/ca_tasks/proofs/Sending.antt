-- A task of a run may go to another thread.
use denote.Param.Send.{IsSend, sendable}
use denote.Param.SendFields.{declared_send, variants_send}
use Rattle.std.proofs.Crossing.{crosses}
use Rattle.ca_value.proofs.Crosses.{value_send}
use Rattle.ca_term.proofs.fault.Fault.TheSendSync as fault
use Rattle.ca_term.proofs.place.Place.TheSendSync as place
use Rattle.ca_states.proofs.Sending.{want_send}
use Rattle.ca_machine.proofs.Sending.{machine_send}
use Rattle.ca_system.specs.contracts.stand.Stand as Stand
use Rattle.ca_system_tasks.proofs.Sending.{table_send}
use Rattle.ca_tasks.specs.contracts.system.Stage as Stage
use Rattle.ca_tasks.specs.contracts.system.SystemTask as SystemTask
use Rattle.ca_tasks.specs.contracts.task.AnyTask as AnyTask

stand_send : IsSend Stand.the_row
stand_send = variants_send Stand.enum (search (sendable, want_send, fault.the_send, place.the_send) depth 20)

stage_send : IsSend Stage.the_row
stage_send = variants_send Stage.enum (search (sendable, value_send, stand_send) depth 20)

system_send : IsSend SystemTask.the_row
system_send = declared_send SystemTask.the_type (search (sendable, table_send, stage_send) depth 20)

pub task_send : IsSend AnyTask.the_row
task_send = variants_send AnyTask.enum (search (sendable, crosses, machine_send, system_send) depth 20)
