-- A job may go to another thread.
use denote.Param.Send.{IsSend, sendable}
use denote.Param.SendFields.{declared_send, variants_send}
use Rattle.std.proofs.Crossing.{crosses}
use Rattle.ca_value.proofs.Crosses.{value_send, vector_send}
use Rattle.ca_value.proofs.value.PortId.TheSendSync as port
use Rattle.ca_term.proofs.fault.Fault.TheSendSync as fault
use Rattle.ca_term.proofs.place.Place.TheSendSync as place
use Rattle.ca_value.proofs.builtin.Builtin.TheSendSync as builtin
use Rattle.ca_term.proofs.head.PlainFunction.TheSendSync as function
use Rattle.ca_term.proofs.head.Transform.TheSendSync as transform
use Rattle.ca_system.proofs.Sending.{running_send}
use Rattle.ca_system.specs.contracts.running.Running as Running
use Rattle.ca_jobs.specs.contracts.job.State as State
use Rattle.ca_jobs.specs.contracts.job.Work as Work

ruleset sends = (sendable, crosses, value_send, vector_send, port.the_send, fault.the_send, place.the_send, builtin.the_send, function.the_send, transform.the_send)

state_send : IsSend State.the_row
state_send = variants_send State.enum (search sends depth 20)

work_send : IsSend Work.the_row
work_send = declared_send Work.the_type (search sends depth 20)

pub job_send : IsSend (Running.the_row Work.the_row State.the_row)
job_send = running_send Work.the_row State.the_row work_send state_send
