-- The task of a publication may go to another thread.
use denote.Param.Send.{IsSend, sendable}
use denote.Param.SendFields.{declared_send, variants_send}
use Rattle.std.proofs.Crossing.{crosses}
use Rattle.ca_value.proofs.Crosses.{value_send}
use Rattle.ca_value.proofs.value.PortId.TheSendSync as port
use Rattle.ca_term.proofs.fault.Fault.TheSendSync as fault
use Rattle.ca_term.proofs.place.Place.TheSendSync as place
use Rattle.ca_value.proofs.builtin.Builtin.TheSendSync as builtin
use Rattle.ca_term.proofs.head.PlainFunction.TheSendSync as function
use Rattle.ca_system.proofs.Sending.{running_send}
use Rattle.ca_system.specs.contracts.running.Running as Running
use Rattle.ca_pubsub.specs.contracts.publication.Ports as Ports
use Rattle.ca_pubsub.specs.contracts.publication.State as State

ruleset sends = (sendable, crosses, value_send, port.the_send, fault.the_send, place.the_send, builtin.the_send, function.the_send)

state_send : IsSend State.the_row
state_send = variants_send State.enum (search sends depth 20)

ports_send : IsSend Ports.the_row
ports_send = declared_send Ports.the_type (search sends depth 20)

pub pub_send : IsSend (Running.the_row Ports.the_row State.the_row)
pub_send = running_send Ports.the_row State.the_row ports_send state_send
