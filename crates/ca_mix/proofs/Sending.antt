-- A mix may go to another thread.
use denote.Param.Send.{IsSend, sendable}
use denote.Param.SendFields.{declared_send, variants_send}
use Rattle.std.proofs.Crossing.{crosses}
use Rattle.ca_value.proofs.Crosses.{value_send}
use Rattle.ca_value.proofs.value.PortId.TheSendSync as port
use Rattle.ca_term.proofs.fault.Fault.TheSendSync as fault
use Rattle.ca_term.proofs.place.Place.TheSendSync as place
use Rattle.ca_system.proofs.Sending.{running_send}
use Rattle.ca_system.specs.contracts.running.Running as Running
use Rattle.ca_mix.specs.contracts.mix.Ports as Ports
use Rattle.ca_mix.specs.contracts.mix.State as State
use Rattle.ca_mix.specs.contracts.modes.Reading as Reading

ruleset sends = (sendable, crosses, value_send, port.the_send, fault.the_send, place.the_send)

reading_send : IsSend Reading.the_row
reading_send = declared_send Reading.the_type (search sends depth 20)

state_send : IsSend State.the_row
state_send = variants_send State.enum (search (sends, reading_send) depth 20)

ports_send : IsSend Ports.the_row
ports_send = declared_send Ports.the_type (search sends depth 20)

pub mix_send : IsSend (Running.the_row Ports.the_row State.the_row)
mix_send = running_send Ports.the_row State.the_row ports_send state_send
