-- A mult and a delivery may go to another thread.
use denote.Param.Send.{IsSend, sendable}
use denote.Param.SendFields.{declared_send, variants_send}
use Rattle.std.proofs.Crossing.{crosses}
use Rattle.ca_value.proofs.Crosses.{value_send}
use Rattle.ca_value.proofs.value.PortId.TheSendSync as port
use Rattle.ca_term.proofs.fault.Fault.TheSendSync as fault
use Rattle.ca_term.proofs.place.Place.TheSendSync as place
use Rattle.ca_system.proofs.Sending.{running_send}
use Rattle.ca_system.specs.contracts.running.Running as Running
use Rattle.ca_mult.specs.contracts.deliver.Delivery as Delivery
use Rattle.ca_mult.specs.contracts.deliver.Step as Step
use Rattle.ca_mult.specs.contracts.mult.Ports as Ports
use Rattle.ca_mult.specs.contracts.mult.State as State
use Rattle.ca_mult.specs.contracts.taps.Tap as Tap
use Rattle.ca_mult.specs.contracts.taps.Walk as Walk

ruleset sends = (sendable, crosses, value_send, port.the_send, fault.the_send, place.the_send)

tap_send : IsSend Tap.the_row
tap_send = declared_send Tap.the_type (search sends depth 20)

walk_send : IsSend Walk.the_row
walk_send = declared_send Walk.the_type (search (sends, tap_send) depth 20)

state_send : IsSend State.the_row
state_send = variants_send State.enum (search (sends, walk_send) depth 20)

ports_send : IsSend Ports.the_row
ports_send = declared_send Ports.the_type (search sends depth 20)

pub mult_send : IsSend (Running.the_row Ports.the_row State.the_row)
mult_send = running_send Ports.the_row State.the_row ports_send state_send

step_send : IsSend Step.the_row
step_send = variants_send Step.enum (search sends depth 20)

delivery_send : IsSend Delivery.the_row
delivery_send = declared_send Delivery.the_type (search sends depth 20)

pub deliver_send : IsSend (Running.the_row Delivery.the_row Step.the_row)
deliver_send = running_send Delivery.the_row Step.the_row delivery_send step_send
