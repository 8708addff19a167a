-- The tasks of pipes, merges and pipelines may go to another thread.
use denote.Param.Send.{IsSend, sendable}
use denote.Param.SendFields.{declared_send, variants_send}
use Rattle.std.proofs.Crossing.{crosses}
use Rattle.ca_value.proofs.Crosses.{value_send}
use Rattle.ca_value.proofs.value.PortId.TheSendSync as port
use Rattle.ca_term.proofs.fault.Fault.TheSendSync as fault
use Rattle.ca_term.proofs.place.Place.TheSendSync as place
use Rattle.ca_system.proofs.Sending.{running_send}
use Rattle.ca_system.specs.contracts.running.Running as Running
use Rattle.ca_pipes.specs.contracts.walk.Walk as Walk
use Rattle.ca_pipes.specs.contracts.pipe.Ports as PipePorts
use Rattle.ca_pipes.specs.contracts.pipe.State as PipeState
use Rattle.ca_pipes.specs.contracts.merge.Output as Output
use Rattle.ca_pipes.specs.contracts.merge.State as MergeState
use Rattle.ca_pipes.specs.contracts.onto.Ports as OntoPorts
use Rattle.ca_pipes.specs.contracts.onto.State as OntoState
use Rattle.ca_pipes.specs.contracts.feed.Ports as FeedPorts
use Rattle.ca_pipes.specs.contracts.feed.State as FeedState
use Rattle.ca_pipes.specs.contracts.collect.Ports as CollectPorts
use Rattle.ca_pipes.specs.contracts.collect.State as CollectState

ruleset sends = (sendable, crosses, value_send, port.the_send, fault.the_send, place.the_send)

walk_send : IsSend Walk.the_row
walk_send = declared_send Walk.the_type (search sends depth 20)

pipe_state_send : IsSend PipeState.the_row
pipe_state_send = variants_send PipeState.enum (search sends depth 20)

pipe_ports_send : IsSend PipePorts.the_row
pipe_ports_send = declared_send PipePorts.the_type (search sends depth 20)

pub pipe_send : IsSend (Running.the_row PipePorts.the_row PipeState.the_row)
pipe_send = running_send PipePorts.the_row PipeState.the_row pipe_ports_send pipe_state_send

merge_state_send : IsSend MergeState.the_row
merge_state_send = variants_send MergeState.enum (search sends depth 20)

output_send : IsSend Output.the_row
output_send = declared_send Output.the_type (search sends depth 20)

pub merge_send : IsSend (Running.the_row Output.the_row MergeState.the_row)
merge_send = running_send Output.the_row MergeState.the_row output_send merge_state_send

onto_state_send : IsSend OntoState.the_row
onto_state_send = variants_send OntoState.enum (search (sends, walk_send) depth 20)

onto_ports_send : IsSend OntoPorts.the_row
onto_ports_send = declared_send OntoPorts.the_type (search sends depth 20)

pub onto_send : IsSend (Running.the_row OntoPorts.the_row OntoState.the_row)
onto_send = running_send OntoPorts.the_row OntoState.the_row onto_ports_send onto_state_send

feed_state_send : IsSend FeedState.the_row
feed_state_send = variants_send FeedState.enum (search sends depth 20)

feed_ports_send : IsSend FeedPorts.the_row
feed_ports_send = declared_send FeedPorts.the_type (search sends depth 20)

pub feed_send : IsSend (Running.the_row FeedPorts.the_row FeedState.the_row)
feed_send = running_send FeedPorts.the_row FeedState.the_row feed_ports_send feed_state_send

collect_state_send : IsSend CollectState.the_row
collect_state_send = variants_send CollectState.enum (search (sends, walk_send) depth 20)

collect_ports_send : IsSend CollectPorts.the_row
collect_ports_send = declared_send CollectPorts.the_type (search sends depth 20)

pub collect_send : IsSend (Running.the_row CollectPorts.the_row CollectState.the_row)
collect_send = running_send CollectPorts.the_row CollectState.the_row collect_ports_send collect_state_send
