-- Which body of the meaning a `Collect` is.
use Rattle.ca_term.specs.declared.place.Place.{Place}
use Rattle.ca_meaning.specs.Operands.{first_of, rest_of}
use Rattle.ca_meaning.specs.PipelineTable.{CollectPorts, CollectState, collect_takes, collect_opens, collect_puts, collect_closes, collect_ends}
use Rattle.ca_meaning.specs.System.{SystemBody, a_collect}
use Rattle.ca_system.specs.Stands.{next_view}
use Rattle.ca_system.specs.declared.stand.Next.{Next}
use Rattle.ca_pipes.specs.Walks.{walk_left}
use Rattle.ca_pipes.specs.declared.collect.Ports.{Ports}
use Rattle.ca_pipes.specs.declared.collect.State.{State}
use Rattle.ca_pipes.specs.declared.collect.State.TheVariants.{Takes, Opens, Puts, Closes, Ends}

abbrev pub collect_ports_view : Ports → CollectPorts
collect_ports_view c = record { replies = c.replies.n; target = c.target.n; closes = c.closes; result = c.result.n }

abbrev pub collect_state : State → CollectState
collect_state Takes = collect_takes
collect_state (Opens p) = collect_opens p.n
collect_state (Puts w) = collect_puts (first_of (walk_left w)) (rest_of (walk_left w))
collect_state Closes = collect_closes
collect_state Ends = collect_ends

abbrev pub collect_body : Ports → Place → Next State → SystemBody
collect_body k p x = a_collect (collect_ports_view k) p (next_view collect_state x)
