-- Which body of the meaning a `Pipe` is.
use Rattle.ca_value.specs.View.{view}
use Rattle.ca_term.specs.declared.place.Place.{Place}
use Rattle.ca_meaning.specs.PipeTable.{PipePorts, PipeState, pipe_takes, pipe_puts, pipe_closes}
use Rattle.ca_meaning.specs.System.{SystemBody, a_pipe}
use Rattle.ca_system.specs.Stands.{next_view}
use Rattle.ca_system.specs.declared.stand.Next.{Next}
use Rattle.ca_pipes.specs.declared.pipe.Ports.{Ports}
use Rattle.ca_pipes.specs.declared.pipe.State.{State}
use Rattle.ca_pipes.specs.declared.pipe.State.TheVariants.{Takes, Puts, Closes}

abbrev pub pipe_ports_view : Ports → PipePorts
pipe_ports_view p = record { source = p.source.n; target = p.target.n; closes = p.closes }

abbrev pub pipe_state : State → PipeState
pipe_state Takes = pipe_takes
pipe_state (Puts v) = pipe_puts (view v)
pipe_state Closes = pipe_closes

abbrev pub pipe_body : Ports → Place → Next State → SystemBody
pipe_body k p x = a_pipe (pipe_ports_view k) p (next_view pipe_state x)
