-- Which body of the meaning an `Onto` is.
use Rattle.ca_term.specs.declared.place.Place.{Place}
use Rattle.ca_meaning.specs.Operands.{first_of, rest_of}
use Rattle.ca_meaning.specs.PipeTable.{OntoPorts, OntoState, onto_puts, onto_closes, onto_ends}
use Rattle.ca_meaning.specs.System.{SystemBody, an_onto}
use Rattle.ca_system.specs.Stands.{next_view}
use Rattle.ca_system.specs.declared.stand.Next.{Next}
use Rattle.ca_pipes.specs.Walks.{walk_left}
use Rattle.ca_pipes.specs.declared.onto.Ports.{Ports}
use Rattle.ca_pipes.specs.declared.onto.State.{State}
use Rattle.ca_pipes.specs.declared.onto.State.TheVariants.{Puts, Closes, Ends}

abbrev pub onto_ports_view : Ports → OntoPorts
onto_ports_view o = record { target = o.target.n; closes = o.closes; result = o.result.n }

abbrev pub onto_state : State → OntoState
onto_state (Puts w) = onto_puts (first_of (walk_left w)) (rest_of (walk_left w))
onto_state Closes = onto_closes
onto_state Ends = onto_ends

abbrev pub onto_body : Ports → Place → Next State → SystemBody
onto_body k p x = an_onto (onto_ports_view k) p (next_view onto_state x)
