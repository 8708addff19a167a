-- The task of a publication as a body of its table.
use Rattle.std.specs.Prelude.{map as each_of}
use Rattle.std.specs.Vec.Iter.{into_iter_items}
use Rattle.ca_value.specs.View.{view}
use Rattle.ca_term.specs.declared.place.Place.{Place}
use Rattle.ca_meaning.specs.PubTable.{PubPorts, PubState, pub_takes, pub_sorts, pub_finds, pub_puts, pub_reads_last, pub_closes}
use Rattle.ca_meaning.specs.System.{SystemBody, a_pub}
use Rattle.ca_system.specs.Stands.{next_view}
use Rattle.ca_system.specs.declared.stand.Next.{Next as NextState}
use Rattle.ca_pubsub.specs.declared.publication.Ports.{Ports}
use Rattle.ca_pubsub.specs.declared.publication.State.{State}
use Rattle.ca_pubsub.specs.declared.publication.State.TheVariants.{Takes, Sorts, Finds, Puts, ReadsLast, Closes}

abbrev pub pub_ports_view : Ports → PubPorts
pub_ports_view p = record { publication = p.publication.n; source = p.source.n; topic = p.topic; keyword = view p.keyword }

abbrev pub pub_state_view : State → PubState
pub_state_view Takes = pub_takes
pub_state_view (Sorts v) = pub_sorts (view v)
pub_state_view (Finds topic v) = pub_finds (view topic) (view v)
pub_state_view (Puts c v) = pub_puts c.n (view v)
pub_state_view ReadsLast = pub_reads_last
pub_state_view (Closes c left) = pub_closes c.n (each_of (λ p. p.n) (into_iter_items left))

abbrev pub pub_body : Ports → Place → NextState State → SystemBody
pub_body k p x = a_pub (pub_ports_view k) p (next_view pub_state_view x)
