-- The task of a mult as a body of its table.
use Rattle.std.specs.Prelude.{map as each_of}
use Rattle.std.specs.Vec.Iter.{into_iter_items}
use Rattle.ca_value.specs.View.{view}
use Rattle.ca_term.specs.declared.place.Place.{Place}
use Rattle.ca_meaning.specs.MultTable.{MultPorts, MultState, mult_takes, mult_reads, mult_spawns, mult_waits, mult_reads_last, mult_closes}
use Rattle.ca_meaning.specs.System.{SystemBody, a_mult}
use Rattle.ca_system.specs.Stands.{next_view}
use Rattle.ca_system.specs.declared.stand.Next.{Next}
use Rattle.ca_mult.specs.declared.mult.Ports.{Ports}
use Rattle.ca_mult.specs.declared.mult.State.{State}
use Rattle.ca_mult.specs.declared.mult.State.TheVariants.{Takes, Reads, Spawns, Waits, ReadsLast, Closes}
use Rattle.ca_mult.specs.Taps.{mult_tap_view}

abbrev pub mult_ports_view : Ports → MultPorts
mult_ports_view p = record { mult = p.mult.n; source = p.source.n; acks = p.acks.n }

abbrev pub mult_state_view : State → MultState
mult_state_view Takes = mult_takes
mult_state_view (Reads v) = mult_reads (view v)
mult_state_view (Spawns v w) = mult_spawns (view v) (mult_tap_view w.tap) (each_of mult_tap_view (into_iter_items w.left)) w.before
mult_state_view (Waits n) = mult_waits n
mult_state_view ReadsLast = mult_reads_last
mult_state_view (Closes c left) = mult_closes c.n (each_of (λ p. p.n) (into_iter_items left))

abbrev pub mult_body : Ports → Place → Next State → SystemBody
mult_body k p x = a_mult (mult_ports_view k) p (next_view mult_state_view x)
