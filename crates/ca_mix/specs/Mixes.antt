-- The task of a mix as a body of its table.
use Rattle.ca_value.specs.View.{view}
use Rattle.ca_term.specs.declared.place.Place.{Place}
use Rattle.ca_meaning.specs.MixTable.{MixPorts, MixState, mix_reads, mix_chooses, mix_drops, mix_puts}
use Rattle.ca_meaning.specs.System.{SystemBody, a_mix}
use Rattle.ca_system.specs.Stands.{next_view}
use Rattle.ca_system.specs.declared.stand.Next.{Next}
use Rattle.ca_mix.specs.declared.mix.Ports.{Ports}
use Rattle.ca_mix.specs.declared.mix.State.{State}
use Rattle.ca_mix.specs.declared.mix.State.TheVariants.{Reads, Chooses, Drops, Puts}
use Rattle.ca_mix.specs.Readings.{reading_view}

abbrev pub mix_ports_view : Ports → MixPorts
mix_ports_view p = record { mix = p.mix.n; out = p.out.n; changes = p.changes.n }

abbrev pub mix_state_view : State → MixState
mix_state_view Reads = mix_reads
mix_state_view (Chooses r) = mix_chooses (reading_view r).0 (reading_view r).1
mix_state_view (Drops c) = mix_drops c.n
mix_state_view (Puts r v) = mix_puts (reading_view r).0 (reading_view r).1 (view v)

abbrev pub mix_body : Ports → Place → Next State → SystemBody
mix_body k p x = a_mix (mix_ports_view k) p (next_view mix_state_view x)
