-- What a mix shows, and what an operation on it comes to.
use Rattle.std.specs.Prelude.{◌≡◌, ℕ, ◌+◌, List, [], ◌∷◌, Option, Some, None, Bool, true, false, eqb, cond, map, length}
use Rattle.indexmap.specs.IndexMap.{spare}
use Rattle.ca_value.specs.Tree.{Trees, TreePairs, port, empty, pair}
use Rattle.ca_term.specs.declared.fault.Fault.TheVariants.{NotAPort}
use Rattle.ca_term.specs.declared.head.RegisterName.{RegisterName}
use Rattle.ca_term.specs.declared.head.RegisterName.TheVariants.{Toggle}
use Rattle.ca_meaning.specs.Operands.{port_of_value, first_of}
use Rattle.ca_meaning.specs.Registry.{Source, Registry, a_mix, Registered, mix_row, pairs_in, all_channels, channels_differ, toggled, within_limit, refuses}
use Rattle.ca_registry.specs.declared.mix.Modes.{Modes}
use Rattle.ca_registry.specs.declared.mix.Mix.{Mix}

-- the modes that stand there, or none set
abbrev pub modes_or : Option Modes → Modes
modes_or None = record { mute = false; pause = false; solo = false }
modes_or (Some m) = m

abbrev pub source_view : ℕ × Modes → Source
source_view e = record { channel = e.0; mute = e.1.mute; pause = e.1.pause; solo = e.1.solo }

abbrev pub mix_sources : Mix → List Source
mix_sources m = map source_view m.sources.entries

abbrev pub mix_view : Mix → Registry
mix_view m = a_mix m.out m.changes m.pausing (mix_sources m)

abbrev pub mix_spare : Mix → ℕ
mix_spare m = spare m.sources

-- what an operation on the mix comes to, where each key of a map names a channel
abbrev pub mix_gives : Mix → RegisterName → Trees → Registered
mix_gives m name args = mix_row (λ v. true) m.out m.changes m.pausing (mix_sources m) name args

-- what a toggle by these pairs comes to
abbrev pub toggle_gives : Mix → TreePairs → Registered
toggle_gives m ps = cond (all_channels (λ v. true) ps) (within_limit 255 (length (toggled ps (mix_sources m))) (port m.changes) (a_mix m.out m.changes m.pausing (toggled ps (mix_sources m)))) (refuses NotAPort)

abbrev pub is_source : ℕ → List Source → Bool
is_source c [] = false
is_source c (x ∷ xs) = cond (eqb c x.channel) true (is_source c xs)

-- how many of the keys name no source yet
abbrev pub new_in : TreePairs → List Source → ℕ
new_in empty xs = 0
new_in (pair k m ps) xs = cond (is_source (port_of_value k) xs) 0 1 + new_in ps xs

-- the names of the channels of a toggle are different ones
abbrev pub TogglesApart : RegisterName → Trees → Type 0
TogglesApart Toggle args = channels_differ (pairs_in (first_of args)) ≡ true
TogglesApart other args = Unit {0}
