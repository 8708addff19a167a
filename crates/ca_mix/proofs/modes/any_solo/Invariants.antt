use Rattle.std.proofs.Common.{◌≡◌, drop, map}
use Rattle.ca_meaning.specs.MixTable.{any_solo}
use Rattle.ca_mix.specs.Readings.{mix_source_view}
use Rattle.ca_mix.proofs.modes.any_solo.Given as goal

abbrev pub invariant-loop-source : goal.invariant-loop-source
invariant-loop-source l = any_solo (map mix_source_view (drop l.source-index l.sources)) ≡ any_solo (map mix_source_view l.sources)
