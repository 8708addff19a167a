use Rattle.std.proofs.Common.{◌≡◌, ◌++◌, drop, map}
use Rattle.ca_mix.specs.Readings.{mix_source_view, channels_where, is_heard, is_read}
use Rattle.ca_mix.proofs.modes.channels.Given as goal

abbrev pub invariant-loop-source : goal.invariant-loop-source
invariant-loop-source l = record {
  reads : map (λ p. p.n) l.reads.items ++ channels_where (is_read l.solo_read) (map mix_source_view (drop l.source-index l.sources)) ≡ channels_where (is_read l.solo_read) (map mix_source_view l.sources);
  heard : map (λ p. p.n) l.heard.items ++ channels_where (is_heard l.solo_heard) (map mix_source_view (drop l.source-index l.sources)) ≡ channels_where (is_heard l.solo_heard) (map mix_source_view l.sources);
}
