use Rattle.std.proofs.Common.{◌≡◌, ◌+◌, ◌≤◌, length, drop, map}
use Rattle.ca_value.specs.Seq.{list, spare}
use Rattle.ca_value.specs.View.{trees}
use Rattle.ca_meaning.specs.MixTable.{sources_of}
use Rattle.ca_mix.specs.Readings.{mix_source_view}
use Rattle.ca_mix.proofs.SourceLaws.{behind}
use Rattle.ca_mix.proofs.modes.sources_of.Given as goal

abbrev pub invariant-loop-item : goal.invariant-loop-item
invariant-loop-item l = record {
  same : behind (map mix_source_view (list l.sources)) (sources_of (trees (drop l.item-index l.items))) ≡ sources_of (trees l.items);
  room : length l.items ≤ spare l.sources + l.item-index;
}
