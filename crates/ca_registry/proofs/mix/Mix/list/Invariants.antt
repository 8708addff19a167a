use Rattle.std.proofs.Common.{◌≡◌, ◌+◌, ◌≤◌, ◌∷◌, length, take, map}
use Rattle.ca_value.specs.Seq.{list, spare}
use Rattle.ca_value.specs.View.{views}
use Rattle.ca_meaning.specs.Registry.{mode_value, source_value}
use Rattle.ca_registry.specs.Mixes.{source_view}
use Rattle.ca_registry.proofs.mix.Mix.list.Given as goal

abbrev pub invariant-loop-place : goal.invariant-loop-place
invariant-loop-place l = record {
  same : views (list l.items) ≡ mode_value l.self.pausing ∷ map source_value (map source_view (take l.place l.self.sources.entries));
  room : length l.self.sources.entries ≤ spare l.items + l.place;
}
