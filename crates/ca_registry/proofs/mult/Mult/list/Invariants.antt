use Rattle.std.proofs.Common.{◌≡◌, ◌+◌, ◌≤◌, length, take, map}
use Rattle.ca_value.specs.Seq.{list, spare}
use Rattle.ca_value.specs.View.{views}
use Rattle.ca_meaning.specs.Registry.{tap_value}
use Rattle.ca_registry.specs.Registries.{tap_view}
use Rattle.ca_registry.proofs.mult.Mult.list.Given as goal

abbrev pub invariant-loop-place : goal.invariant-loop-place
invariant-loop-place l = record {
  same : views (list l.items) ≡ map tap_value (map tap_view (take l.place l.self.taps.entries));
  room : length l.self.taps.entries ≤ spare l.items + l.place;
}
