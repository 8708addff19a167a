use Rattle.std.proofs.Common.{◌≡◌, ℕ, drop, map}
use Rattle.ca_term.specs.Event.{port_number}
use Rattle.ca_commit.specs.Showing.{channels_held, registries_held}
use Rattle.ca_commit.specs.Ticking.{closed_all}
use Rattle.ca_commit.proofs.clock.close_all.Given as goal

abbrev pub invariant-loop-port : goal.invariant-loop-port
invariant-loop-port l = record {
  channels : (i : ℕ) → closed_all (map port_number (drop l.port-index l.ports)) (channels_held l.banks) i ≡ closed_all (map port_number l.ports) (channels_held l.initial.banks) i;
  registries : (i : ℕ) → registries_held l.banks i ≡ registries_held l.initial.banks i;
}
