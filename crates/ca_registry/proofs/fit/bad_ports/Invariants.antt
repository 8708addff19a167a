use Rattle.std.proofs.Common.{◌≡◌, drop}
use Rattle.ca_value.specs.View.{trees}
use Rattle.ca_meaning.specs.Refusal.{bad_ports}
use Rattle.ca_registry.proofs.fit.bad_ports.Given as goal

abbrev pub invariant-loop-value : goal.invariant-loop-value
invariant-loop-value g l = bad_ports (g.P.Ports.state l.ports) (trees (drop l.value-index l.values)) ≡ bad_ports (g.P.Ports.state l.ports) (trees l.values)
