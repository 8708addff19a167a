use Rattle.std.proofs.Common.{◌≡◌, drop, map}
use Rattle.ca_value.specs.View.{trees}
use Rattle.ca_meaning.specs.Refusal.{unmet}
use Rattle.ca_registry.specs.Needs.{need_view, from_place}
use Rattle.ca_registry.proofs.fit.unmet.Given as goal

abbrev pub invariant-loop-place : goal.invariant-loop-place
invariant-loop-place g l = unmet (g.P.Ports.state l.ports) (map need_view (drop l.place l.needs)) (from_place l.place (trees l.values)) ≡ unmet (g.P.Ports.state l.ports) (map need_view l.needs) (trees l.values)
