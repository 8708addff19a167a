use Rattle.std.proofs.Common.{sym, ◌∙◌}
use Rattle.ca_value.specs.View.{trees}
use Rattle.ca_registry.proofs.FitLaws.{met_here, unmet_here}
use Rattle.ca_registry.proofs.fit.unmet.Goals as goal

pub returns-then-not-need_met : goal.returns-then-not-need_met
returns-then-not-need_met g c = sym (unmet_here (g.P.Ports.state c.args.ports.now) c.args.needs.now c.loop-place.place (trees c.args.values.now) _ c.loop-place-test.true (sym c.need_met.ensures ∙ c.if-not-need_met.true)) ∙ c.loop-place.invariant

pub loop-place-preserved : goal.loop-place-preserved
loop-place-preserved g c = sym (met_here (g.P.Ports.state c.args.ports.now) c.args.needs.now c.loop-place.place (trees c.args.values.now) _ c.loop-place-test.true (sym c.need_met.ensures ∙ c.if-not-need_met.false)) ∙ c.loop-place.invariant
