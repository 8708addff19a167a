use Rattle.std.proofs.Common.{sym, ap, ◌∙◌}
use Rattle.ca_commit.specs.Found.{serving_view}
use Rattle.ca_commit.proofs.SettleMade.{settle_made}
use Rattle.ca_commit.proofs.settling.reserve_settle.Goals as goal

pub returns-in-Serves-clause-made : goal.returns-in-Serves-clause-made
returns-in-Serves-clause-made g c = settle_made g.A.Agent.place c.args.held.now c.reserve_serving.new.held c.args.port.n c.in-Serves.side c.in-Serves.wait.n _ c.reserve_serving.result (sym c.settle_of.ensures ∙ ap serving_view c.in-Serves.is) c.reserve_serving.ensures.shards c.reserve_serving.ensures.channels c.reserve_serving.ensures.made c.reserve_serving.ensures.room
