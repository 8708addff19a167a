use Rattle.ca_commit.proofs.PlacesSettled.{prune_applies, settle_applies, stale_served}
use Rattle.ca_commit.proofs.decisions.places_settle.Goals as goal

pub returns : goal.returns
returns g c = record { settle = settle_applies g.A.Agent.place g.A.Agent.advances g.A.Agent.gives; stale = stale_served; prune = prune_applies }
