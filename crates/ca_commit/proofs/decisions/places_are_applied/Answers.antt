use Rattle.ca_commit.proofs.PlacesApplied.{done_applies, meet_applies, park_applies, post_applies}
use Rattle.ca_commit.proofs.decisions.places_are_applied.Goals as goal

pub returns : goal.returns
returns g c = record {
  done = done_applies g.A.Agent.place g.A.Agent.advances g.A.Agent.gives g.A.Agent.starts;
  meet = meet_applies g.A.Agent.place g.A.Agent.advances g.A.Agent.gives g.A.Agent.starts;
  park = park_applies g.A.Agent.place g.A.Agent.advances g.A.Agent.gives g.A.Agent.starts;
  post = post_applies g.A.Agent.place g.A.Agent.advances g.A.Agent.gives g.A.Agent.starts;
}
