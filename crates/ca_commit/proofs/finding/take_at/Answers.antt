use Rattle.std.proofs.Common.{ap, ◌∙◌}
use Rattle.ca_commit.specs.Finding.{glance, take_at}
use Rattle.ca_commit.specs.Showing.{waits_held}
use Rattle.ca_commit.proofs.finding.take_at.Goals as goal

pub returns-in-Some : goal.returns-in-Some
returns-in-Some g c = c.asked.ensures ∙ c.take_sight.ensures.found (glance (waits_held c.args.shards.now)) ∙ ap (take_at (glance (waits_held c.args.shards.now))) c.in-Some.ensures
