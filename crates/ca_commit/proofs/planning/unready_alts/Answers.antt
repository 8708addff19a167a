use Rattle.ca_commit.specs.Showing.{seen}
use Rattle.ca_commit.proofs.BranchLaws.{unready_planned}
use Rattle.ca_commit.proofs.planning.unready_alts.Goals as goal

pub returns-in-None-clause-plan : goal.returns-in-None-clause-plan
returns-in-None-clause-plan g c = λ priority. unready_planned (seen c.args.banks.now c.args.shards.now) c.args.ports.now priority c.args.default.now c.joining_all.result c.in-None.is c.joining_all.ensures.plan
