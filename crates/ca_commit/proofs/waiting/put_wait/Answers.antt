use Rattle.std.proofs.Common.{ap, ◌∙◌, Some, option_map}
use Rattle.ca_bank.specs.Shard.{parked_in}
use Rattle.ca_commit.specs.Showing.{parked_view}
use Rattle.ca_commit.proofs.Updates.{mapped_update}
use Rattle.ca_commit.proofs.waiting.put_wait.Goals as goal

pub returns : goal.returns
returns g c = (λ q. ap (option_map parked_view) (c.put_in.ensures.waits q) ∙ mapped_update parked_view (parked_in c.args.shard.now) c.args.wait.n (Some c.args.parked) q, c.put_in.ensures.same)
