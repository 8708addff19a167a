use Rattle.std.proofs.Common.{ap, ◌∙◌, None, option_map}
use Rattle.ca_bank.specs.Shard.{parked_in}
use Rattle.ca_commit.specs.Showing.{parked_view}
use Rattle.ca_commit.proofs.Updates.{mapped_update}
use Rattle.ca_commit.proofs.waiting.take_wait.Goals as goal

pub returns-clause-waits : goal.returns-clause-waits
returns-clause-waits g c = (λ q. ap (option_map parked_view) (c.take_out.ensures.waits q) ∙ mapped_update parked_view (parked_in c.args.shard.now) c.args.wait.n None q, c.take_out.ensures.same)
