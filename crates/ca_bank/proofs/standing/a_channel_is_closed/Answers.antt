use Rattle.ca_bank.proofs.AfterCalls.{channel_closed}
use Rattle.ca_bank.proofs.standing.a_channel_is_closed.Goals as goal

pub returns : goal.returns
returns c = channel_closed
