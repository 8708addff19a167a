use Rattle.ca_bank.proofs.Holding.{changed}
use Rattle.ca_bank.proofs.law.a_channel_changes_alone.Goals as goal

pub returns : goal.returns
returns c = changed
