use Rattle.ca_bank.proofs.AfterCalls.{same_stands}
use Rattle.ca_bank.proofs.standing.room_changes_nothing.Goals as goal

pub returns : goal.returns
returns c = same_stands
