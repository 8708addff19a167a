use Rattle.ca_bank.proofs.AfterCalls.{one_of_many}
use Rattle.ca_bank.proofs.standing.one_part_changes_alone.Goals as goal

pub returns : goal.returns
returns g c = one_of_many
