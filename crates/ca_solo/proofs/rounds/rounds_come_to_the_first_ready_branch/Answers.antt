use Rattle.ca_solo.proofs.Going.{first_from}
use Rattle.ca_solo.proofs.rounds.rounds_come_to_the_first_ready_branch.Goals as goal

pub returns : goal.returns
returns c = first_from
