use Rattle.ca_solo.proofs.Answers.{alone_later}
use Rattle.ca_solo.proofs.schedule.further_answers_change_nothing.Goals as goal

pub returns : goal.returns
returns c = alone_later
