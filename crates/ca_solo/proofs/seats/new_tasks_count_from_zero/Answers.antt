use Rattle.ca_solo.proofs.Counted.{runs_uncounted}
use Rattle.ca_solo.proofs.seats.new_tasks_count_from_zero.Goals as goal

pub returns : goal.returns
returns c = runs_uncounted
