use Rattle.ca_solo.proofs.Runs.{runs_seated}
use Rattle.ca_solo.proofs.seats.running_tasks_have_seats.Goals as goal

pub returns : goal.returns
returns c = runs_seated
