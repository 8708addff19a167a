use Rattle.ca_solo.proofs.Covering.{schedule_moves}
use Rattle.ca_solo.proofs.Runs.{moves_solo, runs_reach}
use Rattle.ca_solo.proofs.schedule.moves_make_the_schedule.Goals as goal

pub returns-clause-solo : goal.returns-clause-solo
returns-clause-solo c = moves_solo

pub returns-clause-every : goal.returns-clause-every
returns-clause-every c = schedule_moves

pub returns-clause-reaches : goal.returns-clause-reaches
returns-clause-reaches c = runs_reach
