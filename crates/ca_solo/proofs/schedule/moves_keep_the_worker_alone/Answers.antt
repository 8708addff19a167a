use Rattle.ca_solo.proofs.Keeping.{starts_alone, move_kept, ends_solo}
use Rattle.ca_solo.proofs.schedule.moves_keep_the_worker_alone.Goals as goal

pub returns-clause-starts : goal.returns-clause-starts
returns-clause-starts c = starts_alone

pub returns-clause-goes_on : goal.returns-clause-goes_on
returns-clause-goes_on c = move_kept

pub returns-clause-ends : goal.returns-clause-ends
returns-clause-ends c = ends_solo
