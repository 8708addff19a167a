use Rattle.ca_meaning.proofs.Soundness.{reached_sound}
use Rattle.ca_meaning.proofs.Possible.{stuck_quiet, quiet_stuck}
use Rattle.ca_meaning.proofs.TaskBodies.{tasks_somewhere}
use Rattle.ca_meaning.proofs.laws.ends.stuck_runs_are_quiet.Goals as goal

pub returns : goal.returns
returns c = λ program journal s checked r. (stuck_quiet program s (reached_sound program journal s r) (tasks_somewhere program checked journal s r), λ q p. quiet_stuck program s p.1 p.0 q p.2)
