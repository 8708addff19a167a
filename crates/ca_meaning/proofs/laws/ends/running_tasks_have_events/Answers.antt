use Rattle.ca_meaning.proofs.Soundness.{reached_sound}
use Rattle.ca_meaning.proofs.Possible.{has_event}
use Rattle.ca_meaning.proofs.TaskBodies.{tasks_somewhere}
use Rattle.ca_meaning.proofs.laws.ends.running_tasks_have_events.Goals as goal

pub returns : goal.returns
returns c = λ program journal s t x checked r there goes. has_event program s (reached_sound program journal s r) t x there goes (tasks_somewhere program checked journal s r t x there)
