use Rattle.ca_networks.proofs.Spawning.{all_spawned}
use Rattle.ca_networks.proofs.spawns.system_tasks_have_values.Goals as goal

pub returns : goal.returns
returns c = all_spawned
