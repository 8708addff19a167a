use Rattle.ca_laws.proofs.Spawned.{spawned_once}
use Rattle.ca_laws.proofs.spawns.tasks_are_spawned_once.Goals as goal

pub returns : goal.returns
returns c = spawned_once
