use Rattle.ca_meaning.proofs.Systems.{system_rests, system_once, system_rested, never_nowhere, new_rests}
use Rattle.ca_meaning.proofs.laws.systems.system_tasks_rest_once.Goals as goal

pub returns : goal.returns
returns c = record { rests = system_rests; once = system_once; off = system_rested; somewhere = never_nowhere; begins = new_rests }
