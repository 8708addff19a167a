use Rattle.ca_bank.proofs.AfterCalls.{registry_changed, registry_kept}
use Rattle.ca_bank.proofs.standing.a_registry_changes.Goals as goal

pub returns-clause-answered : goal.returns-clause-answered
returns-clause-answered c = registry_changed

pub returns-clause-refused : goal.returns-clause-refused
returns-clause-refused c = registry_kept
