use Rattle.ca_meaning.proofs.Single.{reached_once}
use Rattle.ca_meaning.proofs.laws.states.a_journal_has_one_state.Goals as goal

pub returns : goal.returns
returns c = reached_once
