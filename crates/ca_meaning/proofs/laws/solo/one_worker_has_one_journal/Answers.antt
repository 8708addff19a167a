use Rattle.ca_meaning.proofs.SoloLaws.{solo_once}
use Rattle.ca_meaning.proofs.laws.solo.one_worker_has_one_journal.Goals as goal

pub returns : goal.returns
returns c = solo_once
