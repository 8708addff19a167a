use Rattle.ca_commit.proofs.Stales.{rests_stale, rests_unseen}
use Rattle.ca_commit.proofs.decisions.settling_tells.Goals as goal

pub returns-clause-stale : goal.returns-clause-stale
returns-clause-stale g c = λ h p side e. rests_stale h p side e

pub returns-clause-unheld : goal.returns-clause-unheld
returns-clause-unheld g c = λ h p w e. rests_unseen h p w e
