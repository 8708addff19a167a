use Rattle.ca_report.proofs.Dropping.{drops}
use Rattle.ca_report.proofs.law.channels_drop_by_their_policy.Goals as goal

pub returns : goal.returns
returns c = λ program journal s p ch r at. drops program journal s p ch r at
