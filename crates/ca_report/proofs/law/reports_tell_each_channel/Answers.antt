use Rattle.ca_report.proofs.Telling.{facts, listing}
use Rattle.ca_report.proofs.law.reports_tell_each_channel.Goals as goal

pub returns : goal.returns
returns c = record {
  order = λ program journal s r. (facts program journal s r).rising;
  each = λ program journal s p r. listing program journal s p r;
}
