use Rattle.ca_report.proofs.Reporting.{reported}
use Rattle.ca_report.proofs.law.tallies_make_the_report.Goals as goal

pub returns : goal.returns
returns c = λ program journal s t reaches saw. reported program journal s t reaches saw
