use Rattle.std.proofs.Common.{◌-◌}
use Rattle.ca_run_rows.proofs.rest.+hold_from.Given as goal

abbrev pub decreases-hold_from : goal.decreases-hold_from
decreases-hold_from g l = 34 - l.part
