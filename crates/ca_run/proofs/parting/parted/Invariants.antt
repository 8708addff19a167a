use Rattle.std.proofs.Common.{length, ◌-◌}
use Rattle.ca_run.proofs.Markers.{NoneBefore}
use Rattle.ca_run.proofs.parting.parted.Given as goal

abbrev pub invariant-loop-start : goal.invariant-loop-start
invariant-loop-start l = NoneBefore l.input l.start

abbrev pub decreases-loop-start : goal.decreases-loop-start
decreases-loop-start l = length l.input - l.start
