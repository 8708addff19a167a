use Rattle.std.proofs.Common.{◌≡◌, drop}
use Rattle.ca_value.specs.View.{trees}
use Rattle.ca_term.specs.Asking.{too_large_branches}
use Rattle.ca_asking.proofs.judging.put_branches_fault.Given as goal

abbrev pub invariant-loop-branch : goal.invariant-loop-branch
invariant-loop-branch l = too_large_branches (trees (drop l.branch-index l.branches)) ≡ too_large_branches (trees l.branches)
