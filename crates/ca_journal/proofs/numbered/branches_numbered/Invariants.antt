use Rattle.std.proofs.Common.{drop, map}
use Rattle.ca_meaning.specs.Sound.{Each}
use Rattle.ca_meaning.specs.Shown.{BranchNumbered}
use Rattle.ca_term.specs.Event.{branch_view}
use Rattle.ca_journal.proofs.numbered.branches_numbered.Given as goal

abbrev pub invariant-loop-branch : goal.invariant-loop-branch
invariant-loop-branch l = Each BranchNumbered (map branch_view (drop l.branch-index l.branches)) → Each BranchNumbered (map branch_view l.branches)
