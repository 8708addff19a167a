use Rattle.std.proofs.Common.{◌≡◌, ◌+◌, ◌≤◌, ◌<◌, length}
use Rattle.std.specs.Prelude.{option_map}
use Rattle.ca_journal.specs.Coming.{coming}
use Rattle.ca_journal.specs.Cut.{AllFit, first_end, end_in}
use Rattle.ca_journal.proofs.Cutting.{later}
use Rattle.ca_journal.proofs.cut.end_within.Given as goal

abbrev pub invariant-loop-entry : goal.invariant-loop-entry
invariant-loop-entry l = record {
  left : 0 < l.left;
  within : l.count + l.left ≤ l.budget;
  fit : AllFit (coming l.walk);
  end : option_map (later l.count) (first_end l.left (coming l.walk)) ≡ end_in l.budget (coming l.initial.walk);
  lists : l.walk.lists ≡ l.initial.walk.lists;
}

abbrev pub decreases-loop-entry : goal.decreases-loop-entry
decreases-loop-entry l = length (coming l.walk)
