use Rattle.std.proofs.Common.{◌≡◌, ◌≤◌, ◌<◌, map, drop, length}
use Rattle.std.specs.Prelude.{IfSome}
use Rattle.ca_journal.specs.Least.{least_from}
use Rattle.ca_journal.specs.Left.{entries_waiting}
use Rattle.ca_journal.proofs.least.least_of.Given as goal

abbrev pub invariant-loop-place : goal.invariant-loop-place
invariant-loop-place l =
    (l.place ≤ length l.fronts) × (l.least ≡ least_from l.place (map (entries_waiting l.lists) (drop l.place l.fronts))) × IfSome l.least (λ b. b.place < length l.fronts)

abbrev pub decreases-loop-place : goal.decreases-loop-place
decreases-loop-place l = l.place
