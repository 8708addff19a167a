use Rattle.std.proofs.Common.{◌≡◌, ◌++◌, drop, map, length}
use Rattle.std.specs.Prelude.{vec_capacity}
use Rattle.ca_journal.specs.Left.{entries_waiting}
use Rattle.ca_journal.specs.Merge.{entries}
use Rattle.ca_journal.proofs.walk.starts.Given as goal

abbrev pub invariant-loop-list : goal.invariant-loop-list
invariant-loop-list l =
    (length l.fronts.items ≡ l.list) × (vec_capacity l.fronts ≡ vec_capacity l.fn.fronts) × (map (entries_waiting l.lists) l.fronts.items ++ map entries (drop l.list l.lists) ≡ map entries l.lists)
