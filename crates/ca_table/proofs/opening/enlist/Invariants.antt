use Rattle.std.proofs.Common.{◌≡◌, ◌+◌, ℕ, List, All, length}
use Rattle.ca_term.specs.Program.{program_view}
use Rattle.ca_states.specs.ValidCode.{valid_code}
use Rattle.ca_turns.specs.Hands.{IsFresh, TableId}
use Rattle.ca_table.specs.Seen.{PartSeen}
use Rattle.ca_table.specs.Workers.{IsNewWorker}
use Rattle.ca_table.proofs.opening.enlist.Given as goal

abbrev pub invariant-loop-hand : goal.invariant-loop-hand
invariant-loop-hand g l = (length l.hands.items + length l.all.items ≡ l.workers)
    × ((id : TableId) (cs : List (PartSeen g.row.A.Denot)) (n : ℕ) → All (IsFresh id cs n) l.initial.hands.items → All (IsFresh id cs n) l.hands.items × All (IsNewWorker (program_view l.program) (valid_code l.code) l.workers id cs n) l.all.items)

abbrev pub decreases-loop-hand : goal.decreases-loop-hand
decreases-loop-hand g l = length l.hands.items
