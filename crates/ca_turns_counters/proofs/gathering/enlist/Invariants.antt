use Rattle.std.proofs.Common.{◌≡◌, ℕ, ◌+◌, ◌<◌, List, ◌++◌, length}
use Rattle.std.specs.Prelude.{All}
use Rattle.ca_turns.specs.Hands.{TableId, IsFresh}
use Rattle.ca_turns.specs.Places.{total}
use Rattle.ca_turns.specs.Views.{hands_stood_for}
use Rattle.ca_turns_counters.specs.Turning.{Counting}
use Rattle.ca_turns_counters.specs.Working.{IsNew, stand}
use Rattle.ca_turns_counters.proofs.gathering.enlist.Given as goal

abbrev pub invariant-loop-alloc : goal.invariant-loop-alloc
invariant-loop-alloc l = (0 < length l.hands.items + length l.workers.items) × ((rest : List Counting) × (l.initial.hands.items ≡ l.hands.items ++ rest))
    × (total stand l.workers.items + total (λ h. hands_stood_for h.view) l.hands.items ≡ total (λ h. hands_stood_for h.view) l.initial.hands.items)
    × ((id : TableId) (cs : List ℕ) (n : ℕ) → All (IsFresh id cs n) l.initial.hands.items → All (IsNew id cs n l.room) l.workers.items)

abbrev pub decreases-loop-alloc : goal.decreases-loop-alloc
decreases-loop-alloc l = length l.hands.items
