use Rattle.std.proofs.Common.{◌≡◌, ℕ, List}
use Rattle.ca_turns.specs.Views.{having_missed}
use Rattle.ca_turns.proofs.table.Table.hold_later.Given as goal

abbrev pub invariant-loop : goal.invariant-loop
invariant-loop g l =
    (goal.iterator-loop g).can_next l.iterator' × (goal.iterator-loop g).is_finite l.iterator'
    × (l.hand.table ≡ l.initial.hand.table) × (l.hand.parts ≡ l.initial.hand.parts) × ((missed : List ℕ) × (l.hand.view ≡ having_missed l.initial.hand.view missed))
