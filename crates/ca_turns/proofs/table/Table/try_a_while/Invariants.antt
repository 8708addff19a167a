use Rattle.std.proofs.Common.{◌≡◌, ℕ, List}
use Rattle.ca_turns.specs.Views.{having_missed}
use Rattle.ca_turns.proofs.table.Table.try_a_while.Given as goal

abbrev pub invariant-loop : goal.invariant-loop
invariant-loop g l = (l.hand.table ≡ l.initial.hand.table) × (l.hand.parts ≡ l.initial.hand.parts) × ((missed : List ℕ) × (l.hand.view ≡ having_missed l.initial.hand.view missed))
