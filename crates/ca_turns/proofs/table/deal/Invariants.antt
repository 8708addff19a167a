use Rattle.std.proofs.Common.{◌≡◌, ℕ, ◌-◌, ◌≤◌, List, [], length}
use Rattle.std.specs.Prelude.{All}
use Rattle.std.specs.Vec.{vec_capacity}
use Rattle.ca_turns.specs.Views.{idle}
use Rattle.ca_turns.specs.Hands.{IsFresh}
use Rattle.ca_turns.proofs.table.deal.Given as goal

abbrev pub invariant-loop : goal.invariant-loop
invariant-loop g l = (l.seat.table_id ≡ l.words.table_id) × ((names : List ℕ) × (l.seat.me ≡ (idle l.initial.seat.me.0.opening l.hands names, [])) × (length names ≡ l.hands - l.counter))
    × (length l.all.items ≡ l.counter) × All (IsFresh l.words.table_id l.initial.seat.me.0.opening l.hands) l.all.items × (l.hands ≤ vec_capacity l.all)
