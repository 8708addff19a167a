use Rattle.std.proofs.Common.{◌≡◌, ◌≤◌, ◌+◌, ◌*◌, drop, length}
use Rattle.ca_value.specs.View.{trees, tree_pairs}
use Rattle.ca_value.specs.Printed.{plain_items, plain_more, printed_pairs, printed_more_pairs}
use Rattle.ca_value.specs.declared.print.Style.TheVariants.{Plain}
use Rattle.ca_asking.proofs.room.+room.Given as goal

abbrev pub invariant-room_after_items-loop-value : goal.invariant-room_after_items-loop-value
invariant-room_after_items-loop-value l = record {
  left : l.room + length (plain_items (trees l.items)) ≡ l.fn.room + length (plain_more (trees (drop l.value-index l.rest)));
  less : l.room ≤ l.fn.room;
}

abbrev pub invariant-room_after_pairs-loop-pair : goal.invariant-room_after_pairs-loop-pair
invariant-room_after_pairs-loop-pair l = record {
  left : l.room + length (printed_pairs Plain (tree_pairs l.pairs)) ≡ l.fn.room + length (printed_more_pairs Plain (tree_pairs (drop l.pair-index l.rest)));
  less : l.room ≤ l.fn.room;
}

-- a vector or a map takes two bytes of the room
abbrev pub decreases-room_after : goal.decreases-room_after
decreases-room_after l = 2 * l.room

abbrev pub decreases-room_after_items : goal.decreases-room_after_items
decreases-room_after_items l = 2 * l.room + 1

abbrev pub decreases-room_after_pairs : goal.decreases-room_after_pairs
decreases-room_after_pairs l = 2 * l.room + 2

abbrev pub decreases-room_after_pair : goal.decreases-room_after_pair
decreases-room_after_pair l = 2 * l.room + 1
