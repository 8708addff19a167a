use Rattle.std.proofs.Common.{◌≡◌, [], length, min, ◌+◌, ◌-◌, ◌*◌}
use Rattle.ca_value.specs.Seq.{list}
use Rattle.ca_value.specs.View.{views, map_pairs}
use Rattle.ca_journal_reader.specs.ValueText.{items_read, pairs_read, value_read}
use Rattle.ca_journal_reader.proofs.cursor.Cursor.+value.Given as goal

abbrev pub decreases-value_within : goal.decreases-value_within
decreases-value_within l = l.depth * 4

abbrev pub decreases-items : goal.decreases-items
decreases-items l = l.depth * 4 + 1

abbrev pub decreases-vector : goal.decreases-vector
decreases-vector l = l.depth * 4 + 2

abbrev pub decreases-pair : goal.decreases-pair
decreases-pair l = l.depth * 4 + 1

abbrev pub decreases-pairs : goal.decreases-pairs
decreases-pairs l = l.depth * 4 + 2

abbrev pub decreases-map : goal.decreases-map
decreases-map l = l.depth * 4 + 3

abbrev pub invariant-items-loop : goal.invariant-items-loop
invariant-items-loop l =
    items_read (value_read l.depth) (l.end - l.counter) (views (list l.items)) l.self.rest.now ≡ items_read (value_read l.depth) (length l.initial.self.rest.now) [] l.initial.self.rest.now

abbrev pub invariant-pairs-loop : goal.invariant-pairs-loop
invariant-pairs-loop l =
    pairs_read (value_read l.depth) (l.end - l.counter) (map_pairs l.map) l.self.rest.now ≡ pairs_read (value_read l.depth) (min (length l.initial.self.rest.now) 65536) [] l.initial.self.rest.now
