use Rattle.std.proofs.Common.{◌≡◌, ◌+◌, ◌≤◌, ℕ, nat_eq, take, map}
use Rattle.indexmap.specs.IndexMap.{get, spare, index_map_len}
use Rattle.ca_registry.specs.Marks.{topic_view, first_marked}
use Rattle.ca_registry.proofs.topic.note_all.Given as goal

abbrev pub invariant-loop-i : goal.invariant-loop-i
invariant-loop-i l = record {
  marked : (m : ℕ) → get nat_eq l.firsts m ≡ first_marked m (map topic_view (take l.i l.topics));
  few : index_map_len l.firsts ≤ l.i;
  room : index_map_len l.fn.firsts + spare l.fn.firsts ≤ index_map_len l.firsts + spare l.firsts;
}
