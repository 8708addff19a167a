use Rattle.std.proofs.Common.{◌≡◌, ◌+◌, ◌-◌, ◌≤◌, ◌<◌, ◌^◌, map, drop}
use Rattle.ca_meaning.specs.Cost.{cost}
use Rattle.ca_journal.specs.Mains.{mains}
use Rattle.ca_journal.specs.Merge.{entries, events_of, joined}
use Rattle.ca_journal.proofs.tally.tally_of.Given as goal

abbrev pub invariant-loop-list : goal.invariant-loop-list
invariant-loop-list l = record {
  spent : l.spent < 2 ^ 64 - 1 → cost (events_of (joined (map entries l.lists))) ≤ l.spent + cost (events_of (joined (map entries (drop l.list-index l.lists))));
  ends : l.ends < 2 ^ 64 - 1 → mains (events_of (joined (map entries l.lists))) ≡ l.ends + mains (events_of (joined (map entries (drop l.list-index l.lists))));
}
