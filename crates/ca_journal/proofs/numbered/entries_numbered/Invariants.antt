use Rattle.std.proofs.Common.{drop, map}
use Rattle.ca_journal.specs.Merge.{entry_view}
use Rattle.ca_journal.proofs.Numbering.{AllNumbered}
use Rattle.ca_journal.proofs.numbered.entries_numbered.Given as goal

abbrev pub invariant-loop-entry : goal.invariant-loop-entry
invariant-loop-entry l = AllNumbered (map entry_view (drop l.entry-index l.entries)) → AllNumbered (map entry_view l.entries)
