use Rattle.std.proofs.Common.{drop}
use Rattle.ca_meaning.specs.Sound.{Each}
use Rattle.ca_journal.proofs.Numbering.{ListNumbered}
use Rattle.ca_journal.proofs.numbered.lists_numbered.Given as goal

abbrev pub invariant-loop-list : goal.invariant-loop-list
invariant-loop-list l = Each ListNumbered (drop l.list-index l.lists) → Each ListNumbered l.lists
