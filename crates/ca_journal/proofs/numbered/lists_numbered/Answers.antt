use Rattle.ca_journal.proofs.Numbering.{ListNumbered, each_on}
use Rattle.ca_journal.proofs.numbered.lists_numbered.Goals as goal

pub loop-list-preserved : goal.loop-list-preserved
loop-list-preserved c =
    λ rest. c.loop-list.invariant (each_on ListNumbered c.args.lists.now c.loop-list.list-index c.list-item.result c.loop-list-test.true c.list-item.is c.list_numbered.ensures rest)
