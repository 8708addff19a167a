use Rattle.std.proofs.Common.{arith}
use Rattle.ca_journal.proofs.Lighter.{lighter_item, lighter_pair}
use Rattle.ca_journal.proofs.numbered.+ports.Goals as goal

pub items_ports_fit-ports_fit-requires : goal.items_ports_fit-ports_fit-requires
items_ports_fit-ports_fit-requires t c =
    (omega (arith, c.decreases, lighter_item c.args.items.now c.loop-item.item-index c.item-item.result c.loop-item-test.true c.item-item.is), tt)

pub pairs_ports_fit-ports_fit-requires : goal.pairs_ports_fit-ports_fit-requires
pairs_ports_fit-ports_fit-requires t c =
    (omega (arith, c.decreases, lighter_pair c.args.pairs.now c.loop-pair.pair-index c.pair-item.result c.loop-pair-test.true c.pair-item.is), tt)

pub pairs_ports_fit-ports_fit-requires-in-loop-pair : goal.pairs_ports_fit-ports_fit-requires-in-loop-pair
pairs_ports_fit-ports_fit-requires-in-loop-pair t c =
    (omega (arith, c.decreases, lighter_pair c.args.pairs.now c.loop-pair.pair-index c.pair-item.result c.loop-pair-test.true c.pair-item.is), tt)
