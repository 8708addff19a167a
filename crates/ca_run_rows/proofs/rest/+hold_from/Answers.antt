use Rattle.std.proofs.Common.{arith, ◌∙◌}
use Rattle.ca_run_rows.proofs.Holding.{still_below}
use Rattle.ca_run_rows.proofs.rest.+hold_from.Goals as goal

pub hold_from-requires : goal.hold_from-requires
hold_from-requires g t c κs within = (omega (arith, c.decreases, c.if-part-ge-END.false), (within.0, (within.1.0, (within.1.1.0, (within.1.1.1.0, (within.1.1.1.1, (c.requires.table, (c.requires.slots, λ i h. omega (arith, c.requires.ascending i h)))))))))

pub hold_from-requires-else-part-eq-FREE : goal.hold_from-requires-else-part-eq-FREE
hold_from-requires-else-part-eq-FREE g t c κs within = (omega (arith, c.decreases, c.if-part-ge-END.false), (within.0, (within.1.0, (within.1.1.0, (within.1.1.1.0, (within.1.1.1.1, (c.hold.ensures.table ∙ c.requires.table, (c.requires.slots, still_below c.args.hand.now c.hold.new.hand c.args.part c.hold.ensures.others c.requires.ascending))))))))
