use Rattle.std.proofs.Common.{refl, ◌∙◌}
use Rattle.ca_turns.proofs.table.Table.hold_later.Goals as goal

pub loop-init : goal.loop-init
loop-init g c = (tt, tt, refl, refl, (_, refl))

pub try_a_while-requires-clause-table : goal.try_a_while-requires-clause-table
try_a_while-requires-clause-table g c = c.loop.invariant.2 ∙ c.requires.table
