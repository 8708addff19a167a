use Rattle.std.proofs.Common.{refl}
use Rattle.ca_turns.proofs.table.Table.try_a_while.Goals as goal

pub loop-init : goal.loop-init
loop-init g c = (refl, refl, (_, refl))
