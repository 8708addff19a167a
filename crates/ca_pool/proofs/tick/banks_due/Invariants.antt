use Rattle.std.proofs.Common.{◌≡◌, take}
use Rattle.ca_value.specs.Deadlines.{due}
use Rattle.ca_pool.proofs.Ticked.{HasSome}
use Rattle.ca_pool.proofs.tick.banks_due.Given as goal

abbrev pub invariant-loop-place : goal.invariant-loop-place
invariant-loop-place g l = HasSome l.banks (due l.now l.timers.deadlines) l.place × (l.ports.items ≡ take l.place (due l.now l.timers.deadlines))
