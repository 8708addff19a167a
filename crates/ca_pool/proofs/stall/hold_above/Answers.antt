use Rattle.std.proofs.Common.{arith, refl}
use Rattle.ca_pool.proofs.AllParts.{spread_more}
use Rattle.ca_pool.proofs.Lefts.{kept_left}
use Rattle.ca_pool.proofs.stall.hold_above.Goals as goal

pub returns-clause-holds : goal.returns-clause-holds
returns-clause-holds g c = λ P code n one f s spread. let h = c.hold_range.ensures.holds P code n one f s in let up = c.hold_range.ensures.reached.0 in
    (h.0, h.1, spread_more c.args.low c.args.timers c.hold_range.result f h.0 c.requires.order (omega (arith, up)) spread h.2)

pub returns-then-low-timers-clause-left : goal.returns-then-low-timers-clause-left
returns-then-low-timers-clause-left g c = let v = c.args.worker.now.hand.view in kept_left v v refl

pub returns-clause-left : goal.returns-clause-left
returns-clause-left g c = c.hold_range.ensures.left
