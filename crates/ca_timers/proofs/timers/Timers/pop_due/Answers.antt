use Rattle.std.proofs.Common.{arith}
use Rattle.ca_timers.proofs.Order.{due_at}
use Rattle.ca_timers.proofs.timers.Timers.pop_due.Goals as goal

pub returns-in_err-first-clause-port : goal.returns-in_err-first-clause-port
returns-in_err-first-clause-port c =
    let at = due_at c.args.now c.self.inside.queue.deadlines 0 c.self.invariant.0 in grind arith

pub returns-then-now-first-clause-port : goal.returns-then-now-first-clause-port
returns-then-now-first-clause-port c =
    let at = due_at c.args.now c.self.inside.queue.deadlines 0 c.self.invariant.0 in grind arith
