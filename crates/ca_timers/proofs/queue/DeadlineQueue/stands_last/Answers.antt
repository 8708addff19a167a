use Rattle.std.proofs.Common.{◌≡◌, ◌-◌, length, option_map, arith, length-append}
use Rattle.std.proofs.lemmas.List.{length-map}
use Rattle.ca_timers.specs.Timers.{deadline_view}
use Rattle.ca_timers.proofs.Order.{opened_last}
use Rattle.ca_timers.proofs.queue.DeadlineQueue.stands_last.Goals as goal

pub returns-in-Some : goal.returns-in-Some
returns-in-Some c e =
    let place : c.saturating_sub.result ≡ length c.args.self.now.deadlines - 1 = grind (arith, length-append, length-map) in
    opened_last (deadline_view c.args.deadline) c.args.self.now.deadlines c.saturating_sub.result (option_map deadline_view c.get.result) c.get.ensures.ordered place c.get.ensures.deadline (rw c.in-Some.is (grind arith))

pub returns-in-None : goal.returns-in-None
returns-in-None c e =
    let place : c.saturating_sub.result ≡ length c.args.self.now.deadlines - 1 = grind (arith, length-append, length-map) in
    opened_last (deadline_view c.args.deadline) c.args.self.now.deadlines c.saturating_sub.result (option_map deadline_view c.get.result) c.get.ensures.ordered place c.get.ensures.deadline (rw c.in-None.is tt)
