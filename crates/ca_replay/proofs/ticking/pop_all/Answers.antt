use Rattle.std.proofs.Common.{arith, ◌≡◌, ◌+◌, ◌-◌, suc, length, ◌∙◌}
use Rattle.ca_value.specs.Deadlines.{due}
use Rattle.ca_replay.proofs.Ticked.{popped_all, popped_one}
use Rattle.ca_replay.proofs.ticking.pop_all.Goals as goal

pub loop-place-preserved : goal.loop-place-preserved
loop-place-preserved c =
    let many : length (due c.args.now c.loop-place.timers.deadlines) ≡ suc (c.args.count - (c.loop-place.place + 1)) = omega (arith, c.loop-place.invariant.more, c.loop-place-test.true) in
    let p = popped_one c.args.now (c.args.count - (c.loop-place.place + 1)) c.loop-place.timers.deadlines c.pop_due.new.self.deadlines c.pop_due.result c.loop-place.invariant.ordered c.pop_due.ensures.port c.pop_due.ensures.popped many in
    record {
      ordered = p.0;
      left = p.1 ∙ c.loop-place.invariant.left;
      more = omega (arith, p.2, c.loop-place-test.true);
      moment = c.pop_due.ensures.moment ∙ c.loop-place.invariant.moment;
    }

pub returns-clause-deadlines : goal.returns-clause-deadlines
returns-clause-deadlines c =
    let none : length (due c.args.now c.loop-place.timers.deadlines) ≡ 0 = omega (arith, c.loop-place.invariant.more, c.loop-place-test.false) in
    popped_all c.args.now c.loop-place.timers.deadlines c.loop-place.invariant.ordered none ∙ c.loop-place.invariant.left
