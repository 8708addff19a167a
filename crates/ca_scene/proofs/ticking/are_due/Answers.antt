use Rattle.std.proofs.Common.{◌≡◌, sym, ◌∙◌, arith, length}
use Rattle.ca_value.specs.Deadlines.{due}
use Rattle.ca_scene.proofs.Dues.{due_end, due_other, due_same}
use Rattle.ca_scene.proofs.ticking.are_due.Goals as goal

pub returns-then-not-is_due : goal.returns-then-not-is_due
returns-then-not-is_due c = sym c.loop-place.invariant ∙ due_other (due c.args.moment c.args.timers.now.deadlines) c.args.ports.now c.loop-place.place _ c.loop-place-test.true (sym c.is_due.ensures ∙ c.if-not-is_due.true)

pub loop-place-preserved : goal.loop-place-preserved
loop-place-preserved c = sym (due_same (due c.args.moment c.args.timers.now.deadlines) c.args.ports.now c.loop-place.place _ c.loop-place-test.true (sym c.is_due.ensures ∙ c.if-not-is_due.false)) ∙ c.loop-place.invariant

pub returns : goal.returns
returns c =
    let e : c.loop-place.place ≡ length c.args.ports.now = omega arith in
    sym c.loop-place.invariant ∙ due_end (due c.args.moment c.args.timers.now.deadlines) c.args.ports.now c.loop-place.place e ∙ sym c.none_due.ensures
