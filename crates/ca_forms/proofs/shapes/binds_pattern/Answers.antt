use Rattle.std.proofs.Common.{rules, arith, ◌+◌, ◌*◌, ◌<◌, length, ◌∙◌}
use Rattle.ca_forms.proofs.LoopLaws.{pattern_here, pattern_not, pattern_over}
use Rattle.ca_forms.proofs.shapes.binds_pattern.Goals as goal

pub returns-then-is_pattern : goal.returns-then-is_pattern
returns-then-is_pattern c =
    let h : 2 * c.loop-i.i + 1 < length c.args.items.now = omega (arith, c.loop-i-test.true) in
    pattern_here c.args.items.now c.loop-i.i c.index-items-i.result h c.index-items-i.is (search rules) ∙ c.loop-i.invariant

pub loop-i-preserved : goal.loop-i-preserved
loop-i-preserved c =
    let h : 2 * c.loop-i.i + 1 < length c.args.items.now = omega (arith, c.loop-i-test.true) in
    pattern_not c.args.items.now c.loop-i.i c.index-items-i.result h c.index-items-i.is (search rules) ∙ c.loop-i.invariant

pub returns : goal.returns
returns c = pattern_over c.args.items.now c.loop-i.i (omega (arith, c.loop-i-test.false)) ∙ c.loop-i.invariant
