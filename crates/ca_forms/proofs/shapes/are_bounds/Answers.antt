use Rattle.std.proofs.Common.{◌≡◌, arith, sym, ◌∙◌, true, false, is_some}
use Rattle.ca_reader.specs.View.{form_tree}
use Rattle.ca_forms.specs.Binders.{binder}
use Rattle.ca_forms.proofs.ShapeLaws.{bounds_good, bounds_bad, bounds_end}
use Rattle.ca_forms.proofs.shapes.are_bounds.Goals as goal

pub loop-i-preserved : goal.loop-i-preserved
loop-i-preserved c =
    let t : is_some (binder (form_tree c.index-forms-i.result)) ≡ true = grind arith in
    record { same = sym (bounds_good c.args.forms.now c.loop-i.i c.index-forms-i.result (omega arith) c.index-forms-i.is t) ∙ c.loop-i.invariant.same; within = omega arith }

pub returns-then-not-is_binder : goal.returns-then-not-is_binder
returns-then-not-is_binder c =
    let t : is_some (binder (form_tree c.index-forms-i.result)) ≡ false = grind arith in
    sym (bounds_bad c.args.forms.now c.loop-i.i c.index-forms-i.result (omega arith) c.index-forms-i.is t) ∙ c.loop-i.invariant.same

pub returns : goal.returns
returns c = bounds_end c.args.forms.now c.loop-i.i (omega arith) (omega arith) ∙ c.loop-i.invariant.same
