use Rattle.std.proofs.Common.{arith, ◌<◌, ◌++◌, ◌∷◌, [], List, length, ap, ◌∙◌, length-append}
use Rattle.ca_value.specs.Seq.{list}
use Rattle.ca_forms.proofs.BindLaws.{part_step, total_step}
use Rattle.ca_check.proofs.walk.Walker.unpack.Goals as goal

pub loop-i-preserved : goal.loop-i-preserved
loop-i-preserved c =
    let within : c.loop-i.i < length c.args.names.now = omega arith in
    let added = c.push.ensures.added ∙ ap (λ (xs : List _). xs ++ c.in_ok-part_of.field-0 ∷ []) c.in_ok-reserve.ensures.same in
    record {
      same = rw added (part_step c.args.place c.args.whole c.loop-i.i (length c.args.names.now) (list c.loop-i.values) c.in_ok-part_of.field-0 within c.in_ok-part_of.ensures.ok ∙ c.loop-i.invariant.same);
      names = rw c.in_ok-bind_name.ensures.ok (total_step c.args.names.now c.loop-i.i c.index-names-i.result c.loop-i.self.scope within c.index-names-i.is ∙ c.loop-i.invariant.names);
      longer = rw added (length-append (list c.loop-i.values) (c.in_ok-part_of.field-0 ∷ []) ∙ omega (arith, c.loop-i.invariant.longer));
      kept = c.in_ok-bind_name.ensures.gathered ∙ c.loop-i.invariant.kept;
    }
