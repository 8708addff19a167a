use Rattle.std.proofs.Common.{sym, ◌∙◌, ap, arith}
use Rattle.ca_value.specs.Seq.{list, spare}
use Rattle.ca_value.specs.View.{trees}
use Rattle.ca_pipes.proofs.MergeLaws.{left_out, kept_too}
use Rattle.ca_pipes.proofs.merge.without.Goals as goal
use Rattle.ca_pipes.proofs.merge.without.Goals.{then-not-is_port+in_ok-copy, else-not-is_port}

pub loop-input-preserved : goal.loop-input-preserved
loop-input-preserved c =
    elim c.if-not-is_port.branch [
      | then-not-is_port+in_ok-copy w ↦
          let added = ap (λ k. trees (list k)) w.kept-is ∙ ap trees w.push.ensures.added in
          let room = ap spare w.kept-is in
          record {
            same = added ∙ kept_too c.args.port.n c.args.inputs.now c.loop-input.input-index c.input-item.result (list c.loop-input.kept) w.in_ok-copy.field-0 c.loop-input-test.true c.input-item.is c.loop-input.invariant.same (sym c.is_port.ensures ∙ w.if-not-is_port.true) w.in_ok-copy.ensures;
            room = omega (arith, room, w.push.ensures.spare, c.loop-input.invariant.room);
          }
      | else-not-is_port w ↦
          let room = ap spare w.kept-is in
          record {
            same = ap (λ k. trees (list k)) w.kept-is ∙ left_out c.args.port.n c.args.inputs.now c.loop-input.input-index c.input-item.result (list c.loop-input.kept) c.loop-input-test.true c.input-item.is c.loop-input.invariant.same (sym c.is_port.ensures ∙ w.if-not-is_port.false);
            room = omega (arith, room, c.loop-input.invariant.room);
          }
    ]
