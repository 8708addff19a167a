use Rattle.std.proofs.Common.{◌≡◌, sym, ◌∙◌, ap, drop, slice_get, Some, None, get_or, ◌+◌}
use Rattle.ca_value.specs.Seq.{list}
use Rattle.ca_value.specs.View.{view}
use Rattle.ca_term.specs.Kernel.{put}
use Rattle.ca_term.specs.View.{kernel}
use Rattle.ca_meaning.proofs.OperandLaws.{text-step, text-done}
use Rattle.ca_meaning.proofs.started.text_with.Goals as goal

pub returns-in_default : goal.returns-in_default
returns-in_default c =
    let ops = list c.args.operands.now in
    let i = c.loop-name.name-index in
    let is : slice_get ops i ≡ None = ap (slice_get ops) (sym c.loop-name.invariant.at) ∙ sym c.in_default.ensures in
    text-done (drop i c.as_slice-name-items.result.now) ops i (kernel c.loop-name.now) is ∙ c.loop-name.invariant.rest

pub loop-name-preserved : goal.loop-name-preserved
loop-name-preserved c =
    let ops = list c.args.operands.now in
    let i = c.loop-name.name-index in
    let names = c.as_slice-name-items.result.now in
    let is : slice_get ops i ≡ Some c.in-Some.operand.now = ap (slice_get ops) (sym c.loop-name.invariant.at) ∙ sym c.in-Some.ensures in
    let e : kernel c.in_ok-now-2.now ≡ put (get_or names i 0) (view c.value.result.now) (kernel c.loop-name.now) = c.in_ok-now-2.ensures in
    record {
      at = ap (λ n. n + 1) c.loop-name.invariant.at;
      rest = text-step names ops i c.in-Some.operand.now (kernel c.loop-name.now) (kernel c.in_ok-now-2.now) c.loop-name-test.true is (e ∙ ap (λ v. put (get_or names i 0) v (kernel c.loop-name.now)) c.value.ensures) ∙ c.loop-name.invariant.rest;
      no_value = c.loop-name.invariant.no_value;
    }
