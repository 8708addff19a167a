use Rattle.std.proofs.Common.{◌≡◌, sym, ◌∙◌, ap, drop, slice_get, Some, None, ◌+◌}
use Rattle.ca_value.specs.Seq.{list}
use Rattle.ca_term.specs.View.{kernel}
use Rattle.ca_meaning.proofs.Beginnings.{text_step, text_done}
use Rattle.ca_meaning.proofs.started.started.Goals as goal

pub returns-in_default : goal.returns-in_default
returns-in_default c =
    let vs = list c.args.values.now in
    let i = c.loop-name.name-index in
    let is : slice_get vs i ≡ None = ap (slice_get vs) (sym c.loop-name.invariant.at) ∙ sym c.in_default.ensures in
    text_done (drop i c.as_slice-name-items.result.now) vs i (kernel c.loop-name.now) is ∙ c.loop-name.invariant.rest

pub loop-name-preserved : goal.loop-name-preserved
loop-name-preserved c =
    let vs = list c.args.values.now in
    let i = c.loop-name.name-index in
    let names = c.as_slice-name-items.result.now in
    let is : slice_get vs i ≡ Some c.in-Some.value.now = ap (slice_get vs) (sym c.loop-name.invariant.at) ∙ sym c.in-Some.ensures in
    record {
      at = ap (λ n. n + 1) c.loop-name.invariant.at;
      rest = text_step names vs i c.in-Some.value.now (kernel c.loop-name.now) (kernel c.in_ok-now-2.now) c.loop-name-test.true is c.in_ok-now-2.ensures ∙ c.loop-name.invariant.rest;
    }
