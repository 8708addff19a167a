use Rattle.std.proofs.Common.{◌≡◌, ◌<◌, ◌≤◌, length, sym, ap, ◌∙◌, arith}
use Rattle.std.proofs.lemmas.List.{length-map}
use Rattle.ca_value.specs.View.{view, views}
use Rattle.ca_value.specs.declared.value.Value.TheVariants.{Nil}
use Rattle.ca_states.specs.Machine.{begun}
use Rattle.ca_states.proofs.SlotLaws.{views_push}
use Rattle.ca_states.proofs.StandingLaws.{begun_full, begun_next}
use Rattle.ca_states.proofs.slots.fill.Goals as goal

pub loop-slots-preserved : goal.loop-slots-preserved
loop-slots-preserved c =
    let width = c.args.width in
    let xs = c.loop-slots.slots.items in
    let many = length-map xs view in
    let lt : length (views xs) < width = omega (arith, c.loop-slots-test.true, many) in record {
      within = omega (arith, c.loop-slots-test.true, c.in_ok-push.ensures.len);
      begun = ap (begun width) (ap views c.in_ok-push.ensures.items ∙ views_push xs Nil) ∙ begun_next width (views xs) lt ∙ c.loop-slots.invariant.begun;
    }

pub returns : goal.returns
returns c =
    let width = c.args.width in
    let xs = c.loop-slots.slots.items in
    let many = length-map xs view in
    let le : width ≤ length (views xs) = omega (arith, c.loop-slots-test.false, many) in
    sym (begun_full width (views xs) le) ∙ c.loop-slots.invariant.begun
