use Rattle.std.proofs.Common.{◌≡◌, ◌<◌, length, ap, ◌∙◌, sym, arith}
use Rattle.std.specs.Prelude.{slice_set}
use Rattle.std.proofs.lemmas.List.{length-map, map-set}
use Rattle.ca_value.specs.Seq.{list}
use Rattle.ca_value.specs.View.{view, views}
use Rattle.ca_value.proofs.Measures.{set_in}
use Rattle.ca_value.proofs.value.Spine.set.Goals as goal

pub invariant_of-self : goal.invariant_of-self
invariant_of-self c =
    let xs = list c.self.inside.items in
    let ys = c.as_slice-items.result.now in
    let e : ys ≡ slice_set xs c.args.place c.args.value = c.as_slice-items.ensures ∙ c.replace-old.ensures.set in
    let size : length c.args.self.now ≡ length xs = ap length (sym c.self.view_is) ∙ length-map xs view in
    let inside : c.args.place < length xs = omega (arith, size, c.requires) in
    let s = set_in ys xs c.args.place c.args.value c.replace-old.result inside c.replace-old.ensures.old e in
    rw (← c.as_slice-items.ensures) (record {
      weighs = c.items_weight_after-weight.ensures _ _ _ c.self.invariant.weighs c.capped_weight.ensures c.capped_weight-weight.ensures s.lighter s.weighs;
      reaches = c.items_depth_after-depth.ensures _ _ _ c.self.invariant.reaches c.capped_depth.ensures c.capped_depth-depth.ensures s.reaches;
    })

pub returns : goal.returns
returns c =
    let xs = list c.self.inside.items in
    ap views c.replace-old.ensures.set ∙ map-set view xs c.args.place c.args.value
    ∙ ap (λ ts. slice_set ts c.args.place (view c.args.value)) c.self.view_is
