use Rattle.std.proofs.Common.{◌<◌, length, ap, ◌∙◌, arith}
use Rattle.std.specs.Prelude.{slice_set, slice_index_or}
use Rattle.ca_value.specs.Pairs.{pairs_list}
use Rattle.ca_value.specs.Tree.{nil}
use Rattle.ca_value.specs.View.{view, pair_views}
use Rattle.ca_value.proofs.PairMeasures.{set_value_in}
use Rattle.ca_value.proofs.value.Table.set.Goals as goal

pub invariant_of-self : goal.invariant_of-self
invariant_of-self c =
    let ps = pair_views (pairs_list c.self.inside.pairs) in
    let inside : c.args.place < length ps = omega (arith, ap length c.self.view_is, c.requires) in
    let s = set_value_in ps (pair_views c.as_slice-pairs.result.now) c.args.place (view c.args.value) (view c.set_value-old.result) inside
    c.set_value-old.ensures.old (ap pair_views c.as_slice-pairs.ensures ∙ c.set_value-old.ensures.set) in
    rw (← c.as_slice-pairs.ensures) (record {
      weighs = c.pairs_weight_after-weight.ensures _ _ _ c.self.invariant.weighs c.capped_weight.ensures c.capped_weight-weight.ensures s.lighter s.weighs;
      reaches = c.pairs_depth_after-depth.ensures _ _ _ c.self.invariant.reaches c.capped_depth.ensures c.capped_depth-depth.ensures s.reaches;
    })

pub returns : goal.returns
returns c =
    c.set_value-old.ensures.set
    ∙ ap (λ ps. slice_set ps c.args.place ((slice_index_or ps c.args.place (nil, nil)).0, view c.args.value)) c.self.view_is
