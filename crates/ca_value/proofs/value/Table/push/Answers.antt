use Rattle.std.proofs.Common.{◌≡◌, ◌+◌, [], ◌∷◌, ◌++◌, max, rules}
use Rattle.ca_value.specs.Pairs.{pairs_list}
use Rattle.ca_value.specs.Measure.{weight_of, depth_of}
use Rattle.ca_value.specs.View.{pair_view}
use Rattle.ca_value.specs.Measured.{capped}
use Rattle.ca_value.proofs.PairMeasures.{measured-push}
use Rattle.ca_value.proofs.value.Table.push.Goals as goal

pub invariant_of-self-2 : goal.invariant_of-self-2
invariant_of-self-2 c =
    let p = c.args.pair in
    let e : pairs_list c.push.new.self ≡ pairs_list c.self.inside.pairs ++ p ∷ [] = search rules in
    let w : c.saturating_add-weight.result ≡ capped (c.self.inside.weight + capped (weight_of (pair_view p).0 + weight_of (pair_view p).1)) = search rules in
    let d : c.max-depth.result ≡ max c.self.inside.depth (capped (max (depth_of (pair_view p).0) (depth_of (pair_view p).1))) = search rules in
    measured-push (pairs_list c.push.new.self) (pairs_list c.self.inside.pairs) p _ _ _ _ c.self.invariant e w d
