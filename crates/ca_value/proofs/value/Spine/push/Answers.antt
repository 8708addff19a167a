use Rattle.std.proofs.Common.{◌≡◌, ◌+◌, [], ◌∷◌, ◌++◌, max, rules}
use Rattle.ca_value.specs.Seq.{list}
use Rattle.ca_value.specs.Measure.{weight_of, depth_of}
use Rattle.ca_value.specs.View.{view}
use Rattle.ca_value.specs.Measured.{capped}
use Rattle.ca_value.proofs.Measures.{measured-push}
use Rattle.ca_value.proofs.value.Spine.push.Goals as goal

-- src/value.rt:85:5
pub invariant_of-self-2 : goal.invariant_of-self-2
invariant_of-self-2 c =
    let v = c.args.value in
    let e : list c.push.new.self ≡ list c.self.inside.items ++ v ∷ [] = search rules in
    let p : c.saturating_add-weight.result ≡ capped (c.self.inside.weight + capped (weight_of (view v))) = search rules in
    let q : c.max-depth.result ≡ max c.self.inside.depth (capped (depth_of (view v))) = search rules in
    measured-push (list c.push.new.self) (list c.self.inside.items) v _ _ _ _ c.self.invariant e p q
