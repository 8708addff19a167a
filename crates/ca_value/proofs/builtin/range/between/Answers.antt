use Rattle.std.proofs.Common.{◌≡◌, ◌≤◌, ◌<◌, ℕ, Ok, sym, ap, ◌∙◌, subst}
use Rattle.std.specs.Prelude.{FitsSigned}
use Rattle.std.specs.Int.{w64}
use Rattle.std.proofs.lemmas.Int.{to_z-of_z}
use Rattle.ca_value.specs.Seq.{list}
use Rattle.ca_value.specs.View.{views}
use Rattle.ca_value.specs.Kinds.{vector_from}
use Rattle.ca_value.specs.Vectors.{distance_of, integers_from}
use Rattle.ca_value.proofs.RangeLaws.{light_range, heavy_range}
use Rattle.ca_value.proofs.builtin.range.between.Goals as goal

pub returns-then-count-ge-GREATEST_WEIGHT : goal.returns-then-count-ge-GREATEST_WEIGHT
returns-then-count-ge-GREATEST_WEIGHT c =
    let low : FitsSigned w64 c.args.low = c.ranges.low in
    let high : FitsSigned w64 c.args.high = c.ranges.high in
    let count : c.distance-count.result ≡ distance_of c.args.low c.args.high = simp to_z-of_z at c.distance-count.ensures.distance in
    let P : ℕ → Type 0 = λ n. 65536 ≤ n in
    sym (heavy_range c.args.low (distance_of c.args.low c.args.high) (subst P count c.if-count-ge-GREATEST_WEIGHT.true))

pub returns : goal.returns
returns c =
    let low : FitsSigned w64 c.args.low = c.ranges.low in
    let high : FitsSigned w64 c.args.high = c.ranges.high in
    let count : c.distance-count.result ≡ distance_of c.args.low c.args.high = simp to_z-of_z at c.distance-count.ensures.distance in
    let P : ℕ → Type 0 = λ n. n < 65536 in
    let few : distance_of c.args.low c.args.high < 65536 = subst P count c.if-count-ge-GREATEST_WEIGHT.false in
    let made : views (list c.in_ok-items.items) ≡ integers_from c.args.low c.distance-count.result = simp to_z-of_z at c.in_ok-items.ensures in
    ap Ok (c.in_ok-vector.ensures ∙ ap vector_from (made ∙ ap (integers_from c.args.low) count))
    ∙ sym (light_range c.args.low (distance_of c.args.low c.args.high) few)
