use Rattle.std.proofs.Common.{◌≡◌, ◌≤ℤ◌, pos, Ok, length, sym, ap, ◌∙◌, arith}
use Rattle.std.specs.Prelude.{FitsSigned, unsigned_abs, slice_range}
use Rattle.std.specs.Int.{w64}
use Rattle.std.proofs.lemmas.Int.{ints, to_z-of_z}
use Rattle.std.proofs.lemmas.List.{length-map}
use Rattle.ca_value.specs.Seq.{list}
use Rattle.ca_value.specs.View.{view, views}
use Rattle.ca_value.specs.Kinds.{vector_from}
use Rattle.ca_value.specs.Vectors.{part_between}
use Rattle.ca_value.proofs.VectorLaws.{views_slice_range, part_between_in}
use Rattle.ca_value.proofs.builtin.vectors.between.Goals as goal

pub returns : goal.returns
returns c =
    let xs = list c.in_ok-items.items in
    let ts = views xs in
    let start : FitsSigned w64 c.args.start = c.ranges.start in
    let end : FitsSigned w64 c.args.end = c.ranges.end in
    let cut : list c.into_range.result ≡ slice_range xs (unsigned_abs c.args.start) (unsigned_abs c.args.end) =
    simp to_z-of_z at c.into_range.ensures in
    let size : length ts ≡ length xs = length-map xs view in
    let low : pos 0 ≤ℤ c.args.start = omega (arith, ints) in
    let order : c.args.start ≤ℤ c.args.end = omega (arith, ints) in
    let high : c.args.end ≤ℤ pos (length ts) = omega (arith, ints) in
    ap Ok (c.in_ok-vector.ensures ∙ ap (λ ys. vector_from (views ys)) cut ∙ ap vector_from (views_slice_range xs (unsigned_abs c.args.start) (unsigned_abs c.args.end)))
    ∙ sym (part_between_in ts c.args.start c.args.end low order high) ∙ ap (λ us. part_between us c.args.start c.args.end) c.in_ok-items.ensures
