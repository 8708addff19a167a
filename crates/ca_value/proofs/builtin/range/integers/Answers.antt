use Rattle.std.proofs.Common.{◌++◌, ◌∷◌, [], sym, ap, ◌∙◌, arith}
use Rattle.std.proofs.lemmas.List.{map_push}
use Rattle.std.specs.Int.{w64, cast_signed, cast_unsigned}
use Rattle.ca_value.specs.Seq.{list}
use Rattle.ca_value.specs.View.{view, views}
use Rattle.ca_value.specs.Vectors.{integers_from}
use Rattle.ca_value.proofs.RangeLaws.{integers_from_more}
use Rattle.ca_value.proofs.builtin.range.integers.Goals as goal

pub loop-k-preserved : goal.loop-k-preserved
loop-k-preserved c =
    let first = cast_signed w64 (cast_unsigned w64 c.args.first) in
    record {
      same = ap views c.push.ensures.added ∙ map_push view (list c.loop-k.items) c.integer_after.result
          ∙ ap (λ ts. ts ++ view c.integer_after.result ∷ []) c.loop-k.invariant.same
          ∙ ap (λ t. integers_from first c.loop-k.k ++ t ∷ []) c.integer_after.ensures ∙ sym (integers_from_more first c.loop-k.k);
      room = omega arith;
    }
