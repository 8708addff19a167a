use Rattle.std.proofs.Common.{◌≡◌, ◌+◌, ◌-◌, [], ◌∷◌, ap, ◌∙◌, rules}
use Rattle.ca_states.specs.Code.{moving}
use Rattle.ca_lower.specs.Implements.{moves}
use Rattle.ca_lower.specs.Emit.{add}
use Rattle.ca_lower.specs.Views.{builder_view}
use Rattle.ca_lower.proofs.BuilderLaws.{moves_next}
use Rattle.ca_lower.proofs.builder.Builder.put_moves.Goals as goal

pub loop-i-preserved : goal.loop-i-preserved
loop-i-preserved c =
    let to = c.args.to in
    let from = c.args.from in
    let i = c.loop-i.i in
    let n = c.args.count in
    let B = builder_view c.loop-i.self in
    let e : builder_view c.put.new.self ≡ add (moving (to + i) (from + i) ∷ []) B = search rules in
    ap (add (moves (to + (i + 1)) (from + (i + 1)) (n - (i + 1)))) e ∙ moves_next to from i n B c.loop-i-test.true ∙ c.loop-i.invariant
