use Rattle.std.proofs.Common.{◌≡◌, ◌∷◌, ◌++◌, [], ◌<◌, length, ap, ◌∙◌, arith}
use Rattle.ca_value.specs.Seq.{list}
use Rattle.ca_value.specs.View.{view, views}
use Rattle.ca_journal_reader.specs.FieldText.{arguments_parted}
use Rattle.ca_journal_reader.proofs.Loops.{parted_push, map_more, map_there}
use Rattle.ca_journal_reader.proofs.list.parted.Goals as goal

pub returns-clause-some : goal.returns-clause-some
returns-clause-some c =
    let left = list c.pop.new.self in
    let whole : list c.args.values ≡ left ++ c.in_ok-answer.answer ∷ [] = c.in_ok-answer.ensures.some in
    let count = c.len.ensures in
    let some = c.if-len-eq0.false in
    let more : 0 < length left = omega (arith, count, some) in
    ap (λ z. arguments_parted (views z)) whole ∙ ap arguments_parted (map_more view left c.in_ok-answer.answer) ∙ parted_push (views left) (view c.in_ok-answer.answer) (map_there view left more)
