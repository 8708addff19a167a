use Rattle.std.proofs.Common.{◌-◌, take, reverse, ap, ◌∙◌}
use Rattle.ca_value.specs.Seq.{list}
use Rattle.ca_value.proofs.VectorLaws.{range_by_reverse}
use Rattle.ca_value.proofs.seq.Seq.into_range.Goals as goal

pub returns : goal.returns
returns g c =
    c.reverse-2.ensures.items
    ∙ ap reverse (c.truncate-2.ensures.items ∙ ap (take (c.args.end - c.args.start)) (c.reverse.ensures.items ∙ ap reverse c.truncate.ensures.items))
    ∙ range_by_reverse c.args.start c.args.end (list c.args.self) c.requires.order c.requires.within
