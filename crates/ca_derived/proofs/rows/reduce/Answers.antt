use Rattle.std.proofs.Common.{rules, sym, ◌∙◌}
use Rattle.ca_value.specs.Seq.{list}
use Rattle.ca_derived.proofs.RowLaws.{no_reduce}
use Rattle.ca_derived.proofs.rows.reduce.Goals as goal

pub returns-else-len-eq3 : goal.returns-else-len-eq3
returns-else-len-eq3 c = c.nothing.ensures ∙ sym (no_reduce c.args.place (list c.args.parts) (search rules))
