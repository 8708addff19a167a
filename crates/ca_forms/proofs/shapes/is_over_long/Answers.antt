use Rattle.std.proofs.Common.{ap, sym, ◌∙◌, nat_lt}
use Rattle.ca_value.specs.Seq.{list}
use Rattle.ca_forms.specs.Judged.{over_long}
use Rattle.ca_forms.proofs.ShapeLaws.{names_count, vector_binder}
use Rattle.ca_forms.proofs.shapes.is_over_long.Goals as goal

pub returns-in-Vector : goal.returns-in-Vector
returns-in-Vector c = ap (nat_lt 4096) (c.len.ensures ∙ sym (names_count (list c.in-Vector.names))) ∙ ap over_long (sym (vector_binder c.args.form.now c.in-Vector.names c.in-Vector.is))
