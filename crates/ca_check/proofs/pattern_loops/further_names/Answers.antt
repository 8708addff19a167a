use Rattle.std.proofs.Common.{suc, length, List, ap, sym, ◌∙◌}
use Rattle.ca_value.specs.Seq.{list}
use Rattle.ca_reader.specs.declared.form.Form.{Form}
use Rattle.ca_forms.specs.Binders.{width}
use Rattle.ca_forms.proofs.ShapeLaws.{names_count, vector_binder}
use Rattle.ca_check.proofs.pattern_loops.further_names.Goals as goal

pub returns-in-Vector : goal.returns-in-Vector
returns-in-Vector c = ap (λ (fs : List Form). suc (length fs)) c.as_slice.ensures ∙ ap suc (sym (names_count (list c.in-Vector.names)))
    ∙ ap width (sym (vector_binder c.args.binder.now c.in-Vector.names c.in-Vector.is))
