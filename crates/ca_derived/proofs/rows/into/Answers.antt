use Rattle.std.proofs.Common.{◌≡◌, IfOk, ap, ◌∙◌, subst}
use Rattle.ca_value.specs.Seq.{list}
use Rattle.ca_reader.specs.declared.form.Form.{Form}
use Rattle.ca_reader.specs.View.{form_tree, form_trees_of}
use Rattle.ca_derived.specs.Rows.{row_reduce}
use Rattle.ca_derived.proofs.RowLaws.{into_reduces}
use Rattle.ca_derived.proofs.rows.into.Goals as goal

pub returns : goal.returns
returns c = subst (λ t. IfOk c.reduce.result (λ (f : Form). form_tree f ≡ t))
    (ap (λ xs. row_reduce c.args.place (form_trees_of xs)) c.in_ok-parts.ensures ∙ into_reduces c.args.place (list c.args.parts)) c.reduce.ensures
