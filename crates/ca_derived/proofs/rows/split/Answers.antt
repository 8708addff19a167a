use Rattle.std.proofs.Common.{◌≡◌, rules, [], map, sym, ap, ◌∙◌, refl}
use Rattle.ca_value.specs.Seq.{list}
use Rattle.ca_reader.specs.View.{form_tree, form_trees}
use Rattle.ca_derived.specs.Rows.{row_split}
use Rattle.ca_derived.specs.Templates.{filled, first_form}
use Rattle.ca_derived.specs.declared.rows.TheConstants.{SPLIT}
use Rattle.ca_derived.proofs.RowLaws.{no_split, two_forms}
use Rattle.ca_derived.proofs.rows.split.Goals as goal

pub returns-in_ok-draft : goal.returns-in_ok-draft
returns-in_ok-draft c = c.only.ensures ∙ ap (first_form c.args.place) c.in_ok-draft.ensures
    ∙ two_forms (λ fs. first_form c.args.place (filled c.args.place SPLIT (map form_tree fs) []) ≡ row_split c.args.place (form_trees fs)) (λ f g. refl) (list c.args.parts) (search rules)

pub returns-else-len-eq2 : goal.returns-else-len-eq2
returns-else-len-eq2 c = c.nothing.ensures ∙ sym (no_split c.args.place (list c.args.parts) (search rules))
