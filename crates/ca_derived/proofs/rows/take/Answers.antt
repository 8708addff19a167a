use Rattle.std.proofs.Common.{◌≡◌, ◌⊎◌, inl, inr, rules, [], ◌∷◌, ◌++◌, length, map, take, drop, sym, ap, ◌∙◌}
use Rattle.std.specs.Prelude.{codes}
use Rattle.ca_value.specs.Seq.{list}
use Rattle.ca_reader.specs.View.{form_tree}
use Rattle.ca_derived.specs.Rows.{call}
use Rattle.ca_derived.specs.Templates.{filled, first_form}
use Rattle.ca_derived.specs.declared.rows.TheConstants.{TAKE}
use Rattle.ca_derived.proofs.RowLaws.{no_take, take_is}
use Rattle.ca_derived.proofs.rows.take.Goals as goal
use Rattle.ca_derived.proofs.rows.take.Goals.{then-len-eq2, else-len-eq2}

pub returns-in_ok-draft : goal.returns-in_ok-draft
returns-in_ok-draft c =
    let given : list c.from_vec-then-len-eq3.result ≡ take 2 (list c.args.parts) ++ c.in_ok-made.made ∷ [] = search rules in
    let made : form_tree c.in_ok-made.made ≡ call c.args.place (codes "chan") (map form_tree (drop 2 (list c.args.parts))) = search rules in
    let few : (length (list c.args.parts) ≡ 2) ⊎ (length (list c.args.parts) ≡ 3) = elim c.if-len-eq2.branch [ then-len-eq2 w ↦ inl (search rules) | else-len-eq2 w ↦ inr (search rules) ] in
    c.only.ensures ∙ ap (first_form c.args.place) c.in_ok-draft.ensures
    ∙ ap (λ fs. first_form c.args.place (filled c.args.place TAKE (map form_tree fs) [])) given ∙ take_is c.args.place (list c.args.parts) c.in_ok-made.made few made

pub returns-else-len-eq3 : goal.returns-else-len-eq3
returns-else-len-eq3 c = c.nothing.ensures ∙ sym (no_take c.args.place (list c.args.parts) (search rules) (search rules))
