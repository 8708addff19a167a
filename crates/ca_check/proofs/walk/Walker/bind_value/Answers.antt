use Rattle.std.proofs.Common.{◌≡◌, ◌++◌, ◌∷◌, [], List, length, ap, ◌∙◌, append_assoc}
use Rattle.ca_value.specs.Seq.{list}
use Rattle.ca_term.specs.declared.term.Term.{Term}
use Rattle.ca_term.specs.Kernel.{Kernel}
use Rattle.ca_term.specs.View.{kernel}
use Rattle.ca_reader.specs.View.{form_tree}
use Rattle.ca_forms.specs.Judged.{total_binder, binder_parts}
use Rattle.ca_forms.specs.WalkView.{terms_of}
use Rattle.ca_forms.proofs.BindLaws.{relisted, terms_append}
use Rattle.ca_check.proofs.walk.Walker.bind_value.Goals as goal

pub returns-clause-ok : goal.returns-clause-ok
returns-clause-ok c =
    let rest : List Kernel = binder_parts c.args.place (length c.args.self.now.scope) (total_binder (form_tree c.args.binder.now)) in
    let added : list c.push.new.self ≡ list c.args.values ++ c.args.term ∷ [] = c.push.ensures.added ∙ ap (λ (xs : List Term). xs ++ c.args.term ∷ []) c.in_ok-reserve.ensures.same in
    relisted c.bind_parts.result _ _ (ap (λ ks. ks ++ rest) (ap terms_of added ∙ terms_append (list c.args.values) (c.args.term ∷ [])) ∙ append_assoc (terms_of (list c.args.values)) (kernel c.args.term ∷ []) rest) c.bind_parts.ensures.ok
