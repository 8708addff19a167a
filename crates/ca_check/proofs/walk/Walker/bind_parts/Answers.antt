use Rattle.std.proofs.Common.{arith, ◌≡◌, ◌≤◌, ◌++◌, ◌∷◌, [], List, ℕ, length, nat_lt, false, ap, sym, ◌∙◌, append_assoc}
use Rattle.std.proofs.lemmas.Bool.{ltb-false}
use Rattle.ca_value.specs.Seq.{list}
use Rattle.ca_reader.specs.View.{form_tree, form_trees}
use Rattle.ca_forms.specs.Judged.{over_long, total_binder, total_names, binder_names}
use Rattle.ca_forms.specs.WalkView.{terms_of}
use Rattle.ca_forms.proofs.BindLaws.{relisted, on_ok, pattern_parts}
use Rattle.ca_forms.proofs.ShapeLaws.{names_count, vector_binder}
use Rattle.ca_check.proofs.walk.Walker.bind_parts.Goals as goal

pub unpack-requires : goal.unpack-requires
unpack-requires c =
    let long : over_long (total_binder (form_tree c.args.binder.now)) ≡ false = c.requires in
    let short : nat_lt 4096 (length (total_names (form_trees (list c.in-Vector.names)))) ≡ false = ap over_long (sym (vector_binder c.args.binder.now c.in-Vector.names c.in-Vector.is)) ∙ long in
    let most : length (total_names (form_trees (list c.in-Vector.names))) ≤ 4096 = ltb-false 4096 (length (total_names (form_trees (list c.in-Vector.names)))) short in
    rw c.as_slice.ensures (omega (arith, names_count (list c.in-Vector.names), most))

pub returns-in_ok-hide-in-Vector-clause-ok : goal.returns-in_ok-hide-in-Vector-clause-ok
returns-in_ok-hide-in-Vector-clause-ok c =
    let many' : length (total_names (form_trees (list c.in-Vector.names))) ≡ length c.as_slice.result.now = names_count (list c.in-Vector.names) ∙ ap (λ (xs : List _). length xs) (sym c.as_slice.ensures) in
    relisted c.unpack.result _ _ (pattern_parts c.args.place c.len-whole.result (length c.args.self.now.scope) (terms_of (list c.args.values)) (total_binder (form_tree c.args.binder.now)) (total_names (form_trees (list c.in-Vector.names))) c.args.binder.now.place (length c.as_slice.result.now)
    c.len-whole.ensures (vector_binder c.args.binder.now c.in-Vector.names c.in-Vector.is) many') c.unpack.ensures.ok

pub returns-in_ok-hide-in-Vector-clause-names : goal.returns-in_ok-hide-in-Vector-clause-names
returns-in_ok-hide-in-Vector-clause-names c =
    on_ok c.unpack.result _ _ (λ h. h ∙ ap (λ (z : List (List ℕ)). z ++ total_names (form_trees c.as_slice.result.now)) c.in_ok-hide-in-Vector.ensures.ok
    ∙ append_assoc c.args.self.now.scope ([] ∷ []) (total_names (form_trees c.as_slice.result.now))
    ∙ ap (λ (fs : List _). c.args.self.now.scope ++ [] ∷ total_names (form_trees fs)) c.as_slice.ensures
    ∙ ap (λ b. c.args.self.now.scope ++ binder_names b) (sym (vector_binder c.args.binder.now c.in-Vector.names c.in-Vector.is))) c.unpack.ensures.names
