use Rattle.std.proofs.Common.{◌≡◌, ◌++◌, ◌∷◌, [], subst, sym, ap, ◌∙◌, IfOk, rules}
use Rattle.ca_value.specs.Seq.{list}
use Rattle.ca_value.specs.View.{trees}
use Rattle.ca_value.specs.declared.seq.Seq.{Seq}
use Rattle.ca_value.specs.declared.value.Value.{Value}
use Rattle.ca_term.specs.Operands.{without_last}
use Rattle.ca_asking.specs.Asked.{trees_by}
use Rattle.ca_asking.proofs.OperandLaws.{without_last-trees}
use Rattle.ca_asking.proofs.operands.all_but_last.Goals as goal

pub returns-in-Some : goal.returns-in-Some
returns-in-Some g c =
    let tree = g.O.AsOperand.tree in
    let e : c.args.values.now ≡ c.in-Some.first.now ++ c.in-Some.field-0-0.now ∷ [] = search rules in
    subst (λ k. IfOk c.copies.result (λ (s : Seq Value). trees (list s) ≡ k)) (sym (ap (λ xs. without_last (trees_by tree xs)) e ∙ without_last-trees tree c.in-Some.first.now c.in-Some.field-0-0.now)) c.copies.ensures
