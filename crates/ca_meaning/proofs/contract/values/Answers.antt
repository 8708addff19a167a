use Rattle.std.proofs.Common.{◌≡◌, List, subst, sym, ap, ◌∙◌, IfOk}
use Rattle.ca_value.specs.Seq.{list}
use Rattle.ca_value.specs.View.{trees}
use Rattle.ca_value.specs.declared.seq.Seq.{Seq}
use Rattle.ca_value.specs.declared.value.Value.{Value}
use Rattle.ca_term.specs.declared.term.Term.{Term}
use Rattle.ca_term.specs.View.{kernels}
use Rattle.ca_meaning.specs.Redex.{values_of}
use Rattle.ca_meaning.proofs.OperandLaws.{values_by}
use Rattle.ca_meaning.proofs.contract.values.Goals as goal

pub returns : goal.returns
returns c = subst (λ k. IfOk c.copies.result (λ (s : Seq Value). trees (list s) ≡ k)) (sym (values_by c.as_slice.result.now) ∙ ap (λ (ts : List Term). values_of (kernels ts)) c.as_slice.ensures) c.copies.ensures
