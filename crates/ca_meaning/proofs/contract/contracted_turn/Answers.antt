use Rattle.std.proofs.Common.{◌≡◌, subst, sym, IfOk}
use Rattle.ca_value.specs.Seq.{list}
use Rattle.ca_term.specs.declared.term.Term.{Term}
use Rattle.ca_term.specs.View.{kernel}
use Rattle.ca_meaning.proofs.OperandLaws.{after_turn-else}
use Rattle.ca_meaning.proofs.contract.contracted_turn.Goals as goal

pub returns-in-None : goal.returns-in-None
returns-in-None c = subst (λ k. IfOk c.copy-in-None.result (λ (t : Term). kernel t ≡ k)) (sym (after_turn-else (list c.args.names.now) (kernel c.args.text.now) (kernel c.args.now.now) (sym c.in-None.ensures))) c.copy-in-None.ensures
