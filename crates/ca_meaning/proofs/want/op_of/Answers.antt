use Rattle.std.proofs.Common.{◌≡◌, sym, ap, ◌∙◌, List}
use Rattle.std.specs.Prelude.{Ok, Err}
use Rattle.ca_value.specs.Seq.{list}
use Rattle.ca_term.specs.declared.term.Term.{Term}
use Rattle.ca_term.specs.View.{kernels}
use Rattle.ca_term.specs.Operation.{op_view}
use Rattle.ca_term.specs.Asking.{asked}
use Rattle.ca_asking.specs.Asked.{asked_view}
use Rattle.ca_meaning.specs.Redex.{values_of}
use Rattle.ca_meaning.proofs.OperandLaws.{values_by}
use Rattle.ca_meaning.proofs.Asked.{wanted, unfaulted}
use Rattle.ca_meaning.proofs.want.op_of.Goals as goal

pub returns-in-Ok : goal.returns-in-Ok
returns-in-Ok c = λ turns depth h.
    let vs = values_of (kernels (list c.args.operands.now)) in
    let same = sym (values_by c.as_slice.result.now) ∙ ap (λ (ts : List Term). values_of (kernels ts)) c.as_slice.ensures in
    let asks : Ok (op_view c.in-Ok.op) ≡ asked c.args.head vs c.args.place = sym (ap asked_view c.in-Ok.is) ∙ c.in_ok-op.ensures ∙ ap (λ us. asked c.args.head us c.args.place) same in
    wanted c.args.head vs c.args.place (Ok (op_view c.in-Ok.op)) asks turns depth h

pub returns-in-Err : goal.returns-in-Err
returns-in-Err c = λ turns depth h.
    let vs = values_of (kernels (list c.args.operands.now)) in
    let same = sym (values_by c.as_slice.result.now) ∙ ap (λ (ts : List Term). values_of (kernels ts)) c.as_slice.ensures in
    let asks : Err c.in-Err.field-0 ≡ asked c.args.head vs c.args.place = sym (ap asked_view c.in-Err.is) ∙ c.in_ok-op.ensures ∙ ap (λ us. asked c.args.head us c.args.place) same in
    absurd (unfaulted c.args.head vs c.args.place c.in-Err.field-0 asks turns depth h)
