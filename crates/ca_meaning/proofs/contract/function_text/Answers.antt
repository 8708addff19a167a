use Rattle.std.proofs.Common.{◌≡◌, subst, sym, ap, ◌∙◌, IfOk, rules}
use Rattle.ca_value.specs.Seq.{list}
use Rattle.ca_value.specs.Tree.{nil}
use Rattle.ca_value.specs.declared.value.Value.TheVariants.{Nil}
use Rattle.ca_term.specs.declared.term.Term.{Term, Const, the_lemmas}
use Rattle.ca_term.specs.Kernel.{const}
use Rattle.ca_term.specs.View.{kernel, kernels}
use Rattle.ca_term.specs.Program.{ProcedureView, procedure_view, program_view}
use Rattle.ca_meaning.specs.Redex.{values_of}
use Rattle.ca_meaning.specs.Operands.{values_in}
use Rattle.ca_meaning.specs.Started.{started}
use Rattle.ca_meaning.proofs.OperandLaws.{procedure-none, procedure-some}
use Rattle.ca_meaning.proofs.contract.function_text.Goals as goal

pub returns-in-None : goal.returns-in-None
returns-in-None c =
    let e : kernel (Const Nil) ≡ const nil = search (rules, the_lemmas) in
    e ∙ sym (ap (λ (p : ProcedureView). started p (values_in (values_of (kernels (list c.args.operands.now))))) (procedure-none (program_view c.args.program.now).functions c.args.number (sym c.in-None.ensures)))

pub returns-in-Some : goal.returns-in-Some
returns-in-Some c = subst (λ (p : ProcedureView). IfOk c.text_with.result (λ (t : Term). kernel t ≡ started p (values_in (values_of (kernels (list c.args.operands.now)))))) (sym (procedure-some (program_view c.args.program.now).functions c.args.number (procedure_view c.in-Some.function.now) (sym c.in-Some.ensures))) c.text_with.ensures
