use Rattle.std.proofs.Common.{◌≡◌, sym, ap, ◌∙◌}
use Rattle.ca_value.specs.Seq.{list}
use Rattle.ca_term.specs.Kernel.{apply}
use Rattle.ca_term.specs.View.{kernel, kernels}
use Rattle.ca_meaning.specs.Body.{standing}
use Rattle.ca_meaning.specs.BodyViews.{is_at_op}
use Rattle.ca_meaning.proofs.Redexes.{kernel-Apply}
use Rattle.ca_meaning.proofs.want.want_of.Goals as goal

pub returns-in_ok-op_of-in-Apply : goal.returns-in_ok-op_of-in-Apply
returns-in_ok-op_of-in-Apply c = λ turns depth h.
    let k : kernel c.args.redex.now ≡ apply c.in-Apply.head (kernels (list c.in-Apply.operands)) c.in-Apply.place = ap kernel c.in-Apply.is ∙ kernel-Apply c.in-Apply.head c.in-Apply.operands c.in-Apply.place in
    ap (standing turns depth) k ∙ c.in_ok-op_of-in-Apply.ensures turns depth (sym (ap (λ t. is_at_op (standing turns depth t)) k) ∙ h)
