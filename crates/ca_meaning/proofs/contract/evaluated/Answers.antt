use Rattle.std.proofs.Common.{subst, sym, IsTrue}
use Rattle.ca_value.specs.Seq.{list}
use Rattle.ca_value.specs.Builtins.{admits_arguments}
use Rattle.ca_term.specs.View.{kernels}
use Rattle.ca_meaning.proofs.OperandLaws.{length-operands}
use Rattle.ca_meaning.proofs.contract.evaluated.Goals as goal

pub apply_builtin-requires : goal.apply_builtin-requires
apply_builtin-requires c = subst (λ n. IsTrue (admits_arguments c.args.builtin n)) (sym (length-operands (list c.in_ok-args.args) (kernels (list c.args.operands.now)) c.in_ok-args.ensures)) c.requires
