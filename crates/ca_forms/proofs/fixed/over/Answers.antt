use Rattle.std.proofs.Common.{◌≡◌, ◌≤◌, map, arith, ap}
use Rattle.ca_value.specs.Seq.{list}
use Rattle.ca_term.specs.Kernel.{var}
use Rattle.ca_term.specs.View.{kernels, kernels_of}
use Rattle.ca_forms.specs.Depth.{kernels_depth}
use Rattle.ca_forms.proofs.FixedLaws.{vars_depth}
use Rattle.ca_forms.proofs.fixed.over.Goals as goal

pub apply-requires : goal.apply-requires
apply-requires c =
    let small : kernels_depth (kernels_of (map var c.args.numbers.now)) ≤ 1 = vars_depth c.args.numbers.now in
    let same : kernels (list c.in_ok-operands.operands) ≡ kernels_of (map var c.args.numbers.now) = ap kernels_of c.in_ok-operands.ensures.ok in
    rw same (omega arith)
