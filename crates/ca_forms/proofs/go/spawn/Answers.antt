use Rattle.std.proofs.Common.{◌≤◌, arith}
use Rattle.ca_value.specs.Seq.{list}
use Rattle.ca_term.specs.View.{kernels}
use Rattle.ca_forms.specs.Depth.{kernels_depth}
use Rattle.ca_forms.proofs.GoLaws.{spawn_small}
use Rattle.ca_forms.proofs.go.spawn.Goals as goal

pub apply-requires : goal.apply-requires
apply-requires c =
    let small : kernels_depth (kernels (list c.in_ok-operands-2.operands)) ≤ 1
    = spawn_small _ (list c.in_ok-operands.operands) c.local.result c.args.captured.now c.args.port c.in_ok-operands-2.ensures.ok c.in_ok-operands.ensures.ok c.local.ensures in
    omega arith

pub returns-clause-small : goal.returns-clause-small
returns-clause-small c =
    let small : kernels_depth (kernels (list c.in_ok-operands-2.operands)) ≤ 1
    = spawn_small _ (list c.in_ok-operands.operands) c.local.result c.args.captured.now c.args.port c.in_ok-operands-2.ensures.ok c.in_ok-operands.ensures.ok c.local.ensures in
    rw c.in_ok-term.ensures.ok (omega arith)
