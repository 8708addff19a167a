use Rattle.std.proofs.Common.{rules, ◌≡◌, ap, ◌∙◌}
use Rattle.ca_value.specs.Seq.{list}
use Rattle.ca_term.specs.View.{kernels, bindings}
use Rattle.ca_forms.specs.Depth.{kernels_depth, depth_of_bindings}
use Rattle.ca_forms.proofs.TermLaws.{numbered_depth, kernel-Loop}
use Rattle.ca_forms.proofs.gathered.Bodies.repeat.Goals as goal

pub limit-requires : goal.limit-requires
limit-requires c =
    let e : depth_of_bindings (bindings (list c.in_ok-rest.rest)) ≡ kernels_depth (kernels (list c.args.values))
    = ap depth_of_bindings c.in_ok-rest.ensures ∙ numbered_depth c.args.first (list c.args.values) in
    rw (kernel-Loop, e) (search rules)
