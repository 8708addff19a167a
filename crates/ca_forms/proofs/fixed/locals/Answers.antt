use Rattle.std.proofs.Common.{◌≡◌, map, ◌∙◌}
use Rattle.ca_value.specs.Seq.{list}
use Rattle.ca_term.specs.Kernel.{var}
use Rattle.ca_term.specs.View.{kernels, kernels_of}
use Rattle.ca_forms.specs.Operands.{with_vars}
use Rattle.ca_forms.proofs.FixedLaws.{kernels_same, with_vars_none}
use Rattle.ca_forms.proofs.fixed.locals.Goals as goal

pub returns-clause-ok : goal.returns-clause-ok
returns-clause-ok c =
    let all : with_vars (kernels (list c.new.result)) c.args.numbers.now ≡ kernels_of (map var c.args.numbers.now) = rw c.new.ensures (with_vars_none c.args.numbers.now) in
    kernels_same (list c.in_ok-terms.terms) (map var c.args.numbers.now) (c.in_ok-terms.ensures.ok ∙ all)
