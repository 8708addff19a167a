use Rattle.std.proofs.Common.{arith, ◌∙◌}
use Rattle.ca_forms.proofs.UsesLaws.{last_aims}
use Rattle.ca_forms.proofs.uses.+aims_out.Goals as goal

pub last_aims_out-returns : goal.last_aims_out-returns
last_aims_out-returns t c = c.aims_out.ensures ∙ last_aims c.args.terms.now _ c.index-terms-terms.result (omega arith) c.index-terms-terms.is
