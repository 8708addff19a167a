use Rattle.std.proofs.Common.{sym, ◌∙◌}
use Rattle.ca_value.specs.View.{view}
use Rattle.ca_asking.proofs.OperandLaws.{sized-number, sized-fault}
use Rattle.ca_asking.proofs.making.sized.Goals as goal

pub returns-else-is_unbuffered-clause-ok : goal.returns-else-is_unbuffered-clause-ok
returns-else-is_unbuffered-clause-ok c = sized-number (view c.args.value.now) c.whole.result (sym c.is_unbuffered.ensures ∙ c.if-is_unbuffered.false) c.whole.ensures.ok c.whole.ensures.least

pub returns-else-is_unbuffered-clause-err : goal.returns-else-is_unbuffered-clause-err
returns-else-is_unbuffered-clause-err c = sized-fault (view c.args.value.now) c.whole.result (sym c.is_unbuffered.ensures ∙ c.if-is_unbuffered.false) c.whole.ensures.err
