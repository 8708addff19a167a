use Rattle.std.proofs.Common.{◌∙◌, sym}
use Rattle.ca_pool.proofs.StillParts.{all_rest, none_before, one_rests}
use Rattle.ca_pool.proofs.survey.stirred.Goals as goal

pub loop-place-init : goal.loop-place-init
loop-place-init c = none_before c.args.bank.now

pub loop-place-preserved : goal.loop-place-preserved
loop-place-preserved c = one_rests c.args.bank.now c.loop-place.place c.in-Some.port.n c.loop-place.invariant (sym c.in-Some.ensures) (sym c.rests.ensures ∙ c.if-not-rests.false)

pub returns-in-None : goal.returns-in-None
returns-in-None c = all_rest c.args.bank.now c.loop-place.place c.loop-place.invariant (sym c.in-None.ensures)
