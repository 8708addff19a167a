use Rattle.ca_pool.proofs.AtEvents.{turns_both}
use Rattle.ca_pool.proofs.Resolutions.{same_both}
use Rattle.ca_pool.proofs.preparation.take_others.Goals as goal

pub take_woken-requires-clause-carries : goal.take_woken-requires-clause-carries
take_woken-requires-clause-carries g c = let r = c.requires.carries in (r.0, r.1, r.2, c.take_timers-clock.result, c.take_timers-clock.ensures.carries r.0 r.1 r.2 r.3)

pub returns-clause-same : goal.returns-clause-same
returns-clause-same g c = same_both c.args.worker.now c.take_timers-clock.new.worker c.take_woken.new.worker c.take_timers-clock.ensures.same c.take_woken.ensures.same

pub returns-clause-turns : goal.returns-clause-turns
returns-clause-turns g c = turns_both c.args.worker.now.hand c.take_timers-clock.new.worker.hand c.take_woken.new.worker.hand c.take_timers-clock.ensures.turns c.take_woken.ensures.turns

pub returns-clause-carries : goal.returns-clause-carries
returns-clause-carries g c = λ program n l s. c.take_woken.ensures.carries program n l c.take_timers-clock.result (c.take_timers-clock.ensures.carries program n l s)
