use Rattle.std.proofs.Common.{◌∙◌, refl}
use Rattle.ca_pool.specs.Preparing.{AskedFor, clock_with}
use Rattle.ca_pool.proofs.Preparations.{made_still, next_of, shown_times}
use Rattle.ca_pool.proofs.Resolutions.{err_is, if_ok_is}
use Rattle.ca_pool.proofs.preparation.prepare_moment.Goals as goal

pub returns-in-Err-clause-shown : goal.returns-in-Err-clause-shown
returns-in-Err-clause-shown g c = shown_times c.args.held.now c.put_times.new.held c.put_times.ensures.others

pub returns-in-Err-clause-next : goal.returns-in-Err-clause-next
returns-in-Err-clause-next g c = next_of c.args.held.now c.put_times.new.held c.put_times.ensures.others.numbers

pub returns-in-Err-clause-kept : goal.returns-in-Err-clause-kept
returns-in-Err-clause-kept g c = let q = c.ask_moment-clock in c.put_times.ensures.seen ∙ err_is q.result.1 _ (q.ensures.refused c.args.held.now.timers) c.in-Err.is

pub returns-in-Ok-clause-shown : goal.returns-in-Ok-clause-shown
returns-in-Ok-clause-shown g c = record { channels = λ i. refl; registries = λ i. refl; waits = λ i. refl; ready = refl }

pub returns-in-Ok-clause-next : goal.returns-in-Ok-clause-next
returns-in-Ok-clause-next g c = record { task = refl; port = refl; wait = refl }

pub returns-in-Ok-clause-asked : goal.returns-in-Ok-clause-asked
returns-in-Ok-clause-asked g c = let K = g.C.Clock in let q = c.ask_moment-clock in
    if_ok_is (λ m. AskedFor m (clock_with K.least K.faults K.readings c.args.clock c.args.held.now.timers) (clock_with K.least K.faults K.readings q.result.0 c.args.held.now.timers)) q.result.1 c.in-Ok.moment (q.ensures.asked c.args.held.now.timers) c.in-Ok.is

pub returns-in-Ok-clause-made : goal.returns-in-Ok-clause-made
returns-in-Ok-clause-made g c = made_still g.A.Agent.place c.args.held.now c.in-Ok.moment c.args.plan.now c.requires.made
