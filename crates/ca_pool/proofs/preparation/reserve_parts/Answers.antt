use Rattle.ca_pool.proofs.Preparations.{times_same, times_there}
use Rattle.ca_pool.proofs.preparation.reserve_parts.Goals as goal

pub returns-clause-shown : goal.returns-clause-shown
returns-clause-shown g c = let q = c.reserve.ensures in record { channels = q.channels; registries = q.registries; waits = q.waits; ready = q.ready }

pub returns-clause-next : goal.returns-clause-next
returns-clause-next g c = let k = c.reserve.ensures.counts in record { task = k.0; port = k.1; wait = k.2 }

pub returns-clause-timers : goal.returns-clause-timers
returns-clause-timers g c = let K = g.C.Clock in times_same K.least K.faults K.readings c.args.clock.now c.args.held.now.timers c.reserve.new.held.timers c.reserve.ensures.times

pub returns-clause-some : goal.returns-clause-some
returns-clause-some g c = times_there c.args.held.now.timers c.reserve.new.held.timers c.reserve.ensures.times
