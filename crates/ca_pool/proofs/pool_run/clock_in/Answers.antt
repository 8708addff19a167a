use Rattle.ca_pool.proofs.SoloRuns.{clock_told}
use Rattle.ca_pool.proofs.pool_run.clock_in.Goals as goal

pub returns : goal.returns
returns g c = λ t e. let K = g.C.Clock in clock_told K.least K.faults K.readings c.args.contents c.in-Timers.clockwork c.into_inner-clock.result t c.in-Timers.is c.into_inner-clock.ensures e
