use Rattle.std.proofs.Common.{◌∙◌, Some, sym, ap}
use Rattle.ca_pool.specs.Preparing.{clock_seen}
use Rattle.ca_pool.proofs.Preparations.{seen_parted}
use Rattle.ca_pool.proofs.preparation.take_times.Goals as goal

pub returns-in-Some-clause-seen : goal.returns-in-Some-clause-seen
returns-in-Some-clause-seen g c = let K = g.C.Clock in let p = c.part_times-parted in
    ap Some (seen_parted K.least K.faults K.readings c.in-Some.clock p.result.0 p.result.1 p.ensures.timers p.ensures.clock p.ensures.mark) ∙ ap (clock_seen K.least K.faults K.readings) (sym c.in-Some.is)
