use Rattle.std.proofs.Common.{◌∙◌, sym, ap}
use Rattle.ca_pool.specs.Preparing.{in_place}
use Rattle.ca_table.specs.Parts.{clockwork_seen}
use Rattle.ca_pool.proofs.Preparations.{seen_parted}
use Rattle.ca_pool.proofs.preparation.joined.Goals as goal

pub returns-in-Some : goal.returns-in-Some
returns-in-Some g c = let K = g.C.Clock in let w = c.with_times in
    sym (seen_parted K.least K.faults K.readings w.result c.args.clock c.in-Some.timers (sym w.ensures.timers) (sym w.ensures.clock) (sym w.ensures.mark)) ∙ ap (λ o. in_place (clockwork_seen K.least K.faults K.readings c.args.clock.value) o) (sym c.in-Some.is)
