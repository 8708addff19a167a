use Rattle.std.proofs.Common.{map, ap}
use Rattle.ca_table.specs.Parts.{part_seen}
use Rattle.ca_table.proofs.Pushes.{all_pushed, pushed}
use Rattle.ca_table.proofs.opening.opening_parts.Goals as goal

pub returns : goal.returns
returns g c = let K = g.C.Clock in let seen = part_seen K.least K.faults K.readings in
    all_pushed _ _ _ _ _ _ _ _ _ _ _ _ _ (ap (map seen) c.in_ok-parts.ensures.items) c.in_ok-push_lanes.ensures c.in_ok-push_banks.ensures c.in_ok-push_shards.ensures
    (pushed seen _ _ _ _ c.in_ok-push.ensures.items c.in_ok-timers.ensures) (pushed seen _ _ _ _ c.in_ok-push-2.ensures.items c.in_ok-main_ready.ensures) c.in_ok-push_readys.ensures
