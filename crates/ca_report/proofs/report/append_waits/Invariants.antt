use Rattle.std.proofs.Common.{◌≡◌, ◌++◌, ◌-◌, flat_map}
use Rattle.ca_value.specs.Seq.{list}
use Rattle.ca_replay.specs.World.{world_state, waits_from, waits_made}
use Rattle.ca_report.specs.Report.{wait_line}
use Rattle.ca_report.proofs.report.append_waits.Given as goal

abbrev pub invariant-loop-behind : goal.invariant-loop-behind
invariant-loop-behind l =
    list l.into ++ flat_map wait_line (waits_from l.world l.place) ≡ list l.fn.into ++ flat_map wait_line (world_state l.world).waits

abbrev pub decreases-loop-behind : goal.decreases-loop-behind
decreases-loop-behind l = waits_made l.world - l.place
