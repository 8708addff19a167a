use Rattle.std.proofs.Common.{◌≡◌, ◌++◌, map, flat_map}
use Rattle.ca_value.specs.Seq.{list}
use Rattle.ca_replay.specs.World.{world_state}
use Rattle.ca_report.specs.Tallied.{row_entry, row_line, rows}
use Rattle.ca_report.proofs.report.append_channels.Given as goal

abbrev pub invariant-loop-port : goal.invariant-loop-port
invariant-loop-port l =
    list l.into ++ flat_map (row_line (world_state l.world)) (map row_entry l.port-iterator) ≡ list l.fn.into ++ flat_map (row_line (world_state l.world)) (rows l.tally)
