use Rattle.std.proofs.Common.{◌≡◌, ◌++◌, map, replicate}
use Rattle.ca_states.specs.ValidCode.{valid_code}
use Rattle.ca_table.specs.Opening.{empty_bank}
use Rattle.ca_table.specs.Parts.{part_seen}
use Rattle.ca_table.proofs.opening.push_banks.Given as goal

abbrev pub invariant-loop-number : goal.invariant-loop-number
invariant-loop-number g l = map (part_seen g.C.Clock.least g.C.Clock.faults g.C.Clock.readings) l.parts.items ≡ map (part_seen g.C.Clock.least g.C.Clock.faults g.C.Clock.readings) l.initial.parts.items ++ replicate l.number (empty_bank l.workers (valid_code l.code))
