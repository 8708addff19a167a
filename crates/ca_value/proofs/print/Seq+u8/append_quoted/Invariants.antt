use Rattle.std.proofs.Common.{◌≡◌, ◌++◌, drop}
use Rattle.ca_value.specs.Seq.{list}
use Rattle.ca_value.specs.Printed.{all_escaped}
use Rattle.ca_value.proofs.print.Seq+u8.append_quoted.Given as goal

abbrev pub invariant-loop-byte : goal.invariant-loop-byte
invariant-loop-byte l = list l.self ++ all_escaped (drop l.byte-index l.bytes) ≡ list l.initial.self ++ all_escaped l.bytes
