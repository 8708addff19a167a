use Rattle.std.proofs.Common.{◌≡◌, ◌+◌, ◌≤◌, drop}
use Rattle.ca_reader.specs.Bytes.{past}
use Rattle.ca_reader.proofs.lines.past.Given as goal

abbrev pub invariant-loop-byte : goal.invariant-loop-byte
invariant-loop-byte l = record {
  rest : past l.at (drop l.byte-index l.bytes) ≡ past l.fn.place l.bytes;
  line_bound : l.at.line ≤ l.fn.place.line + l.byte-index;
  column_bound : l.at.column ≤ l.fn.place.column + l.byte-index;
}
