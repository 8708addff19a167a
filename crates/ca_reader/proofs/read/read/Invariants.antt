use Rattle.std.proofs.Common.{◌≡◌, ◌+◌, ◌≤◌, length}
use Rattle.ca_reader.specs.Pieces.{pieces_from}
use Rattle.ca_reader.specs.NestView.{context, IsNest}
use Rattle.ca_reader.proofs.Nesting.{go, answer}
use Rattle.ca_reader.proofs.read.read.Given as goal

abbrev pub invariant-pieces : goal.invariant-pieces
invariant-pieces l = record {
  same : go (pieces_from l.place l.rest) (context l.nest) ≡ answer l.bytes;
  sound : IsNest l.nest;
  line_bound : l.place.line + length l.rest ≤ length l.bytes + 1;
  column_bound : l.place.column + length l.rest ≤ length l.bytes + 1;
}

abbrev pub decreases-pieces : goal.decreases-pieces
decreases-pieces l = length l.rest
