use Rattle.std.proofs.Common.{◌≡◌, ◌+◌, drop}
use Rattle.ca_reader.specs.Pieces.{comment_len}
use Rattle.ca_reader.proofs.cut.comment_len.Given as goal

abbrev pub invariant-loop-index : goal.invariant-loop-index
invariant-loop-index l = comment_len l.rest ≡ l.index + comment_len (drop l.index l.rest)
