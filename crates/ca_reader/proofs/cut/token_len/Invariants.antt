use Rattle.std.proofs.Common.{◌≡◌, ◌+◌, drop}
use Rattle.std.specs.List.{prefix_len}
use Rattle.ca_reader.specs.Bytes.{is_token_byte}
use Rattle.ca_reader.proofs.cut.token_len.Given as goal

abbrev pub invariant-loop-index : goal.invariant-loop-index
invariant-loop-index l = prefix_len is_token_byte l.rest ≡ l.index + prefix_len is_token_byte (drop l.index l.rest)
