use Rattle.std.proofs.Common.{◌≡◌, ◌<◌, ◌^◌, take, fold}
use Rattle.ca_registry.specs.Marks.{mixed}
use Rattle.ca_registry.proofs.topic.mark_of_bytes.Given as goal

abbrev pub invariant-loop-byte : goal.invariant-loop-byte
invariant-loop-byte l = (l.mark ≡ fold mixed 7 (take l.byte-index l.bytes)) × (l.mark < 2 ^ 32)
