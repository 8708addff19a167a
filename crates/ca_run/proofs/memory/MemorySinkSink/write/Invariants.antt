use Rattle.std.proofs.Common.{◌≡◌, ◌+◌, ◌≤◌, ◌++◌, length, take}
use Rattle.ca_value.specs.Seq.{list, spare}
use Rattle.ca_run.proofs.memory.MemorySinkSink.write.Given as goal

abbrev pub invariant-loop-byte : goal.invariant-loop-byte
invariant-loop-byte l = record {
  most : l.self.most ≡ l.initial.self.most;
  taken : list l.self.text ≡ list l.initial.self.text ++ take l.byte-index l.byte-items;
  room : length l.byte-items ≤ spare l.self.text + l.byte-index;
  less : spare l.initial.self.text ≤ spare l.self.text + l.byte-index;
}
