-- What the devices in memory show.
use Rattle.std.specs.Prelude.{ℕ, List, max}
use Rattle.ca_value.specs.Seq.{list, spare}
use Rattle.ca_run.specs.declared.memory.MemorySource.{MemorySource}
use Rattle.ca_run.specs.declared.memory.MemorySink.{MemorySink}
use Rattle.ca_run.specs.declared.memory.MemoryClock.{MemoryClock}

-- the bytes that a source still gives
abbrev pub bytes_left : MemorySource → List ℕ
bytes_left s = s.bytes.now

-- how many bytes a source gives at most in one read, never less than one
abbrev pub most_a_read : MemorySource → ℕ
most_a_read s = max 1 s.most

-- the bytes that a sink has taken
abbrev pub bytes_taken : MemorySink → List ℕ
bytes_taken s = list s.text

-- how many bytes a sink takes at most in one write, never less than one
abbrev pub most_a_write : MemorySink → ℕ
most_a_write s = max 1 s.most

-- how many more bytes a sink takes with no growth
abbrev pub sink_room : MemorySink → ℕ
sink_room s = spare s.text

-- the moment at which a clock stands
abbrev pub moment_of : MemoryClock → ℕ
moment_of c = c.moment

-- all answers of a clock so far
abbrev pub answers_of : MemoryClock → List ℕ
answers_of c = list c.answers

-- how many more askings a clock has room for
abbrev pub askings_left : MemoryClock → ℕ
askings_left c = spare c.answers
