-- What the adapters over a reader, a writer and the system's clock show.
use Rattle.std.specs.Prelude.{ℕ}
use Rattle.ca_run.specs.declared.standard.ReaderSource.{ReaderSource}
use Rattle.ca_run.specs.declared.standard.WriterSink.{WriterSink}
use Rattle.ca_run.specs.declared.standard.SteadyClock.{SteadyClock}

-- the reader beneath a source
abbrev pub reader_of : {R : Type 0} → ReaderSource R → R
reader_of s = s.reader

-- how often a source has failed
abbrev pub read_faults : {R : Type 0} → ReaderSource R → ℕ
read_faults s = s.faults

-- the writer beneath a sink
abbrev pub writer_of : {W : Type 0} → WriterSink W → W
writer_of s = s.writer

-- for how many more bytes room was asked
abbrev pub room_asked : {W : Type 0} → WriterSink W → ℕ
room_asked s = s.spare

-- how often a sink has failed
abbrev pub write_faults : {W : Type 0} → WriterSink W → ℕ
write_faults s = s.faults

-- the last moment that a clock answered, 0 before
abbrev pub last_moment : {T : Type 0} → SteadyClock T → ℕ
last_moment c = c.least

-- for how many more askings room was asked
abbrev pub askings_asked : {T : Type 0} → SteadyClock T → ℕ
askings_asked c = c.spare

-- how often a clock has failed
abbrev pub clock_faults : {T : Type 0} → SteadyClock T → ℕ
clock_faults c = c.faults
