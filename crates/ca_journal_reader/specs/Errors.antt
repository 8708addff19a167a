-- What an error says of bytes; want of memory says nothing.
use Rattle.std.specs.Prelude.{ℕ, List}
use Rattle.ca_journal_reader.specs.declared.error.JournalError.{JournalError}
use Rattle.ca_journal_reader.specs.declared.error.JournalError.TheVariants.{BadLine, OutOfMemory}
use Rattle.ca_journal_reader.specs.Input.{IsBadLine}

abbrev pub IsErrorOf : List ℕ → JournalError → Type 0
IsErrorOf bytes (BadLine k) = IsBadLine k bytes
IsErrorOf bytes OutOfMemory = Unit {0}
