-- How many handlers stand at the channels of an operation; a stale one that goes leaves fewer.
use Rattle.std.specs.Prelude.{ℕ, ◌+◌, List, [], ◌∷◌, length, Option, Some, None}
use Rattle.ca_term.specs.Event.{BranchView}
use Rattle.ca_meaning.specs.Wait.{port_of}
use Rattle.ca_commit.specs.Applying.{BankChannels}
use Rattle.ca_commit.specs.Contents.{Kept, whole}

-- in both queues of a channel
abbrev pub queued_at : Option Kept → ℕ
queued_at None = 0
queued_at (Some k) = length k.takes + length k.puts

-- and in those of the channels of these branches, each branch counting its own
abbrev pub queued_in : List BranchView → BankChannels → ℕ
queued_in [] m = 0
queued_in (b ∷ bs) m = queued_at (whole m (port_of b)) + queued_in bs m
