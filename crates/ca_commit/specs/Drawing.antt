-- A lane and a bank after a take that finds a value.
use Rattle.std.specs.Prelude.{ℕ, ◌+◌, Some, eqb}
use Rattle.std.specs.Map.{update}
use Rattle.ca_meaning.specs.Channel.{giving}
use Rattle.ca_commit.specs.Agents.{TaskAgent}
use Rattle.ca_commit.specs.Contents.{BankView, Kept, LaneView, with_channel}

-- the task has the agent that got its answer, and one event more
abbrev pub took : {A : Type 0} → ℕ → LaneView (TaskAgent A) → TaskAgent A → A → LaneView (TaskAgent A)
took t l a a2 = record { program = l.program; task = Some (t, record { result = a.result; alts = a.alts; agent = a2 }); since = l.since + 1; counts = l.counts }

-- the channel has given its first value
abbrev pub given_up : ℕ → Kept → BankView → BankView
given_up p kept b = record { channels = update eqb b.channels p (Some (with_channel (giving kept.channel) kept)); registries = b.registries }
