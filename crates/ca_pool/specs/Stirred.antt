-- Which channels an event of a plan, and the end of a task, may bring to settle.
use Rattle.std.specs.Prelude.{ℕ, List, [], ◌∷◌, Option, option_map}
use Rattle.ca_term.specs.declared.event.Ending.{Ending}
use Rattle.ca_term.specs.declared.event.Ending.TheVariants.{Ended, Faulted}
use Rattle.ca_term.specs.Event.{port_number}
use Rattle.ca_meaning.specs.Wait.{port_of}
use Rattle.ca_commit.specs.Contents.{Kept, channel_of}
use Rattle.ca_commit.specs.Planning.{Planned, to_close, to_do}
use Rattle.ca_solo.specs.Stirs.{done_stirred, port_if}

-- a take that is done of a fixed buffer, a put that is done into a promise, and what is closed
abbrev pub stirred_of : (ℕ → Option Kept) → Planned → List ℕ
stirred_of ports (to_do k b alts) = done_stirred (channel_of (ports (port_of b))) b
stirred_of ports (to_close p) = p ∷ []
stirred_of ports other = []

-- a fault closes the channel of the task's result
abbrev pub stirred_at_end : Ending → List ℕ
stirred_at_end Ended = []
stirred_at_end (Faulted fault place result) = port_if (option_map port_number result)
