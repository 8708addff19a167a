-- Channels and live waits in the parts stand for those of a state, as `ca_bank` says; and what closes a channel.
use Rattle.std.specs.Prelude.{ℕ, List, Option, option_map, cond}
use Rattle.ca_meaning.specs.Channel.{shut}
use Rattle.ca_meaning.specs.Wait.{is_among}
use Rattle.ca_bank.specs.Kept.{Kept}
use Rattle.ca_bank.specs.Holds.{with_channel}
pub use Rattle.ca_bank.specs.Kept.{unattended as empty_kept}
pub use Rattle.ca_bank.specs.Holds.{live_of, EachNamed, WaitsDiffer, changes_at, groups, KeepsChannels, joined_queues, join_all}

abbrev pub shut_kept : Kept → Kept
shut_kept k = with_channel (shut k.channel) k

-- the channels of these ports are closed
abbrev pub shut_in : List ℕ → (ℕ → Option Kept) → ℕ → Option Kept
shut_in ps ports p = cond (is_among p ps) (option_map shut_kept (ports p)) (ports p)
