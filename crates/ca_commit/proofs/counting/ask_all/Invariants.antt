use Rattle.std.proofs.Common.{◌≡◌, drop}
use Rattle.ca_bank.specs.Bank.{kept_at}
use Rattle.ca_bank.specs.Kept.{queue_at}
use Rattle.ca_commit.specs.Planning.{Planned, all_asked}
use Rattle.ca_commit.specs.Showing.{seen}
use Rattle.ca_commit.proofs.counting.ask_all.Given as goal

abbrev pub invariant-loop-place : goal.invariant-loop-place
invariant-loop-place g l = (rest : Planned) → all_asked (seen l.banks l.shards) l.port.n l.side l.place (drop l.place (queue_at l.side (kept_at l.bank l.port.n))) rest ≡ all_asked (seen l.banks l.shards) l.port.n l.side 0 (queue_at l.side (kept_at l.bank l.port.n)) rest
