use Rattle.std.proofs.Common.{◌≡◌, ◌≤◌, ◌+◌, drop}
use Rattle.ca_bank.specs.Bank.{kept_at}
use Rattle.ca_bank.specs.Kept.{queue_at}
use Rattle.ca_commit.specs.Holds.{groups}
use Rattle.ca_commit.proofs.counting.count_waits.Given as goal

abbrev pub invariant-loop-place : goal.invariant-loop-place
invariant-loop-place l = record {
  counted : l.waits + groups (drop l.place (queue_at l.side (kept_at l.bank l.port.n))) ≡ groups (queue_at l.side (kept_at l.bank l.port.n));
  few : l.waits ≤ l.place;
}
