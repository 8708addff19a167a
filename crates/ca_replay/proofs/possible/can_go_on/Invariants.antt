use Rattle.std.proofs.Common.{◌≡◌, ℕ, ◌<◌, false}
use Rattle.ca_replay.specs.Possible.{goes_at}
use Rattle.ca_replay.proofs.possible.can_go_on.Given as goal

abbrev pub invariant-loop-place : goal.invariant-loop-place
invariant-loop-place l = (k : ℕ) → k < l.place → goes_at l.scene k ≡ false
