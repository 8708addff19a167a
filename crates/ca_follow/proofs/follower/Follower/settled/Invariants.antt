use Rattle.std.proofs.Common.{◌≡◌}
use Rattle.ca_commit.specs.Contents.{whole}
use Rattle.ca_commit.specs.Showing.{channels_held}
use Rattle.ca_follow.specs.Follower.{SettledBy}
use Rattle.ca_follow.proofs.Settled.{left_in}
use Rattle.ca_follow.proofs.follower.Follower.settled.Given as goal

abbrev pub invariant-loop-next : goal.invariant-loop-next
invariant-loop-next l = record {
  settled : SettledBy l.fn.self l.self l.port.n l.next;
  code : l.self.code ≡ l.fn.self.code;
}

abbrev pub decreases-loop-next : goal.decreases-loop-next
decreases-loop-next l = left_in l.next (whole (channels_held l.self.held.banks) l.port.n)
