use Rattle.std.proofs.Common.{◌≡◌, ◌++◌, List, length}
use Rattle.ca_term.specs.Event.{EventView}
use Rattle.ca_term.specs.Program.{ProgramView}
use Rattle.ca_states.specs.ValidCode.{valid_code}
use Rattle.ca_journal.specs.Coming.{coming}
use Rattle.ca_journal.specs.Events.{events}
use Rattle.ca_follow.specs.Followed.{IsLed}
use Rattle.ca_follow.specs.Follower.{IsFollower, IsMadeFor, has}
use Rattle.ca_follow.proofs.following.follow.Given as goal

abbrev pub invariant-loop-entry : goal.invariant-loop-entry
invariant-loop-entry l = record {
  before : List EventView;
  split : before ++ coming l.walk ≡ events l.journal;
  number : l.number ≡ length before;
  follower : IsFollower l.follower;
  code : l.follower.code.now ≡ l.code;
  led : (program : ProgramView) → IsMadeFor program (valid_code l.code) → IsLed program before (has l.follower) l.end;
}

abbrev pub decreases-loop-entry : goal.decreases-loop-entry
decreases-loop-entry l = length (coming l.walk)
