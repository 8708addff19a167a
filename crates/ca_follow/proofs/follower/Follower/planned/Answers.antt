use Rattle.ca_term.specs.Operation.{want_view}
use Rattle.ca_states.specs.ValidCode.{valid_code}
use Rattle.ca_commit.specs.Contents.{whole}
use Rattle.ca_commit.specs.Planning.{state_of}
use Rattle.ca_commit.specs.Tasks.{agent_of}
use Rattle.ca_follow.specs.Follower.{has}
use Rattle.ca_follow.proofs.Operates.{apart_behind}
use Rattle.ca_follow.proofs.follower.Follower.planned.Goals as goal

pub plan-requires : goal.plan-requires
plan-requires c = record {
  apart = let h = has c.args.self.now in apart_behind (valid_code c.args.self.now.code.now) h c.args.task.now.number (agent_of c.args.task.now) (want_view c.want.result.now) c.requires.behind c.want.ensures (state_of (whole h.bank) (whole h.registry));
}
