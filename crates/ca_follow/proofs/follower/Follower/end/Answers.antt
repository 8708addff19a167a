use Rattle.std.proofs.Common.{◌≡◌, sym, ◌∙◌, true, false}
use Rattle.ca_term.specs.Event.{event_view}
use Rattle.ca_states.specs.ValidCode.{valid_code}
use Rattle.ca_commit.specs.Tasks.{agent_of}
use Rattle.ca_follow.specs.Follower.{has}
use Rattle.ca_follow.proofs.Leading.{end_leads, end_refuses}
use Rattle.ca_follow.proofs.follower.Follower.end.Goals as goal

pub returns-clause-allowed : goal.returns-clause-allowed
returns-clause-allowed c same =
    end_leads (valid_code c.args.self.now.code.now) (event_view c.args.event.now) (has c.args.self.now) c.args.task.now.number (agent_of c.args.task.now) c.requires.at.0 c.requires.at.1 (c.agrees.ensures.0 same)

pub returns-clause-refused : goal.returns-clause-refused
returns-clause-refused c other =
    end_refuses (valid_code c.args.self.now.code.now) (event_view c.args.event.now) (has c.args.self.now) c.args.task.now.number (agent_of c.args.task.now) c.requires.at.0 c.requires.at.1 c.requires.mine
    (λ is. let z : true ≡ false = sym (c.agrees.ensures.1 is) ∙ other in absurd cc)
