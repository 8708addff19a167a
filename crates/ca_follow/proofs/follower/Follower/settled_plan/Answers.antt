use Rattle.std.proofs.Common.{◌∙◌, sym, ap, subst}
use Rattle.ca_states.specs.ValidCode.{valid_code}
use Rattle.ca_commit.specs.Plans.{plan_view}
use Rattle.ca_commit.specs.Showing.{channels_held}
use Rattle.ca_commit.specs.Tasks.{agent_of}
use Rattle.ca_follow.specs.Follower.{IsMadeFor, has}
use Rattle.ca_follow.proofs.Planned.{fewer_left, plan_decided, plan_stale, prune_only}
use Rattle.ca_follow.proofs.follower.Follower.settled_plan.Goals as goal

pub prune-requires-clause-stale : goal.prune-requires-clause-stale
prune-requires-clause-stale c = let l = c.loop-planned in let k = c.in-Prune in
    plan_stale (has l.self) (agent_of c.args.task.now) c.args.start (plan_view l.planned) k.port.n k.place k.side (ap plan_view k.is) l.invariant.plan

pub planned-requires-in-Prune-clause-behind : goal.planned-requires-in-Prune-clause-behind
planned-requires-in-Prune-clause-behind c = let b = c.requires.behind in let inv = c.loop-planned.invariant in
    (b.0, b.1, subst (λ z. IsMadeFor b.0 (valid_code z.now)) (sym (c.prune.ensures.code ∙ inv.code)) b.2, c.prune.ensures.keeps c.args.task.now.number (agent_of c.args.task.now) b.0 b.1 (inv.keeps b.0 b.1 b.3))

pub loop-planned-smaller : goal.loop-planned-smaller
loop-planned-smaller c = let l = c.loop-planned in let k = c.in-Prune in
    fewer_left (has l.self) (agent_of c.args.task.now) c.args.start (plan_view l.planned) k.port.n k.place k.side (channels_held c.prune.new.self.held.banks) (ap plan_view k.is) l.invariant.plan c.prune.ensures.channels

pub loop-planned-preserved : goal.loop-planned-preserved
loop-planned-preserved c = let inv = c.loop-planned.invariant in let p = c.prune.ensures in record {
  follower = p.follower;
  code = p.code ∙ inv.code;
  tasks = p.tasks ∙ inv.tasks;
  waits = p.waits ∙ inv.waits;
  keeps = λ program s b. p.keeps c.args.task.now.number (agent_of c.args.task.now) program s (inv.keeps program s b);
  plan = c.in_ok-planned-2.ensures.plan;
  copies = c.in_ok-planned-2.ensures.copies;
}

pub returns : goal.returns
returns c = let l = c.loop-planned in let inv = l.invariant in record {
  plan = inv.plan;
  copies = inv.copies;
  decided = plan_decided (has l.self) (agent_of c.args.task.now) c.args.start (plan_view l.planned) inv.follower.all.shards inv.plan (prune_only l.planned c.in_default.not-Prune);
  behind = inv.keeps;
  follower = inv.follower;
  code = inv.code;
  tasks = inv.tasks;
  waits = inv.waits;
}
