use Rattle.std.proofs.Common.{◌∙◌, ap, arith, option_map}
use Rattle.ca_bank.specs.declared.shard.Shard.{Shard}
use Rattle.ca_commit.specs.Listings.{parts}
use Rattle.ca_commit.specs.Numbers.{number_of_shard}
use Rattle.ca_commit.specs.Showing.{parked_view, shard_in, waits_held, waits_of}
use Rattle.ca_commit.specs.declared.task.Task.{Task}
use Rattle.ca_tasks.specs.declared.task.AnyTask.{AnyTask}
use Rattle.ca_follow.proofs.Filled.{all_empty, none_yet, one_more}
use Rattle.ca_follow.proofs.follower.push_shards.Goals as goal

pub loop-number-init : goal.loop-number-init
loop-number-init c = ((let r = c.requires.room in omega (arith, r)), none_yet number_of_shard shard_in (parts c.args.shards.now) c.requires.none)

pub push-requires : goal.push-requires
push-requires c = let room = c.loop-number.invariant.0 in omega (arith, room, c.loop-number-test.true)

pub loop-number-preserved : goal.loop-number-preserved
loop-number-preserved c = let i = c.loop-number.invariant in let room = i.0 in let kept = c.push.ensures.spare in (
  omega (arith, room, kept),
  one_more number_of_shard shard_in (parts c.loop-number.shards) (parts c.push.new.self) c.in_ok-new.field-0 c.loop-number.number c.push.ensures.parts c.in_ok-new.ensures.number
      (λ k. ap (λ (s : Shard (Task AnyTask)). waits_of s k) c.in_ok-new.ensures.shard ∙ ap (option_map parked_view) (c.new-shard.ensures.empty k)) i.1,
)

pub returns : goal.returns
returns c = all_empty (waits_held c.loop-number.shards) c.loop-number.number (omega (arith, c.loop-number-test.false)) c.loop-number.invariant.1
