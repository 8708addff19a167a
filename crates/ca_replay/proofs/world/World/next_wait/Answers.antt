use Rattle.std.proofs.Common.{◌∙◌, arith, rules}
use Rattle.ca_replay.specs.World.{wait_view}
use Rattle.ca_replay.proofs.WaitWalks.{gone_at, no_waits, wait_at}
use Rattle.ca_replay.proofs.world.World.next_wait.Goals as goal

pub loop-place-preserved : goal.loop-place-preserved
loop-place-preserved c = c.loop-place.invariant ∙ gone_at c.args.self.now.scene.waits.entries c.loop-place.place (search rules)

pub returns-in-Some-clause-some : goal.returns-in-Some-clause-some
returns-in-Some-clause-some c = c.loop-place.invariant ∙ wait_at c.args.self.now.scene.waits.entries c.loop-place.place (wait_view c.in-Some.wait) (search rules)

pub returns-clause-none : goal.returns-clause-none
returns-clause-none c = c.loop-place.invariant ∙ no_waits c.args.self.now.scene.waits.entries c.loop-place.place (omega arith)
