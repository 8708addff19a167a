use Rattle.ca_term.specs.Event.{event_view}
use Rattle.ca_replay.proofs.WorldSteps.{unchanged_after, world_after}
use Rattle.ca_replay.proofs.world.World.step.Goals as goal

pub returns-clause-unchanged : goal.returns-clause-unchanged
returns-clause-unchanged c = unchanged_after c.args.self.now c.stepped.new.scene (event_view c.args.event.now) c.stepped.result c.stepped.ensures.unchanged

pub returns-clause-world : goal.returns-clause-world
returns-clause-world c = world_after c.args.self.now c.stepped.new.scene (event_view c.args.event.now) c.requires c.stepped.result c.stepped.ensures.allowed c.stepped.ensures.unchanged c.stepped.ensures.scene
