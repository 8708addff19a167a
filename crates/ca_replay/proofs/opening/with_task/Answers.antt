use Rattle.ca_replay.proofs.Openings.{first_scene}
use Rattle.ca_replay.proofs.opening.with_task.Goals as goal

pub returns-clause-scene : goal.returns-clause-scene
returns-clause-scene c = first_scene c.new-scene.result (record c.new-scene.result { tasks = c.insert.new.self }) c.args.task c.new-scene.ensures.scene c.in_ok-insert.ensures.updates c.requires
