use Rattle.ca_scene.specs.Scene.{scene_state}
use Rattle.ca_replay.proofs.Stepped.{fault_step}
use Rattle.ca_replay.proofs.ending.end_by_fault.Goals as goal

pub returns-clause-step : goal.returns-clause-step
returns-clause-step c = λ program.
    fault_step program (scene_state c.args.scene.now) c.args.task (scene_state c.finish.new.scene) (scene_state c.shut_result.new.scene) c.args.fault c.args.place c.args.port c.requires c.finish.ensures.state c.shut_result.ensures.state

pub returns-clause-scene : goal.returns-clause-scene
returns-clause-scene c = λ program x. c.shut_result.ensures.scene program (c.finish.ensures.scene program x)
