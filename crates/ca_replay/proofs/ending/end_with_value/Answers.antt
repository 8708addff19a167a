use Rattle.ca_scene.specs.Scene.{scene_state}
use Rattle.ca_replay.proofs.Stepped.{end_step}
use Rattle.ca_replay.proofs.ending.end_with_value.Goals as goal

pub returns-clause-step : goal.returns-clause-step
returns-clause-step c = λ program. end_step program (scene_state c.args.scene.now) c.args.task (scene_state c.finish.new.scene) c.requires c.finish.ensures.state
