use Rattle.ca_term.specs.Event.{event_view}
use Rattle.ca_term.specs.Program.{program_view}
use Rattle.ca_scene.specs.Scene.{scene_state}
use Rattle.ca_replay.proofs.WorldSteps.{leads_nowhere}
use Rattle.ca_replay.proofs.stepping.stepped.Goals as goal

pub returns-then-not-admits-clause-refused : goal.returns-then-not-admits-clause-refused
returns-then-not-admits-clause-refused c = λ isnt s2 step. leads_nowhere (program_view c.args.program.now) (scene_state c.args.scene.now) (event_view c.args.event.now) c.admits.result c.admits.ensures c.if-not-admits.true s2 step
