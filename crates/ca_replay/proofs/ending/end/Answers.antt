use Rattle.std.proofs.Common.{sym, subst}
use Rattle.ca_term.specs.declared.event.Ending.{Ending}
use Rattle.ca_term.specs.Event.{over}
use Rattle.ca_meaning.specs.Steps.{Step}
use Rattle.ca_scene.specs.Scene.{scene_state}
use Rattle.ca_replay.proofs.ending.end.Goals as goal

pub returns-in-Faulted-clause-step : goal.returns-in-Faulted-clause-step
returns-in-Faulted-clause-step c = λ program. subst (λ (e : Ending). Step program (scene_state c.args.scene.now) (over c.args.task e) (scene_state c.end_by_fault.new.scene)) (sym c.in-Faulted.is) (c.end_by_fault.ensures.step program)
