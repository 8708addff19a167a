use Rattle.std.proofs.Common.{map, sym, ◌∙◌}
use Rattle.std.proofs.lemmas.List.{length-map}
use Rattle.ca_term.specs.Event.{port_number}
use Rattle.ca_scene.specs.Scene.{scene_state}
use Rattle.ca_replay.proofs.Ticked.{tick_count, tick_later, tick_step}
use Rattle.ca_replay.proofs.ticking.tick.Goals as goal

pub pass-requires-clause-later : goal.pass-requires-clause-later
pass-requires-clause-later c = tick_later (scene_state c.args.scene.now) (scene_state c.shut_all.new.scene) c.args.moment (map port_number c.args.ports.now) c.requires c.shut_all.ensures.state

pub pass-requires-clause-count : goal.pass-requires-clause-count
pass-requires-clause-count c = sym (length-map c.args.ports.now port_number) ∙ tick_count (scene_state c.args.scene.now) (scene_state c.shut_all.new.scene) c.args.moment (map port_number c.args.ports.now) c.requires c.shut_all.ensures.state

pub returns-clause-step : goal.returns-clause-step
returns-clause-step c = λ program. tick_step (scene_state c.args.scene.now) (scene_state c.shut_all.new.scene) c.args.moment (map port_number c.args.ports.now) c.requires c.shut_all.ensures.state program (scene_state c.pass.new.scene) c.pass.ensures.state

pub returns-clause-scene : goal.returns-clause-scene
returns-clause-scene c = λ program x. c.pass.ensures.scene program (c.shut_all.ensures.scene program x)
