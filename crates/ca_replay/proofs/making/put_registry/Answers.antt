use Rattle.std.proofs.Common.{OnOk, Option, option_map, sym, subst}
use Rattle.ca_registry.specs.declared.registry.Registry.{Registry}
use Rattle.ca_registry.specs.Registry.{registry_view}
use Rattle.ca_scene.specs.Scene.{scene_state}
use Rattle.ca_replay.specs.Changes.{PutsRegistry}
use Rattle.ca_replay.proofs.Made.{no_registry_put}
use Rattle.ca_replay.proofs.making.put_registry.Goals as goal

pub returns-in-Some-clause-state : goal.returns-in-Some-clause-state
returns-in-Some-clause-state c = subst (λ (o : Option Registry). OnOk c.put_one.result (PutsRegistry (scene_state c.args.scene.now) c.args.port (option_map registry_view o) (scene_state c.put_one.new.scene))) (sym c.in-Some.is) c.put_one.ensures.state

pub returns-in-None-clause-state : goal.returns-in-None-clause-state
returns-in-None-clause-state c = subst (λ (o : Option Registry). PutsRegistry (scene_state c.args.scene.now) c.args.port (option_map registry_view o) (scene_state c.args.scene.now)) (sym c.in-None.is) (no_registry_put (scene_state c.args.scene.now) c.args.port c.requires.new)
