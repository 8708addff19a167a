use Rattle.std.proofs.Common.{arith, ◌≡◌, ◌+◌, List, [], map, drop, ap, sym, ◌∙◌}
use Rattle.std.proofs.lemmas.Grind.{common_steps}
use Rattle.ca_value.specs.declared.value.PortId.{PortId}
use Rattle.ca_term.specs.Event.{port_number}
use Rattle.ca_meaning.specs.State.{shut_all}
use Rattle.ca_scene.specs.Scene.{scene_state}
use Rattle.ca_replay.proofs.Changed.{drop_port, shut_more}
use Rattle.ca_replay.proofs.changing.shut_all.Goals as goal

pub loop-port-preserved : goal.loop-port-preserved
loop-port-preserved c =
    let i = c.loop-port.port-index in
    let xs = c.args.ports.now in
    record {
      state = shut_more (scene_state c.loop-port.scene) (scene_state c.shut.new.scene) _ (map port_number (drop (i + 1) xs)) (map port_number (drop i xs)) (drop_port xs i _ c.loop-port-test.true) c.shut.ensures.state ∙ c.loop-port.invariant.state;
      scene = λ program x. c.shut.ensures.scene program (c.loop-port.invariant.scene program x);
    }

pub returns-clause-state : goal.returns-clause-state
returns-clause-state c =
    let none : drop c.loop-port.port-index c.args.ports.now ≡ [] = grind (arith, common_steps) in
    ap (λ (zs : List PortId). record (scene_state c.loop-port.scene) { channels = shut_all (map port_number zs) (scene_state c.loop-port.scene).channels }) (sym none) ∙ c.loop-port.invariant.state
