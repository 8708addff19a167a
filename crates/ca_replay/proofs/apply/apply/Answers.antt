use Rattle.std.proofs.Common.{List, OnOk, Result, Ok, Err, map, sym, subst}
use Rattle.ca_value.specs.declared.value.PortId.{PortId}
use Rattle.ca_term.specs.declared.event.Branch.{Branch}
use Rattle.ca_term.specs.declared.event.Event.{Event}
use Rattle.ca_term.specs.Event.{branch_view, event_view, parked, port_number, ticked}
use Rattle.ca_term.specs.Program.{program_view}
use Rattle.ca_meaning.specs.Steps.{Step}
use Rattle.ca_scene.specs.Scene.{scene_state}
use Rattle.ca_replay.proofs.apply.apply.Goals as goal

then : {T E A B : Type 0} (r : Result T E) → (A → B) → OnOk r A → OnOk r B
then (Ok x) f a = f a
then (Err e) f a = a

pub returns-in-Make-clause-step : goal.returns-in-Make-clause-step
returns-in-Make-clause-step c = subst (λ (e : Event). OnOk c.make.result (Step (program_view c.args.program.now) (scene_state c.args.scene.now) (event_view e) (scene_state c.make.new.scene))) (sym c.in-Make.is) c.make.ensures.step

pub returns-in-Spawn-clause-step : goal.returns-in-Spawn-clause-step
returns-in-Spawn-clause-step c = subst (λ (e : Event). OnOk c.spawn.result (Step (program_view c.args.program.now) (scene_state c.args.scene.now) (event_view e) (scene_state c.spawn.new.scene))) (sym c.in-Spawn.is) c.spawn.ensures.step

pub returns-in-Done-clause-step : goal.returns-in-Done-clause-step
returns-in-Done-clause-step c = subst (λ (e : Event). OnOk c.done.result (Step (program_view c.args.program.now) (scene_state c.args.scene.now) (event_view e) (scene_state c.done.new.scene))) (sym c.in-Done.is) c.done.ensures.step

pub returns-in-Meet-clause-step : goal.returns-in-Meet-clause-step
returns-in-Meet-clause-step c = subst (λ (e : Event). OnOk c.meet.result (Step (program_view c.args.program.now) (scene_state c.args.scene.now) (event_view e) (scene_state c.meet.new.scene))) (sym c.in-Meet.is) c.meet.ensures.step

pub returns-in-Post-clause-step : goal.returns-in-Post-clause-step
returns-in-Post-clause-step c = subst (λ (e : Event). OnOk c.post.result (Step (program_view c.args.program.now) (scene_state c.args.scene.now) (event_view e) (scene_state c.post.new.scene))) (sym c.in-Post.is) c.post.ensures.step

pub returns-in-Settle-clause-step : goal.returns-in-Settle-clause-step
returns-in-Settle-clause-step c = subst (λ (e : Event). OnOk c.settle.result (Step (program_view c.args.program.now) (scene_state c.args.scene.now) (event_view e) (scene_state c.settle.new.scene))) (sym c.in-Settle.is) c.settle.ensures.step

pub returns-in-Default-clause-step : goal.returns-in-Default-clause-step
returns-in-Default-clause-step c = subst (λ (e : Event). OnOk c.take_default.result (Step (program_view c.args.program.now) (scene_state c.args.scene.now) (event_view e) (scene_state c.take_default.new.scene))) (sym c.in-Default.is) c.take_default.ensures.step

pub returns-in-Close-clause-step : goal.returns-in-Close-clause-step
returns-in-Close-clause-step c = subst (λ (e : Event). OnOk c.close.result (Step (program_view c.args.program.now) (scene_state c.args.scene.now) (event_view e) (scene_state c.close.new.scene))) (sym c.in-Close.is) c.close.ensures.step

pub returns-in-Register-clause-step : goal.returns-in-Register-clause-step
returns-in-Register-clause-step c = subst (λ (e : Event). OnOk c.register.result (Step (program_view c.args.program.now) (scene_state c.args.scene.now) (event_view e) (scene_state c.register.new.scene))) (sym c.in-Register.is) c.register.ensures.step

pub returns-in-Print-clause-step : goal.returns-in-Print-clause-step
returns-in-Print-clause-step c = subst (λ (e : Event). OnOk c.print.result (Step (program_view c.args.program.now) (scene_state c.args.scene.now) (event_view e) (scene_state c.print.new.scene))) (sym c.in-Print.is) c.print.ensures.step

pub returns-in-Park-clause-step : goal.returns-in-Park-clause-step
returns-in-Park-clause-step c =
    let P = program_view c.args.program.now in
    let step = subst (λ (bs : List Branch). OnOk c.park.result (Step P (scene_state c.args.scene.now) (parked c.in-Park.task c.in-Park.wait.n (map branch_view bs)) (scene_state c.park.new.scene))) c.as_slice.ensures (then c.park.result (λ f. f P) c.park.ensures.step) in
    subst (λ (e : Event). OnOk c.park.result (Step P (scene_state c.args.scene.now) (event_view e) (scene_state c.park.new.scene))) (sym c.in-Park.is) step

pub returns-in-Park-clause-scene : goal.returns-in-Park-clause-scene
returns-in-Park-clause-scene c = then c.park.result (λ f. f (program_view c.args.program.now) c.requires.scene) c.park.ensures.scene

pub returns-in-Tick-clause-step : goal.returns-in-Tick-clause-step
returns-in-Tick-clause-step c =
    let P = program_view c.args.program.now in
    let step = subst (λ (ps : List PortId). Step P (scene_state c.args.scene.now) (ticked c.in-Tick.moment (map port_number ps)) (scene_state c.tick.new.scene)) c.as_slice-in-Tick.ensures (c.tick.ensures.step P) in
    subst (λ (e : Event). Step P (scene_state c.args.scene.now) (event_view e) (scene_state c.tick.new.scene)) (sym c.in-Tick.is) step

pub returns-in-Tick-clause-scene : goal.returns-in-Tick-clause-scene
returns-in-Tick-clause-scene c = c.tick.ensures.scene (program_view c.args.program.now) c.requires.scene

pub returns-in-End-clause-step : goal.returns-in-End-clause-step
returns-in-End-clause-step c = subst (λ (e : Event). Step (program_view c.args.program.now) (scene_state c.args.scene.now) (event_view e) (scene_state c.end.new.scene)) (sym c.in-End.is) (c.end.ensures.step (program_view c.args.program.now))

pub returns-in-End-clause-scene : goal.returns-in-End-clause-scene
returns-in-End-clause-scene c = c.end.ensures.scene (program_view c.args.program.now) c.requires.scene
