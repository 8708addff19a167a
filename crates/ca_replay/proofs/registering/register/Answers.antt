use Rattle.std.proofs.Common.{refl, ap, ◌∙◌, subst}
use Rattle.ca_value.specs.Seq.{list}
use Rattle.ca_value.specs.View.{trees, view}
use Rattle.ca_value.specs.declared.value.Value.{Value}
use Rattle.std.proofs.Common.{List}
use Rattle.ca_term.specs.Program.{program_view}
use Rattle.ca_meaning.specs.Operands.{first_of, port_of_value, rest_of}
use Rattle.ca_scene.specs.Scene.{tasks_of}
use Rattle.ca_replay.specs.Goings.{TaskGoesOn}
use Rattle.ca_replay.proofs.Entered.{register_apart, register_stands, register_step}
use Rattle.ca_replay.proofs.Made.{registries_scene}
use Rattle.ca_replay.proofs.Went.{tasks_of_scene}
use Rattle.ca_replay.proofs.registering.register.Goals as goal

pub go_on-requires-clause-tasks : goal.go_on-requires-clause-tasks
go_on-requires-clause-tasks c = tasks_of_scene (program_view c.args.program.now) c.args.scene.now c.requires.scene

pub go_on-requires-clause-stands : goal.go_on-requires-clause-stands
go_on-requires-clause-stands c = register_stands c.args.scene.now c.args.task c.args.name (trees (list c.args.args.now)) (view c.args.answer.now) c.requires.admitted

pub enter-requires : goal.enter-requires
enter-requires c = record {
  apart =
      register_apart c.args.scene.now c.args.task c.args.name (trees (list c.args.args.now)) (view c.args.answer.now) c.requires.admitted c.requires.values (trees (list c.in_ok-rest.rest))
      (c.in_ok-rest.ensures ∙ c.behind_first.ensures ∙ ap (λ (z : List Value). rest_of (trees z)) c.as_slice-2.ensures);
}

pub returns-clause-step : goal.returns-clause-step
returns-clause-step c =
    let P = program_view c.args.program.now in
    let goes = subst (λ v. TaskGoesOn P (tasks_of c.args.scene.now) c.args.task v (tasks_of c.go_on.new.scene)) c.in_ok-value.ensures c.in_ok-go_on.ensures.goes in
    register_step c.args.scene.now c.args.task c.args.name (trees (list c.args.args.now)) (view c.args.answer.now) c.requires.admitted P c.go_on.new.scene (record c.go_on.new.scene { registries = c.enter.new.registries })
    c.in_ok-go_on.ensures.rest refl c.port_at-port.result.n (trees (list c.in_ok-rest.rest))
    (c.port_at-port.ensures ∙ ap (λ (z : List Value). port_of_value (first_of (trees z))) c.as_slice.ensures)
    (c.in_ok-rest.ensures ∙ c.behind_first.ensures ∙ ap (λ (z : List Value). rest_of (trees z)) c.as_slice-2.ensures)
    c.in_ok-enter.ensures goes

pub returns-clause-scene : goal.returns-clause-scene
returns-clause-scene c = registries_scene c.go_on.new.scene (record c.go_on.new.scene { registries = c.enter.new.registries }) refl (program_view c.args.program.now) (c.in_ok-go_on.ensures.scene c.requires.scene)
