use Rattle.std.proofs.Common.{option_map, refl, ap}
use Rattle.ca_term.specs.Event.{port_number}
use Rattle.ca_term.specs.Operation.{seed_view}
use Rattle.ca_term.specs.Program.{program_view}
use Rattle.ca_replay.proofs.Seeded.{spawn_asked, spawn_scene, spawn_seed, spawn_stands, spawn_step}
use Rattle.ca_replay.proofs.Went.{tasks_of_scene}
use Rattle.ca_replay.proofs.spawning.spawn.Goals as goal

pub seed_of-requires-clause-spawns : goal.seed_of-requires-clause-spawns
seed_of-requires-clause-spawns c = spawn_asked c.args.scene.now c.args.task c.args.spawned c.args._kind (option_map port_number c.args.port) c.requires.admitted

pub started-requires : goal.started-requires
started-requires c = spawn_seed c.args.scene.now c.args.task c.args.spawned c.args._kind (option_map port_number c.args.port) c.requires.admitted (program_view c.args.program.now) (seed_view c.in_ok-seed.seed) c.in_ok-seed.ensures c.requires.scene.known

pub go_on-requires-clause-tasks : goal.go_on-requires-clause-tasks
go_on-requires-clause-tasks c = tasks_of_scene (program_view c.args.program.now) c.args.scene.now c.requires.scene

pub go_on-requires-clause-stands : goal.go_on-requires-clause-stands
go_on-requires-clause-stands c = spawn_stands c.args.scene.now c.args.task c.args.spawned c.args._kind (option_map port_number c.args.port) c.requires.admitted

pub returns-clause-step : goal.returns-clause-step
returns-clause-step c =
    spawn_step c.args.scene.now c.args.task c.args.spawned c.args._kind (option_map port_number c.args.port) c.requires.admitted (program_view c.args.program.now) (seed_view c.in_ok-seed.seed) c.in_ok-seed.ensures
    c.go_on.new.scene (record c.go_on.new.scene { tasks = c.insert_in.new.table }) c.in_ok-go_on.ensures.rest c.in_ok-new.new refl c.in_ok-insert_in.ensures c.in_ok-new.ensures.rested
    (ap (option_map port_number) c.in_ok-new.ensures.port) c.in_ok-go_on.ensures.goes

pub returns-clause-scene : goal.returns-clause-scene
returns-clause-scene c =
    spawn_scene c.args.scene.now c.args.task c.args.spawned c.args._kind (option_map port_number c.args.port) c.requires.admitted (program_view c.args.program.now) (seed_view c.in_ok-seed.seed) c.in_ok-seed.ensures
    c.go_on.new.scene (record c.go_on.new.scene { tasks = c.insert_in.new.table }) c.in_ok-go_on.ensures.rest c.in_ok-new.new refl c.in_ok-insert_in.ensures c.in_ok-new.ensures.rested
    (c.in_ok-go_on.ensures.scene c.requires.scene)
