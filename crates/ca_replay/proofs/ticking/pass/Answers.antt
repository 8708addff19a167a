use Rattle.std.proofs.Common.{refl}
use Rattle.ca_replay.proofs.Made.{timers_scene}
use Rattle.ca_replay.proofs.Ticked.{passed_state}
use Rattle.ca_replay.proofs.ticking.pass.Goals as goal

pub returns-clause-state : goal.returns-clause-state
returns-clause-state c = passed_state c.args.scene.now (record c.args.scene.now { timers = c.reach.new.timers }) c.args.moment refl c.reach.ensures.deadlines c.reach.ensures.moment

pub returns-clause-scene : goal.returns-clause-scene
returns-clause-scene c = timers_scene c.args.scene.now (record c.args.scene.now { timers = c.reach.new.timers }) refl
