use Rattle.std.proofs.Common.{refl}
use Rattle.ca_term.specs.Operation.{what_view}
use Rattle.ca_replay.proofs.Made.{timed_state, timers_scene}
use Rattle.ca_replay.proofs.making.time.Goals as goal

pub returns-clause-state : goal.returns-clause-state
returns-clause-state c = timed_state c.args.scene.now (record c.args.scene.now { timers = c.open.new.timers }) refl c.args.port.n (what_view c.args.what.now) c.args.moment c.in_ok-open.ensures.deadlines c.in_ok-open.ensures.moment

pub returns-clause-scene : goal.returns-clause-scene
returns-clause-scene c = timers_scene c.args.scene.now (record c.args.scene.now { timers = c.open.new.timers }) refl
