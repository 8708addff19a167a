use Rattle.ca_term.specs.Program.{program_view}
use Rattle.ca_pool.proofs.AtWork.{at_later, lost_seated, on_ok, over_none, some_of, spent_quiet, worked_out}
use Rattle.ca_pool.proofs.LoneVisits.{goes_back}
use Rattle.ca_pool.proofs.visit.yield_lane.Goals as goal

pub yield_task-lane-requires-clause-seated : goal.yield_task-lane-requires-clause-seated
yield_task-lane-requires-clause-seated g c = (program_view c.args.worker.now.program.value, c.args.worker.now.workers, c.requires.at.seated)

pub yield_task-lane-requires-clause-busy : goal.yield_task-lane-requires-clause-busy
yield_task-lane-requires-clause-busy g c = some_of c.args.going.lane.value.task c.requires.busy

pub returns-in-Ok-clause-at : goal.returns-in-Ok-clause-at
returns-in-Ok-clause-at g c = let y = c.yield_task-lane in at_later g.A.Agent.over g.A.Agent.stands c.args.code.now c.args.table.now.id y.ensures.same c.requires.at (y.ensures.seated (program_view c.args.worker.now.program.value) c.args.worker.now.workers c.requires.at.seated) (over_none g.A.Agent.over c.args.code.now y.result.0.value (on_ok y.result.1 _ c.in-Ok.is y.ensures.free))

pub returns-in-Ok-clause-spent : goal.returns-in-Ok-clause-spent
returns-in-Ok-clause-spent g c = λ start w h. spent_quiet c.requires.on h c.yield_task-lane.ensures.drew

pub returns-in-Err-clause-given_up : goal.returns-in-Err-clause-given_up
returns-in-Err-clause-given_up g c = let y = c.yield_task-lane in lost_seated g.A.Agent.over g.A.Agent.stands c.args.code.now c.args.table.now.id y.ensures.same y.result.0.value (y.ensures.seated (program_view c.args.worker.now.program.value) c.args.worker.now.workers c.requires.at.seated)

pub returns-in-Err-clause-stopped : goal.returns-in-Err-clause-stopped
returns-in-Err-clause-stopped g c = λ start w h. worked_out h c.yield_task-lane.ensures.drew

pub returns-in-Ok-clause-solo : goal.returns-in-Ok-clause-solo
returns-in-Ok-clause-solo g c = λ most full go. let a = g.A.Agent in let m = g.met.A.Agent in let y = c.yield_task-lane in
    goes_back a.over a.place a.stands a.advances a.gives a.starts m.advanced m.answered m.started c.args.code.now c.args.table.now.id c.requires.at y.ensures.same y.ensures.hand (on_ok y.result.1 _ c.in-Ok.is y.ensures.yielded) c.requires.on y.ensures.drew c.requires.busy full go
