use Rattle.ca_term.specs.Program.{program_view}
use Rattle.ca_pool.proofs.AtWork.{at_first, spent_first}
use Rattle.ca_pool.proofs.LoneVisits.{goes_first}
use Rattle.ca_pool.proofs.work.take_seat.Goals as goal

pub sit-lane-requires : goal.sit-lane-requires
sit-lane-requires g c = record { ready = (program_view c.args.worker.now.program.value, c.args.worker.now.workers, c.requires.ready) }

pub returns-clause-at : goal.returns-clause-at
returns-clause-at g c = let y = c.sit-lane in at_first g.A.Agent.over g.A.Agent.stands c.args.code.now c.args.table.now.id y.ensures.drew.same c.requires.lowered c.requires.gos (y.ensures.seated (program_view c.args.worker.now.program.value) c.args.worker.now.workers c.requires.ready) y.ensures.over

pub returns-clause-spent : goal.returns-clause-spent
returns-clause-spent g c = spent_first c.sit-lane.ensures.same c.sit-lane.ensures.turns

pub returns-clause-solo : goal.returns-clause-solo
returns-clause-solo g c = λ alone fresh some. let a = g.A.Agent in let m = g.met.A.Agent in let y = c.sit-lane.ensures in
    goes_first a.over a.place a.stands a.advances a.gives a.starts m.advanced m.answered m.started c.args.code.now y.same c.args.table.now.id c.args.allowance c.requires.ready y.turns alone fresh some
