use Rattle.ca_term.specs.Program.{program_view}
use Rattle.ca_pool.proofs.AtWork.{at_later}
use Rattle.ca_pool.proofs.visit.look_idle.Goals as goal

pub idle-lane-requires-clause-seated : goal.idle-lane-requires-clause-seated
idle-lane-requires-clause-seated g c = (program_view c.args.worker.now.program.value, c.args.worker.now.workers, c.requires.at.seated)

pub returns-clause-at : goal.returns-clause-at
returns-clause-at g c = let y = c.idle-lane in at_later g.A.Agent.over g.A.Agent.stands c.args.code.now c.args.table.now.id y.ensures.same c.requires.at (y.ensures.seated (program_view c.args.worker.now.program.value) c.args.worker.now.workers c.requires.at.seated) y.ensures.over
