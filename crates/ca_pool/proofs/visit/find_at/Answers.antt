use Rattle.ca_term.specs.Program.{program_view}
use Rattle.ca_pool.proofs.AtWork.{at_later, spent_quiet}
use Rattle.ca_pool.proofs.LoneVisits.{goes_empty, goes_picked}
use Rattle.ca_pool.proofs.visit.find_at.Goals as goal

pub pick-lane-requires-clause-seated : goal.pick-lane-requires-clause-seated
pick-lane-requires-clause-seated g c = (program_view c.args.worker.now.program.value, c.args.worker.now.workers, c.requires.at.seated, c.requires.below)

pub returns-clause-at : goal.returns-clause-at
returns-clause-at g c = let y = c.pick-lane in at_later g.A.Agent.over g.A.Agent.stands c.args.code.now c.args.table.now.id y.ensures.same c.requires.at (y.ensures.seated (program_view c.args.worker.now.program.value) c.args.worker.now.workers c.requires.at.seated) y.ensures.over

pub returns-clause-spent : goal.returns-clause-spent
returns-clause-spent g c = λ start w h. spent_quiet c.requires.on h c.pick-lane.ensures.drew

pub returns-clause-empty : goal.returns-clause-empty
returns-clause-empty g c = λ most none r. let a = g.A.Agent in let m = g.met.A.Agent in let y = c.pick-lane.ensures in
    goes_empty a.over a.place a.stands a.advances a.gives a.starts m.advanced m.answered m.started c.args.code.now y.same c.args.at c.requires.below (y.none none) (y.empty none r.at.lone.1) r

pub returns-clause-picked : goal.returns-clause-picked
returns-clause-picked g c = λ most some r. let a = g.A.Agent in let m = g.met.A.Agent in let y = c.pick-lane.ensures in
    goes_picked a.over a.place a.stands a.advances a.gives a.starts m.advanced m.answered m.started c.args.code.now y.same c.args.at c.requires.below y.hand (y.picked some) y.drew r
