use Rattle.ca_term.specs.Program.{program_view}
use Rattle.ca_pool.proofs.AtWork.{lost_now, ready_later, worked_same}
use Rattle.ca_pool.proofs.visit.give_up.Goals as goal

pub rise-requires : goal.rise-requires
rise-requires g c = record { seated = (program_view c.args.worker.now.program.value, c.args.worker.now.workers, c.requires.at.seated) }

pub returns-in-ClockFailed-clause-given_up : goal.returns-in-ClockFailed-clause-given_up
returns-in-ClockFailed-clause-given_up g c = ready_later g.A.Agent.over g.A.Agent.stands c.args.code.now c.args.table.now.id c.rise.ensures.drew.same (c.rise.ensures.ready (program_view c.args.worker.now.program.value) c.args.worker.now.workers c.requires.at.seated)

pub returns-in-ClockFailed-clause-worked : goal.returns-in-ClockFailed-clause-worked
returns-in-ClockFailed-clause-worked g c = λ start w h. worked_same c.rise.ensures.same c.rise.ensures.turns (rw c.in-ClockFailed.is at h)

pub returns-in-OutOfMemory-clause-worked : goal.returns-in-OutOfMemory-clause-worked
returns-in-OutOfMemory-clause-worked g c = λ start w h. rw c.in-OutOfMemory.is at h

pub returns-in-OutOfMemory-clause-given_up : goal.returns-in-OutOfMemory-clause-given_up
returns-in-OutOfMemory-clause-given_up g c = lost_now g.A.Agent.over g.A.Agent.stands c.args.code.now c.args.table.now.id c.requires.at
