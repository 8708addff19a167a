use Rattle.ca_term.specs.Program.{program_view}
use Rattle.std.proofs.Common.{arith, inl, inr}
use Rattle.ca_pool.proofs.AtWork.{ready_later, worked_over, worked_spent}
use Rattle.ca_pool.proofs.LoneVisits.{stops_rising}
use Rattle.ca_pool.proofs.work.leave_seat.Goals as goal

pub rise-requires : goal.rise-requires
rise-requires g c = record { seated = (program_view c.args.worker.now.program.value, c.args.worker.now.workers, c.requires.at.seated) }

pub returns-then-left-eq0 : goal.returns-then-left-eq0
returns-then-left-eq0 g c = record { same = c.rise.ensures.drew.same; ready = ready_later g.A.Agent.over g.A.Agent.stands c.args.code.now c.args.table.now.id c.rise.ensures.drew.same (c.rise.ensures.ready (program_view c.args.worker.now.program.value) c.args.worker.now.workers c.requires.at.seated); worked = λ start w h. worked_spent (omega arith) h c.rise.ensures.same c.rise.ensures.turns; solo = λ most go. stops_rising g.A.Agent.over g.A.Agent.place g.A.Agent.stands g.A.Agent.advances g.A.Agent.gives g.A.Agent.starts g.met.A.Agent.advanced g.met.A.Agent.answered g.met.A.Agent.started c.args.code.now c.rise.ensures.same c.rise.ensures.turns (inl (omega arith)) go }

pub returns-else-left-eq0 : goal.returns-else-left-eq0
returns-else-left-eq0 g c = record { same = c.rise.ensures.drew.same; ready = ready_later g.A.Agent.over g.A.Agent.stands c.args.code.now c.args.table.now.id c.rise.ensures.drew.same (c.rise.ensures.ready (program_view c.args.worker.now.program.value) c.args.worker.now.workers c.requires.at.seated); worked = λ start w h. worked_over (omega arith) (c.requires.over (omega arith)) h c.rise.ensures.same c.rise.ensures.turns; solo = λ most go. stops_rising g.A.Agent.over g.A.Agent.place g.A.Agent.stands g.A.Agent.advances g.A.Agent.gives g.A.Agent.starts g.met.A.Agent.advanced g.met.A.Agent.answered g.met.A.Agent.started c.args.code.now c.rise.ensures.same c.rise.ensures.turns (inr (c.requires.over (omega arith))) go }
