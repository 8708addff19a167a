use Rattle.std.proofs.Common.{◌∙◌}
use Rattle.ca_term.specs.Program.{program_view}
use Rattle.ca_table.proofs.Carriers.{holds_lane}
use Rattle.ca_pool.proofs.AtWork.{worked_told}
use Rattle.ca_pool.proofs.work.tell_stop.Goals as goal

pub stop-requires-clause-carries : goal.stop-requires-clause-carries
stop-requires-clause-carries g c = let lost = rw c.in-OutOfMemory.is at c.requires.given_up in (program_view c.args.worker.now.program.value, c.args.worker.now.workers, lost.lane, lost.carries)

pub returns-in-ClockFailed-clause-worked : goal.returns-in-ClockFailed-clause-worked
returns-in-ClockFailed-clause-worked g c = λ start w h. rw c.in-ClockFailed.is at h

pub returns-in-OutOfMemory-clause-worked : goal.returns-in-OutOfMemory-clause-worked
returns-in-OutOfMemory-clause-worked g c = λ start w h. worked_told c.stop.ensures.same c.stop.ensures.hand c.stop.ensures.turn (rw c.in-OutOfMemory.is at h)

pub returns-in-OutOfMemory-clause-kept : goal.returns-in-OutOfMemory-clause-kept
returns-in-OutOfMemory-clause-kept g c = λ e i holds. let a = g.A.Agent in let w = c.args.worker.now in let lost = rw c.in-OutOfMemory.is at c.requires.given_up in
    holds_lane a.over a.stands (program_view w.program.value) c.args.code.now c.args.table.now.id w.workers c.stop.new.worker lost.lane (c.stop.ensures.carries (program_view w.program.value) w.workers lost.lane lost.carries) i holds ∙ c.stop.ensures.same.number
