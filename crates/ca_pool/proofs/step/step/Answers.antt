use Rattle.ca_term.specs.Program.{program_view}
use Rattle.ca_table.proofs.Carriers.{seated_carries}
use Rattle.ca_pool.proofs.AtWork.{any_err, at_later, has_left, if_both, lost_later, lost_now, on_err}
use Rattle.std.proofs.Common.{ℕ, ◌<◌, sym, subst}
use Rattle.ca_meaning.specs.Solo.{patience}
use Rattle.ca_pool.proofs.AtEvents.{drew_nothing}
use Rattle.ca_pool.proofs.Resolutions.{if_ok_map}
use Rattle.ca_pool.proofs.step.step.Goals as goal

pub advance-requires : goal.advance-requires
advance-requires g c = c.requires.at.task_over _ c.leave_lane-left.ensures.task

pub returns-in_err-task-clause-lost : goal.returns-in_err-task-clause-lost
returns-in_err-task-clause-lost g c = any_err c.from_residual.result (lost_now g.A.Agent.over g.A.Agent.stands c.args.code.now c.args.table.now.id c.requires.at)

pub act-requires-clause-left : goal.act-requires-clause-left
act-requires-clause-left g c = let p = program_view c.args.worker.now.program.value in let n = c.args.worker.now.workers in let l = c.args.lane.value in let at = c.requires.at in let e = c.in_ok-task.ensures in let out = c.leave_lane-left in
    let carries = seated_carries g.A.Agent.over g.A.Agent.stands p c.args.code.now c.args.table.now.id n c.args.worker.now l at.seated in
    let left = has_left g.A.Agent.over g.A.Agent.advances p c.args.code.now l out.result.0.value out.result.1 c.in_ok-task.task out.ensures.task out.ensures.program out.ensures.since out.ensures.counts e.number e.port e.alts (e.advances p at.lowered) e.over in
    (p, n, l, carries, left, at.seated.lane_is)

pub returns-clause-at : goal.returns-clause-at
returns-clause-at g c = let p = program_view c.args.worker.now.program.value in let n = c.args.worker.now.workers in let l = c.args.lane.value in let at = c.requires.at in let e = c.in_ok-task.ensures in let out = c.leave_lane-left in
    let carries = seated_carries g.A.Agent.over g.A.Agent.stands p c.args.code.now c.args.table.now.id n c.args.worker.now l at.seated in
    let left = has_left g.A.Agent.over g.A.Agent.advances p c.args.code.now l out.result.0.value out.result.1 c.in_ok-task.task out.ensures.task out.ensures.program out.ensures.since out.ensures.counts e.number e.port e.alts (e.advances p at.lowered) e.over in
    if_both c.act.result (λ s seated task. at_later g.A.Agent.over g.A.Agent.stands c.args.code.now c.args.table.now.id c.act.ensures.same at (seated p n l carries left at.seated.lane_is) task) c.act.ensures.stepped c.act.ensures.over

pub returns-clause-lost : goal.returns-clause-lost
returns-clause-lost g c = let p = program_view c.args.worker.now.program.value in let n = c.args.worker.now.workers in let l = c.args.lane.value in let at = c.requires.at in let e = c.in_ok-task.ensures in let out = c.leave_lane-left in
    let carries = seated_carries g.A.Agent.over g.A.Agent.stands p c.args.code.now c.args.table.now.id n c.args.worker.now l at.seated in
    on_err c.act.result (λ kept. lost_later g.A.Agent.over g.A.Agent.stands c.args.code.now c.args.table.now.id c.act.ensures.same l (kept p n l carries)) c.act.ensures.kept

pub returns-clause-solo : goal.returns-clause-solo
returns-clause-solo g c = if_ok_map c.act.result (λ s st. λ few most may. st (subst (λ (k : ℕ). k < patience) (sym c.leave_lane-left.ensures.since) few) most may) c.act.ensures.solo

pub returns-in_err-task-clause-refused : goal.returns-in_err-task-clause-refused
returns-in_err-task-clause-refused g c = any_err c.from_residual.result (drew_nothing c.args.worker.now)
