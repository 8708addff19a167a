use Rattle.std.proofs.Common.{◌≡◌, ◌≤◌, List, subst, sym}
use Rattle.ca_value.specs.Deadlines.{Deadline}
use Rattle.ca_table.specs.Parts.{clockwork_seen}
use Rattle.ca_alone.specs.OwnTurn.{IsDue}
use Rattle.ca_alone.specs.Schedule.{to_rest}
use Rattle.ca_pool.specs.Asking.{IsAsked}
use Rattle.ca_pool.proofs.Asides.{failed_fails}
use Rattle.ca_pool.proofs.Takens.{for_answer, for_err, same_show}
use Rattle.ca_pool.proofs.LoneClocks.{is_due}
use Rattle.ca_table.specs.declared.answer.PoolStop.{PoolStop}
use Rattle.ca_table.specs.declared.answer.PoolStop.TheVariants.{OutOfMemory}
use Rattle.ca_pool.specs.AtWork.{GaveUp}
use Rattle.ca_pool.proofs.AtWork.{gave_failed, gave_none, if_err_and}
use Rattle.ca_pool.proofs.idle.wait_late.Goals as goal

pub draw_clock-requires-clause-carries : goal.draw_clock-requires-clause-carries
draw_clock-requires-clause-carries g c = let K = g.C.Clock in let r = c.requires.carries in let held = c.args.held.now in let t = c.answer_late-clockwork in
    (r.0, r.1, r.2, c.args.clockwork, held, r.3, same_show held, failed_fails (clockwork_seen K.least K.faults K.readings c.args.clockwork.value) (clockwork_seen K.least K.faults K.readings t.result.0.value) (clockwork_seen K.least K.faults K.readings c.with_mark-failed.result.value) (for_err t.result.1 _ c.in-Err.is t.ensures.failed) c.with_mark-failed.ensures)

pub returns-in-Err-clause-carries : goal.returns-in-Err-clause-carries
returns-in-Err-clause-carries g c = λ P n l s. let K = g.C.Clock in let held = c.args.held.now in let t = c.answer_late-clockwork in
    c.draw_clock.ensures.carries P n l c.args.clockwork held s (same_show held) (failed_fails (clockwork_seen K.least K.faults K.readings c.args.clockwork.value) (clockwork_seen K.least K.faults K.readings t.result.0.value) (clockwork_seen K.least K.faults K.readings c.with_mark-failed.result.value) (for_err t.result.1 _ c.in-Err.is t.ensures.failed) c.with_mark-failed.ensures)

pub pass-requires-clause-carries : goal.pass-requires-clause-carries
pass-requires-clause-carries g c = let K = g.C.Clock in let r = c.requires.carries in let t = c.answer_late-clockwork in
    (r.0, r.1, r.2, c.args.clockwork, r.3, for_answer (λ now. IsAsked now (clockwork_seen K.least K.faults K.readings c.args.clockwork.value) (clockwork_seen K.least K.faults K.readings t.result.0.value)) t.result.1 c.in-Ok.now c.in-Ok.is t.ensures.asked)

pub returns-in_err-asked-in-Ok-clause-carries : goal.returns-in_err-asked-in-Ok-clause-carries
returns-in_err-asked-in-Ok-clause-carries g c = λ P n l s. let K = g.C.Clock in let t = c.answer_late-clockwork in
    c.pass.ensures.carries P n l c.args.clockwork s (for_answer (λ now. IsAsked now (clockwork_seen K.least K.faults K.readings c.args.clockwork.value) (clockwork_seen K.least K.faults K.readings t.result.0.value)) t.result.1 c.in-Ok.now c.in-Ok.is t.ensures.asked)

pub returns-in_ok-asked-in-Ok-clause-carries : goal.returns-in_ok-asked-in-Ok-clause-carries
returns-in_ok-asked-in-Ok-clause-carries g c = λ P n l s. let K = g.C.Clock in let t = c.answer_late-clockwork in
    c.pass.ensures.carries P n l c.args.clockwork s (for_answer (λ now. IsAsked now (clockwork_seen K.least K.faults K.readings c.args.clockwork.value) (clockwork_seen K.least K.faults K.readings t.result.0.value)) t.result.1 c.in-Ok.now c.in-Ok.is t.ensures.asked)

pub returns-in_ok-asked-in-Ok-clause-solo : goal.returns-in_ok-asked-in-Ok-clause-solo
returns-in_ok-asked-in-Ok-clause-solo g c = λ first most may. let K = g.C.Clock in let t = c.answer_late-clockwork in let now = c.in-Ok.now in
    let asked = for_answer (λ now. IsAsked now (clockwork_seen K.least K.faults K.readings c.args.clockwork.value) (clockwork_seen K.least K.faults K.readings t.result.0.value)) t.result.1 now c.in-Ok.is t.ensures.asked in
    let reached = for_answer (λ now. c.args.first ≤ now) t.result.1 now c.in-Ok.is t.ensures.reached in
    (c.in_ok-asked-in-Ok.ensures.solo to_rest most (subst (λ (ds : List Deadline). IsDue ds now) (sym asked.deadlines) (is_due c.args.first now c.args.clockwork.value.timers.deadlines first reached)) may).2

pub returns-in-Err-clause-stopped : goal.returns-in-Err-clause-stopped
returns-in-Err-clause-stopped g c = gave_failed c.draw_clock.ensures.same c.draw_clock.ensures.hand c.draw_clock.ensures.turn

pub returns-in_err-asked-in-Ok-clause-stopped : goal.returns-in_err-asked-in-Ok-clause-stopped
returns-in_err-asked-in-Ok-clause-stopped g c = if_err_and c.from_residual.result (λ s is. let e : s ≡ OutOfMemory = is in subst (λ (s : PoolStop). GaveUp s c.args.worker.now c.pass.new.worker) (sym e) (gave_none c.in_err-asked-in-Ok.ensures.refused)) c.from_residual.ensures.1
