use Rattle.std.proofs.Common.{◌≡◌, ◌∙◌, ℕ, ◌+◌, ◌-◌, ◌*◌, ◌/◌, ◌≤◌, length, ap, subst, sym, arith, Result, Err}
use Rattle.ca_term.specs.Program.{program_view}
use Rattle.ca_meaning.specs.Ends.{IsWithin}
use Rattle.ca_states.specs.ValidCode.{valid_code}
use Rattle.ca_timers.specs.Causes.{Rose}
use Rattle.ca_journal.specs.Events.{events}
use Rattle.ca_turns.specs.Places.{total}
use Rattle.ca_commit.specs.Opening.{unasked}
use Rattle.ca_table.specs.Opening.{opening_list}
use Rattle.ca_table.specs.Worked.{spent}
use Rattle.ca_pool.specs.declared.run_end.RunStop.{RunStop}
use Rattle.ca_pool.specs.declared.run_end.RunStop.TheVariants.{ClockFailed}
use Rattle.ca_pool.proofs.SoloRuns.{all_of_it, begins_all}
use Rattle.ca_pool.proofs.Stopping.{enough, none_yet, quiet_by}
use Rattle.ca_pool.proofs.pool_run.work_through.Goals as goal

same_clock : {T C : Type 0} (a b : C) → ◌≡◌ {A = Result T (RunStop C)} (Err (ClockFailed a)) (Err (ClockFailed b)) → a ≡ b
same_clock a b e = cc

pub returns-in_ok-collected-in-Ok-clause-run : goal.returns-in_ok-collected-in-Ok-clause-run
returns-in_ok-collected-in-Ok-clause-run g c = let old = c.in_ok-opened.opened.1.items in let opened = c.in_ok-opened.ensures in let r = c.in-Ok.ensures in let gt = c.in_ok-collected-in-Ok.ensures in let b = c.args.budget in let w = c.args.workers in
    let budget = subst (λ (n : ℕ). b ≤ n * ((b - 1) / w + 1)) (sym opened.workers) (enough b w c.requires.budget c.requires.workers.0) in
    (gt.run.0, gt.run.1, quiet_by c.round_of.new.workers.items c.in-Ok._end (events c.in_ok-collected-in-Ok.collected.0) gt.run.0 b (length old * ((b - 1) / w + 1)) (total spent old) c.requires.budget budget r.spent gt.spent r.over (r.going (none_yet old opened.idle)) gt.run.2 gt.main gt.marked)

pub returns-in_ok-collected-in-Ok-clause-moments : goal.returns-in_ok-collected-in-Ok-clause-moments
returns-in_ok-collected-in-Ok-clause-moments g c = let K = g.C.Clock in let clock = c.args.clock in
    let opening = opening_list c.args.workers (valid_code c.args.code.now) c.args.program.now c.args.main (unasked (K.least clock) (K.faults clock) (K.readings clock)) in
    (c.in_ok-collected-in-Ok.ensures.clock c.args.main (K.least clock) (K.faults clock) (K.readings clock) (c.in-Ok.ensures.opening opening c.in_ok-opened.ensures.opening)).0

pub returns-in_ok-collected-in-Err-ClockFailed-clause-failed : goal.returns-in_ok-collected-in-Err-ClockFailed-clause-failed
returns-in_ok-collected-in-Err-ClockFailed-clause-failed g c = λ last e. let K = g.C.Clock in let clock = c.args.clock in let r = c.round_of.ensures in let arm = c.in-Err-ClockFailed in
    let opening = opening_list c.args.workers (valid_code c.args.code.now) c.args.program.now c.args.main (unasked (K.least clock) (K.faults clock) (K.readings clock)) in
    let rose = (c.in_ok-collected-in-Err-ClockFailed.ensures.clock c.args.main (K.least clock) (K.faults clock) (K.readings clock) (r.opening opening c.in_ok-opened.ensures.opening)).1 (r.failed (arm.is ∙ ap Err arm.field-0-is)).2 in
    subst (λ (x : g.row.C.Denot). Rose (K.faults clock) (K.faults x)) (same_clock c.in_ok-collected-in-Err-ClockFailed.collected.1 last e) rose

pub returns-in_ok-collected-in-Ok-clause-solo : goal.returns-in_ok-collected-in-Ok-clause-solo
returns-in_ok-collected-in-Ok-clause-solo g c = λ one. let a = g.A.Agent in let K = g.C.Clock in let n = c.args.workers in let code = c.args.code.now in let o = c.in_ok-opened.ensures in let clock = c.args.clock in let allowance = (c.args.budget - 1) / n + 1 in
    let opening = opening_list n (valid_code code) c.args.program.now c.args.main (unasked (K.least clock) (K.faults clock) (K.readings clock)) in
    let begun = begins_all a.over a.stands code c.in_ok-opened.opened.0.id (program_view c.args.program.now) n opening c.in_ok-opened.opened.1.items one o.ready o.each o.idle o.opening in
    (c.in_ok-collected-in-Ok.ensures.solo c.args.main clock allowance one (c.in-Ok.ensures.solo opening (omega arith) begun)).0

pub returns-in_ok-collected-in-Ok-clause-whole : goal.returns-in_ok-collected-in-Ok-clause-whole
returns-in_ok-collected-in-Ok-clause-whole g c = λ one. let a = g.A.Agent in let K = g.C.Clock in let n = c.args.workers in let code = c.args.code.now in let o = c.in_ok-opened.ensures in let clock = c.args.clock in let allowance = (c.args.budget - 1) / n + 1 in
    let opening = opening_list n (valid_code code) c.args.program.now c.args.main (unasked (K.least clock) (K.faults clock) (K.readings clock)) in
    let begun = begins_all a.over a.stands code c.in_ok-opened.opened.0.id (program_view c.args.program.now) n opening c.in_ok-opened.opened.1.items one o.ready o.each o.idle o.opening in
    let s = c.in_ok-collected-in-Ok.ensures.solo c.args.main clock allowance one (c.in-Ok.ensures.solo opening (omega arith) begun) in
    (subst (λ (k : ℕ). IsWithin k (events c.in_ok-collected-in-Ok.collected.0)) (all_of_it c.args.budget n c.requires.budget one) s.1, s.2)
