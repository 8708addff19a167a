use Rattle.std.proofs.Common.{◌≡◌, ◌∙◌}
use Rattle.ca_table.specs.declared.answer.PoolStop.TheVariants.{OutOfMemory}
use Rattle.ca_pool.proofs.AtWork.{worked_none}
use Rattle.ca_pool.proofs.work.work.Goals as goal

pub returns-in_default-clause-worked : goal.returns-in_default-clause-worked
returns-in_default-clause-worked g c = worked_none c.args.worker.now

pub returns-clause-worked : goal.returns-clause-worked
returns-clause-worked g c = c.tell_stop.ensures.worked c.args.allowance c.args.worker.now c.in-Err.ensures.stopped

pub returns-in_default-clause-kept : goal.returns-in_default-clause-kept
returns-in_default-clause-kept g c = λ e i holds. absurd (c.requires.ready.nothing i holds.0 holds.1)

pub returns-clause-kept : goal.returns-clause-kept
returns-clause-kept g c = λ e i holds. let told : c.tell_stop.result ≡ OutOfMemory = cc in c.tell_stop.ensures.kept told i holds ∙ c.in-Err.ensures.same.number
