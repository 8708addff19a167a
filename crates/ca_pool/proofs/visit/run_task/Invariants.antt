use Rattle.std.proofs.Common.{ℕ, []}
use Rattle.ca_table.specs.Workers.{SameWorker}
use Rattle.ca_table.specs.declared.worker.Worker.{Worker}
use Rattle.ca_alone.specs.Schedule.{MaySettle, to_turn}
use Rattle.ca_pool.specs.AtWork.{HasSpent, IsAtWork}
use Rattle.ca_pool.specs.Desk.{IsBare}
use Rattle.ca_pool.specs.Lone.{IsGoing}
use Rattle.ca_pool.proofs.visit.run_task.Given as goal

abbrev pub invariant-loop : goal.invariant-loop
invariant-loop g l = record {
  same : SameWorker l.initial.worker l.worker;
  bare : IsBare l.held;
  at : IsAtWork g.A.Agent.over g.A.Agent.stands l.code l.table.id l.worker l.going.lane.value;
  spent : (start : ℕ) (w : Worker g.row.A.Denot g.row.C.Denot) → HasSpent start l.initial.going.left l.initial.going.found w l.initial.worker → HasSpent start l.going.left l.going.found w l.worker;
  solo : (most : ℕ) → IsGoing g.A.Agent.over g.A.Agent.place g.A.Agent.stands g.A.Agent.advances g.A.Agent.gives g.A.Agent.starts l.code (MaySettle to_turn []) most l.initial.going.left l.initial.going.found l.initial.worker → IsGoing g.A.Agent.over g.A.Agent.place g.A.Agent.stands g.A.Agent.advances g.A.Agent.gives g.A.Agent.starts l.code (MaySettle to_turn []) most l.going.left l.going.found l.worker;
}
