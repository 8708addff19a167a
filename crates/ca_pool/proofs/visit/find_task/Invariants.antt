use Rattle.std.proofs.Common.{◌≡◌, ℕ, ◌<◌, None}
use Rattle.std.specs.Prelude.{IsSome}
use Rattle.ca_table.specs.Workers.{SameWorker}
use Rattle.ca_table.specs.declared.worker.Worker.{Worker}
use Rattle.ca_alone.specs.Schedule.{AtEmpty, AtFree, AtPicked}
use Rattle.ca_pool.specs.AtWork.{HasSpent, IsAtWork}
use Rattle.ca_pool.specs.Lone.{IsRunning}
use Rattle.ca_pool.proofs.visit.find_task.Given as goal

abbrev pub invariant-loop-k : goal.invariant-loop-k
invariant-loop-k g l = record {
  same : SameWorker l.initial.worker l.worker;
  at : IsAtWork g.A.Agent.over g.A.Agent.stands l.code l.table.id l.worker l.going.lane.value;
  left : l.going.left ≡ l.initial.going.left;
  found : l.going.found ≡ l.initial.going.found;
  spent : (start : ℕ) (w : Worker g.row.A.Denot g.row.C.Denot) → HasSpent start l.initial.going.left l.initial.going.found w l.initial.worker → HasSpent start l.going.left l.going.found w l.worker;
  first : (most : ℕ) → l.k ≡ 0 → l.initial.going.lane.value.task ≡ None → IsRunning g.A.Agent.over g.A.Agent.place g.A.Agent.stands g.A.Agent.advances g.A.Agent.gives g.A.Agent.starts l.code AtFree most l.initial.going.left l.initial.going.found l.initial.worker → (l.going.lane.value.task ≡ None) × IsRunning g.A.Agent.over g.A.Agent.place g.A.Agent.stands g.A.Agent.advances g.A.Agent.gives g.A.Agent.starts l.code AtFree most l.going.left l.going.found l.worker;
  empty : (most : ℕ) → 0 < l.k → l.going.lane.value.task ≡ None → l.initial.going.lane.value.task ≡ None → IsRunning g.A.Agent.over g.A.Agent.place g.A.Agent.stands g.A.Agent.advances g.A.Agent.gives g.A.Agent.starts l.code AtFree most l.initial.going.left l.initial.going.found l.initial.worker → IsRunning g.A.Agent.over g.A.Agent.place g.A.Agent.stands g.A.Agent.advances g.A.Agent.gives g.A.Agent.starts l.code AtEmpty most l.going.left l.going.found l.worker;
  picked : (most : ℕ) → 0 < l.k → IsSome l.going.lane.value.task → l.initial.going.lane.value.task ≡ None → IsRunning g.A.Agent.over g.A.Agent.place g.A.Agent.stands g.A.Agent.advances g.A.Agent.gives g.A.Agent.starts l.code AtFree most l.initial.going.left l.initial.going.found l.initial.worker → IsRunning g.A.Agent.over g.A.Agent.place g.A.Agent.stands g.A.Agent.advances g.A.Agent.gives g.A.Agent.starts l.code AtPicked most l.going.left l.going.found l.worker;
}
