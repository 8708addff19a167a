use Rattle.std.proofs.Common.{ℕ, List, ◌∷◌, false}
use Rattle.ca_term.specs.Program.{ProgramView}
use Rattle.ca_table.specs.Carriers.{IsCarrying, just_lane}
use Rattle.ca_table.specs.Worked.{Drew}
use Rattle.ca_table.specs.Workers.{SameWorker}
use Rattle.ca_table.specs.declared.part.Lane.{Lane}
use Rattle.ca_alone.specs.Schedule.{Follow, MaySettle}
use Rattle.ca_pool.specs.Desk.{IsBare}
use Rattle.ca_pool.specs.Lone.{MayGo}
use Rattle.ca_pool.proofs.settle.settle.Given as goal

abbrev pub invariant-loop : goal.invariant-loop
invariant-loop g l = SameWorker l.initial.worker l.worker × IsBare l.held × Drew 0 false l.initial.worker l.worker
    × ((P : ProgramView) (n : ℕ) (lane : Lane g.row.A.Denot) → IsCarrying g.A.Agent.over g.A.Agent.stands P l.code l.table.id n l.initial.worker (just_lane n l.code lane) → IsCarrying g.A.Agent.over g.A.Agent.stands P l.code l.table.id n l.worker (just_lane n l.code lane))
    × ((k : Follow) (us : List ℕ) (most : ℕ) → MayGo g.A.Agent.over g.A.Agent.place g.A.Agent.stands g.A.Agent.advances g.A.Agent.gives g.A.Agent.starts l.code (MaySettle k (l.port.n ∷ us)) most l.initial.worker → MayGo g.A.Agent.over g.A.Agent.place g.A.Agent.stands g.A.Agent.advances g.A.Agent.gives g.A.Agent.starts l.code (MaySettle k (l.port.n ∷ us)) most l.worker)
