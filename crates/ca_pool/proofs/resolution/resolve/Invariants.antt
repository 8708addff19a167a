use Rattle.std.proofs.Common.{false}
use Rattle.ca_table.specs.Parts.{part_seen}
use Rattle.ca_table.specs.Worked.{Drew}
use Rattle.ca_pool.specs.AtEvent.{HasLane}
use Rattle.ca_pool.specs.Desk.{SameNumbers}
use Rattle.ca_pool.specs.Lone.{Stayed}
use Rattle.ca_pool.specs.Resolving.{Took, Wants}
use Rattle.ca_pool.proofs.resolution.resolve.Given as goal

abbrev pub invariant-tries : goal.invariant-tries
invariant-tries g l = record {
  drew : Drew 0 false l.fn.worker l.worker;
  stayed : Stayed l.fn.worker l.worker;
  numbers : SameNumbers l.fn.held l.held;
  wants : Wants g.A.Agent.place l.wanted.banks l.held.new_port l.task;
  took : Took g.A.Agent.over g.A.Agent.stands g.A.Agent.place (part_seen g.C.Clock.least g.C.Clock.faults g.C.Clock.readings) l.code l.table.id (λ program n lane. HasLane g.A.Agent.over g.A.Agent.stands l.code l.table.id program n lane l.fn.worker) l.wanted.banks l.wanted.shards l.held l.worker;
}
