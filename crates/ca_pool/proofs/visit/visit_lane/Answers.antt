use Rattle.std.proofs.Common.{◌∙◌, sym, ap}
use Rattle.std.specs.Prelude.{[], is_some}
use Rattle.ca_alone.specs.Schedule.{MaySettle, to_turn}
use Rattle.ca_table.specs.declared.part.Lane.{Lane}
use Rattle.ca_pool.proofs.LoneVisits.{not_there, running_not_free, then_ok}
use Rattle.ca_pool.proofs.visit.visit_lane.Goals as goal

pub returns-then-is_some-clause-solo : goal.returns-then-is_some-clause-solo
returns-then-is_some-clause-solo g c = let a = g.A.Agent in let m = g.met.A.Agent in let busy = ap (λ (l : Lane g.row.A.Denot). is_some l.task) (sym c.deref.ensures) ∙ sym c.is_some.ensures ∙ c.if-is_some.true in
    then_ok c.run_and_leave.result (λ x f most r. f most (running_not_free a.over a.place a.stands a.advances a.gives a.starts m.advanced m.answered m.started c.args.code.now c.args.table.now.id c.requires.at (MaySettle to_turn []) busy r)) c.run_and_leave.ensures.solo

pub returns-else-is_some-clause-solo : goal.returns-else-is_some-clause-solo
returns-else-is_some-clause-solo g c = let free = not_there c.args.going.lane.value.task (ap (λ (l : Lane g.row.A.Denot). is_some l.task) (sym c.deref.ensures) ∙ sym c.is_some.ensures ∙ c.if-is_some.false) in
    then_ok c.seek.result (λ x f most r. f most free r) c.seek.ensures.solo
