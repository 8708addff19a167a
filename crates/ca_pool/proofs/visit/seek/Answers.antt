use Rattle.std.proofs.Common.{◌∙◌, sym, ap}
use Rattle.std.specs.Prelude.{is_some, not}
use Rattle.ca_table.specs.declared.part.Lane.{Lane}
use Rattle.ca_pool.proofs.LoneVisits.{not_there, then_ok}
use Rattle.ca_pool.proofs.AtWork.{if_err}
use Rattle.ca_pool.proofs.visit.seek.Goals as goal

pub returns-then-is_none-clause-solo : goal.returns-then-is_none-clause-solo
returns-then-is_none-clause-solo g c = let none = not_there c.find_task-going.result.lane.value.task (ap (λ (l : Lane g.row.A.Denot). is_some l.task) (sym c.deref.ensures) ∙ c.is_none.ensures ∙ ap not c.if-is_none.true) in
    then_ok c.rest_and_settle.result (λ x f most free r. f most (c.find_task-going.ensures.empty most free none r)) c.rest_and_settle.ensures.solo

pub returns-else-is_none-clause-solo : goal.returns-else-is_none-clause-solo
returns-else-is_none-clause-solo g c = let some = ap (λ (l : Lane g.row.A.Denot). is_some l.task) (sym c.deref.ensures) ∙ c.is_none.ensures ∙ ap not c.if-is_none.false in
    then_ok c.run_picked.result (λ x f most free r. f most (c.find_task-going.ensures.picked most free some r)) c.run_picked.ensures.solo

pub returns-then-is_none-clause-stopped : goal.returns-then-is_none-clause-stopped
returns-then-is_none-clause-stopped g c = if_err c.rest_and_settle.result (λ s f start w h. f start w (c.find_task-going.ensures.spent start w h)) c.rest_and_settle.ensures.stopped

pub returns-else-is_none-clause-stopped : goal.returns-else-is_none-clause-stopped
returns-else-is_none-clause-stopped g c = if_err c.run_picked.result (λ s f start w h. f start w (c.find_task-going.ensures.spent start w h)) c.run_picked.ensures.stopped
