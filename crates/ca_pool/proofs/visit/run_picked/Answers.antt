use Rattle.std.proofs.Common.{◌≡◌, ℕ, List, Err, sym, subst}
use Rattle.ca_alone.specs.Schedule.{MaySettle, to_turn}
use Rattle.ca_table.specs.Worked.{HasWorked}
use Rattle.ca_table.specs.declared.answer.PoolStop.{PoolStop}
use Rattle.ca_table.specs.declared.worker.Worker.{Worker}
use Rattle.ca_pool.specs.AtWork.{HasSpent}
use Rattle.ca_pool.specs.Lone.{IsGoing}
use Rattle.ca_pool.proofs.LoneVisits.{then_ok}
use Rattle.ca_pool.proofs.AtWork.{if_err, if_err_and}
use Rattle.ca_pool.proofs.visit.run_picked.Goals as goal

pub returns-clause-solo : goal.returns-clause-solo
returns-clause-solo g c = let a = g.A.Agent in then_ok c.run_and_leave.result (λ x f most r. f most (c.in_ok-going.ensures.solo to_turn most
    (subst (λ (us : List ℕ). IsGoing a.over a.place a.stands a.advances a.gives a.starts c.args.code.now (MaySettle to_turn us) most c.in_ok-asked.asked.left c.in_ok-asked.asked.found c.ask_clock.new.worker) (sym c.as_slice.ensures.value) (c.in_ok-asked.ensures.solo most c.clear.ensures.items r)))) c.run_and_leave.ensures.solo

pub returns-clause-stopped : goal.returns-clause-stopped
returns-clause-stopped g c = if_err c.run_and_leave.result (λ s f start w h. f start w (c.in_ok-going.ensures.spent start w (c.in_ok-asked.ensures.spent start w h))) c.run_and_leave.ensures.stopped

pub returns-in_err-going-clause-stopped : goal.returns-in_err-going-clause-stopped
returns-in_err-going-clause-stopped g c = if_err_and c.from_residual-in_err-going.result (λ s is. let e : s ≡ c.in_err-going.field-0.0 = (let q = is in cc) in
    subst (λ (s : PoolStop). (start : ℕ) (w : Worker g.row.A.Denot g.row.C.Denot) → HasSpent start c.args.going.left c.args.going.found w c.args.worker.now → HasWorked start (Err s) w c.settle_ports.new.worker) (sym e)
    (λ start w h. c.in_err-going.ensures.stopped start w (c.in_ok-asked.ensures.spent start w h))) c.from_residual-in_err-going.ensures.1
