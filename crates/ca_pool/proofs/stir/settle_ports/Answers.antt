use Rattle.std.proofs.Common.{ℕ, ◌+◌, ◌≤◌, List, arith, drop, drop_of_length-le, length, subst, ◌≡◌, Err, sym}
use Rattle.ca_commit.proofs.Parkings.{drop_first}
use Rattle.ca_alone.specs.Schedule.{MaySettle}
use Rattle.ca_pool.specs.Lone.{IsGoing}
use Rattle.ca_pool.proofs.Ranges.{workers_then}
use Rattle.ca_table.specs.Worked.{HasWorked}
use Rattle.ca_table.specs.declared.answer.PoolStop.{PoolStop}
use Rattle.ca_table.specs.declared.worker.Worker.{Worker}
use Rattle.ca_pool.specs.AtWork.{HasSpent}
use Rattle.ca_pool.proofs.AtWork.{if_err_and}
use Rattle.ca_pool.proofs.stir.settle_ports.Goals as goal

pub loop-i-preserved : goal.loop-i-preserved
loop-i-preserved g c = let a = g.A.Agent in let r = c.in_ok-going in let v = c.loop-i.invariant in let l = c.loop-i in let ports = c.args.ports.now in record {
  same = workers_then c.args.worker.now l.worker c.settle_port.new.worker v.same c.settle_port.ensures.same;
  bare = c.settle_port.ensures.bare;
  at = r.ensures.at;
  spent = λ start w h. r.ensures.spent start w (v.spent start w h);
  solo = λ k most h. r.ensures.solo k (drop (l.i + 1) ports) most
      (subst (λ (us : List ℕ). IsGoing a.over a.place a.stands a.advances a.gives a.starts c.args.code.now (MaySettle k us) most l.going.left l.going.found l.worker) (drop_first ports l.i _ (omega (arith, c.loop-i-test.true))) (v.solo k most h));
}

pub returns-clause-solo : goal.returns-clause-solo
returns-clause-solo g c = λ k most h. let a = g.A.Agent in let l = c.loop-i in let ports = c.args.ports.now in
    let past : length ports ≤ l.i = omega (arith, c.loop-i-test.false) in
    subst (λ (us : List ℕ). IsGoing a.over a.place a.stands a.advances a.gives a.starts c.args.code.now (MaySettle k us) most l.going.left l.going.found l.worker) (drop_of_length-le ports past) (l.invariant.solo k most h)

pub returns-in_err-going-clause-stopped : goal.returns-in_err-going-clause-stopped
returns-in_err-going-clause-stopped g c = if_err_and c.from_residual.result (λ s is. let e : s ≡ c.in_err-going.field-0.0 = (let q = is in cc) in
    subst (λ (s : PoolStop). (start : ℕ) (w : Worker g.row.A.Denot g.row.C.Denot) → HasSpent start c.args.going.left c.args.going.found w c.args.worker.now → HasWorked start (Err s) w c.settle_port.new.worker) (sym e)
    (λ start w h. c.in_err-going.ensures.stopped start w (c.loop-i.invariant.spent start w h))) c.from_residual.ensures.1
