use Rattle.std.proofs.Common.{◌∷◌, refl, subst, ◌≡◌, ℕ, Err, sym}
use Rattle.ca_alone.specs.Schedule.{MaySettle}
use Rattle.ca_pool.specs.Lone.{HasCounted}
use Rattle.ca_pool.proofs.Lone.{any_stopped, is_running}
use Rattle.ca_pool.proofs.Ranges.{workers_then}
use Rattle.ca_table.specs.Worked.{HasWorked}
use Rattle.ca_table.specs.declared.answer.PoolStop.{PoolStop}
use Rattle.ca_table.specs.declared.worker.Worker.{Worker}
use Rattle.ca_pool.specs.AtWork.{HasSpent}
use Rattle.ca_pool.proofs.AtWork.{if_err_and}
use Rattle.ca_pool.proofs.stir.settle_port.Goals as goal

pub returns-then-not-goes_on-clause-solo : goal.returns-then-not-goes_on-clause-solo
returns-then-not-goes_on-clause-solo g c = λ k us most h. let a = g.A.Agent in
    any_stopped a.over a.place a.stands a.advances a.gives a.starts g.met.A.Agent.advanced g.met.A.Agent.answered g.met.A.Agent.started c.args.code.now {P = MaySettle k (c.args.port.n ∷ us)} {Q = MaySettle k us} (c.loop.invariant.solo k us most h) (c.if-not-goes_on.ensures.stops refl)

pub returns-then-not-more-clause-solo : goal.returns-then-not-more-clause-solo
returns-then-not-more-clause-solo g c = λ k us most h. let a = g.A.Agent in let r = c.in_ok-next in let p = c.args.port.n in
    subst (λ b. HasCounted a.over a.place a.stands a.advances a.gives a.starts c.args.code.now k p us most b r.next.left r.next.found c.settle_once.new.worker) c.if-not-more.true
    (r.ensures.solo k us most (is_running a.over a.place a.stands a.advances a.gives a.starts g.met.A.Agent.advanced g.met.A.Agent.answered g.met.A.Agent.started c.args.code.now {P = MaySettle k (p ∷ us)} (c.loop.invariant.solo k us most h) (c.if-not-goes_on.ensures.goes refl) (c.if-not-goes_on.ensures.on refl)))

pub loop-preserved : goal.loop-preserved
loop-preserved g c = let a = g.A.Agent in let r = c.in_ok-next in let p = c.args.port.n in let v = c.loop.invariant in record {
  same = workers_then c.args.worker.now c.loop.worker c.settle_once.new.worker v.same c.settle_once.ensures.same;
  bare = c.settle_once.ensures.bare;
  at = r.ensures.at;
  spent = λ start w h. r.ensures.spent start w (v.spent start w h);
  solo = λ k us most h. subst (λ b. HasCounted a.over a.place a.stands a.advances a.gives a.starts c.args.code.now k p us most b r.next.left r.next.found c.settle_once.new.worker) c.if-not-more.false
      (r.ensures.solo k us most (is_running a.over a.place a.stands a.advances a.gives a.starts g.met.A.Agent.advanced g.met.A.Agent.answered g.met.A.Agent.started c.args.code.now {P = MaySettle k (p ∷ us)} (v.solo k us most h) (c.if-not-goes_on.ensures.goes refl) (c.if-not-goes_on.ensures.on refl)));
}

pub returns-in_err-next-clause-stopped : goal.returns-in_err-next-clause-stopped
returns-in_err-next-clause-stopped g c = if_err_and c.from_residual.result (λ s is. let e : s ≡ c.in_err-next.field-0.0 = (let q = is in cc) in
    subst (λ (s : PoolStop). (start : ℕ) (w : Worker g.row.A.Denot g.row.C.Denot) → HasSpent start c.args.going.left c.args.going.found w c.args.worker.now → HasWorked start (Err s) w c.settle_once.new.worker) (sym e)
    (λ start w h. c.in_err-next.ensures.stopped start w (c.loop.invariant.spent start w h))) c.from_residual.ensures.1
