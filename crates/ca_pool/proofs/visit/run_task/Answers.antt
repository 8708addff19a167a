use Rattle.std.specs.Prelude.{[]}
use Rattle.ca_alone.specs.Schedule.{MaySettle, to_turn}
use Rattle.ca_pool.proofs.Lone.{is_running}
use Rattle.ca_pool.proofs.Resolutions.{same_both}
use Rattle.std.proofs.Common.{◌≡◌, ℕ, Err, subst, sym}
use Rattle.ca_table.specs.Worked.{HasWorked}
use Rattle.ca_table.specs.declared.answer.PoolStop.{PoolStop}
use Rattle.ca_table.specs.declared.worker.Worker.{Worker}
use Rattle.ca_pool.specs.AtWork.{HasSpent}
use Rattle.ca_pool.proofs.AtWork.{if_err_and}
use Rattle.ca_pool.proofs.visit.run_task.Goals as goal

pub loop-preserved : goal.loop-preserved
loop-preserved g c = let a = g.A.Agent in let m = g.met.A.Agent in let i = c.loop.invariant in let t = c.has_turn.ensures in let e = c.in_ok-going.ensures in record {
  same = same_both c.args.worker.now c.loop.worker c.make_event.new.worker i.same e.same;
  bare = e.bare;
  at = e.at;
  spent = λ start w h. e.spent start w (i.spent start w h);
  solo = λ most go. e.solo most (t.few c.if-not-has_turn.false) (is_running a.over a.place a.stands a.advances a.gives a.starts m.advanced m.answered m.started c.args.code.now {P = MaySettle to_turn []} (i.solo most go) (t.some c.if-not-has_turn.false) (t.on c.if-not-has_turn.false));
}

pub returns-in_err-going-clause-stopped : goal.returns-in_err-going-clause-stopped
returns-in_err-going-clause-stopped g c = if_err_and c.from_residual.result (λ s is. let e : s ≡ c.in_err-going.field-0.0 = (let q = is in cc) in
    subst (λ (s : PoolStop). (start : ℕ) (w : Worker g.row.A.Denot g.row.C.Denot) → HasSpent start c.args.going.left c.args.going.found w c.args.worker.now → HasWorked start (Err s) w c.make_event.new.worker) (sym e)
    (λ start w h. c.in_err-going.ensures.stopped start w (c.loop.invariant.spent start w h))) c.from_residual.ensures.1
