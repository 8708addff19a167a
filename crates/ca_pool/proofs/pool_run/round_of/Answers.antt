use Rattle.std.proofs.Common.{◌≡◌, ◌∙◌, ◌<◌, List, All, length, sym, ap, subst, arith}
use Rattle.std.specs.Prelude.{OnOk}
use Rattle.ca_term.specs.Program.{program_view}
use Rattle.ca_states.specs.ValidCode.{valid_code}
use Rattle.ca_table.specs.Seen.{PartSeen}
use Rattle.ca_table.specs.Workers.{IsReady}
use Rattle.ca_table.specs.declared.worker.Worker.{Worker}
use Rattle.ca_pool.specs.Answers.{BeginsAlone, StopsAlone}
use Rattle.ca_pool.proofs.Rounding.{IsRound, any_ok, round_failed, round_going, round_over, round_spent, round_stays}
use Rattle.ca_pool.proofs.SoloRuns.{lent_back}
use Rattle.ca_pool.proofs.pool_run.round_of.Goals as goal

pub returns : goal.returns
returns g c = let a = g.A.Agent in let old = c.args.workers.now.items in let new = c.round.new.workers in let lent = c.as_mut_slice.ensures.value in let len : c.args.workers.now.len ≡ length old = omega (arith, c.args.workers.now.ok.0) in
    let p = program_view c.args.program.now in let code = valid_code c.args.code.now in let id = c.args.table.now.id in let most = c.args.allowance in let r = c.round.result in let e = c.round.ensures in
    let many = e.many ∙ ap (λ (l : List (Worker g.row.A.Denot g.row.C.Denot)). length l) lent in
    let back = sym (lent_back new old c.args.workers.now.len many len) in
    let came = subst (λ (l : List (Worker g.row.A.Denot g.row.C.Denot)). IsRound a.over a.stands p code id (length old) most r old l) back
    (subst (λ (s : List (Worker g.row.A.Denot g.row.C.Denot)). IsRound a.over a.stands p code id (length s) most r s new) lent (record { before = subst (λ (l : List (Worker g.row.A.Denot g.row.C.Denot)). All (IsReady a.over a.stands p code id (length l)) l) (sym lent) c.requires.ready; many = e.many; ready = e.ready; failed = e.failed; worked = e.worked; answer = e.answer })) in
    let solo = subst (λ (s : List (Worker g.row.A.Denot g.row.C.Denot)). OnOk r ((opening : List (PartSeen g.row.A.Denot)) → 0 < most → All (BeginsAlone opening) s → All (StopsAlone a.over a.place a.stands a.advances a.gives a.starts c.args.code.now most opening) new)) lent e.solo in
    record {
      many = came.many;
      ready = came.ready;
      failed = λ k. (came.failed k, round_stays a.over a.stands p code id (length old) most r old _ came, round_failed a.over a.stands p code id (length old) most r old _ came k);
      stay = any_ok r (round_stays a.over a.stands p code id (length old) most r old _ came);
      going = round_going a.over a.stands p code id (length old) most r old _ came;
      spent = round_spent a.over a.stands p code id (length old) most r old _ came;
      over = round_over a.over a.stands p code id (length old) most r old _ came;
      opening = λ o all k d lt. let had : k < length old = omega (arith, lt, came.many) in (came.worked k d had).opening ∙ all k d had;
      solo = subst (λ (l : List (Worker g.row.A.Denot g.row.C.Denot)). OnOk r ((opening : List (PartSeen g.row.A.Denot)) → 0 < most → All (BeginsAlone opening) old → All (StopsAlone a.over a.place a.stands a.advances a.gives a.starts c.args.code.now most opening) l)) back solo;
    }
