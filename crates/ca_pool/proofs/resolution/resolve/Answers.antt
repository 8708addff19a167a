use Rattle.std.proofs.Common.{◌≡◌, None, subst, sym, true}
use Rattle.ca_table.specs.Homes.{has_home}
use Rattle.ca_table.specs.Parts.{part_seen}
use Rattle.ca_table.specs.declared.homes.Homes.{Homes}
use Rattle.ca_table.proofs.Drawing.{drew_both}
use Rattle.ca_pool.specs.AtEvent.{HasLane, HasTaken}
use Rattle.ca_pool.proofs.Resolutions.{err_any, left_from, numbers_both, took_from, wants_more}
use Rattle.ca_pool.proofs.Lone.{stayed_both}
use Rattle.ca_pool.proofs.resolution.resolve.Goals as goal

pub tries-init : goal.tries-init
tries-init g c = let t = c.take_first in record {
  drew = t.ensures.drew;
  stayed = t.ensures.stayed;
  numbers = t.ensures.numbers;
  wants = wants_more g.A.Agent.place c.wanted_by-wanted.result.banks t.new.wanted.banks c.args.held.now.new_port t.new.held.new_port c.args.task.now (λ i e. subst (λ (h : Homes). has_home h i ≡ true) (sym t.ensures.banks) e) t.ensures.numbers.port c.wanted_by-wanted.ensures;
  took = c.in_ok-take_first.ensures.took;
}

pub try_once-requires-clause-carries : goal.try_once-requires-clause-carries
try_once-requires-clause-carries g c = let r = c.requires.carries in (r.0, r.1, r.2, c.tries.invariant.took.carries r.0 r.1 r.2 r.3)

pub returns-in_err-plan-clause-drew : goal.returns-in_err-plan-clause-drew
returns-in_err-plan-clause-drew g c = drew_both c.tries.invariant.drew c.try_once.ensures.drew

pub returns-in_err-plan-clause-refused : goal.returns-in_err-plan-clause-refused
returns-in_err-plan-clause-refused g c = let a = g.A.Agent in let K = g.C.Clock in let code = c.args.code.now in let id = c.args.table.now.id in
    err_any c.from_residual-in_err-plan.result (left_from a.over a.stands a.place (part_seen K.least K.faults K.readings) code id
    (λ program n l. HasTaken a.over a.stands code id program n l (part_seen K.least K.faults K.readings) None c.tries.held c.tries.worker) (λ program n l. HasLane a.over a.stands code id program n l c.args.worker.now) c.tries.invariant.took.carries
    c.try_once.new.held c.try_once.new.worker c.in_err-plan.ensures.refused)

pub returns-in-Some-2-clause-drew : goal.returns-in-Some-2-clause-drew
returns-in-Some-2-clause-drew g c = drew_both c.tries.invariant.drew c.try_once.ensures.drew

pub returns-in-Some-2-clause-carries : goal.returns-in-Some-2-clause-carries
returns-in-Some-2-clause-carries g c = λ program n l lane. c.in_ok-plan.ensures.took.carries program n l (c.tries.invariant.took.carries program n l lane)

pub tries-preserved : goal.tries-preserved
tries-preserved g c = let a = g.A.Agent in let K = g.C.Clock in let code = c.args.code.now in let id = c.args.table.now.id in let t = c.try_once in record {
  drew = drew_both c.tries.invariant.drew t.ensures.drew;
  stayed = stayed_both c.tries.invariant.stayed t.ensures.stayed;
  numbers = numbers_both c.args.held.now c.tries.held t.new.held c.tries.invariant.numbers t.ensures.numbers;
  wants = t.ensures.wants;
  took = took_from a.over a.stands a.place (part_seen K.least K.faults K.readings) code id
      (λ program n l. HasTaken a.over a.stands code id program n l (part_seen K.least K.faults K.readings) None c.tries.held c.tries.worker) (λ program n l. HasLane a.over a.stands code id program n l c.args.worker.now) c.tries.invariant.took.carries
      t.new.wanted.banks t.new.wanted.shards t.new.held t.new.worker c.in_ok-plan.ensures.took;
}

pub returns-in_err-plan-clause-stayed : goal.returns-in_err-plan-clause-stayed
returns-in_err-plan-clause-stayed g c = stayed_both c.tries.invariant.stayed c.try_once.ensures.stayed

pub returns-in-Some-2-clause-stayed : goal.returns-in-Some-2-clause-stayed
returns-in-Some-2-clause-stayed g c = stayed_both c.tries.invariant.stayed c.try_once.ensures.stayed
