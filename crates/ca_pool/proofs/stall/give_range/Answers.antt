use Rattle.std.proofs.Common.{◌∙◌, ap, arith, inr, ◌≡◌, ℕ, is_some, subst}
use Rattle.ca_table.specs.Parts.{part_seen}
use Rattle.ca_pool.specs.Surveys.{Drops}
use Rattle.ca_pool.proofs.Ranges.{none_given, one_given}
use Rattle.ca_pool.proofs.stall.give_range.Goals as goal

pub loop-at-init : goal.loop-at-init
loop-at-init g c = let K = g.C.Clock in none_given (part_seen K.least K.faults K.readings) c.args.first c.args.worker.now

pub give_one-requires-clause-table : goal.give_one-requires-clause-table
give_one-requires-clause-table g c = c.loop-at.invariant.did.turns.same.table ∙ c.requires.table

pub give_one-requires-clause-settled : goal.give_one-requires-clause-settled
give_one-requires-clause-settled g c = let r = c.requires.settled in let v = c.loop-at.invariant in let f = v.gives r.0 r.1 r.2 r.3 in let at = c.loop-at.at in
    (r.0, r.1, f.0, f.1, ap is_some (f.2.others at (inr (omega arith))) ∙ r.4 at v.order (omega (arith, c.loop-at-test.true)))

pub loop-at-preserved : goal.loop-at-preserved
loop-at-preserved g c = let K = g.C.Clock in let v = c.loop-at.invariant in let t = c.give_one in
    one_given (part_seen K.least K.faults K.readings) c.args.first c.args.worker.now c.loop-at.worker t.new.worker c.loop-at.at v t.ensures.same t.ensures.turns t.ensures.entries t.ensures.left t.ensures.gives

pub returns-clause-gives : goal.returns-clause-gives
returns-clause-gives g c = λ n code f s. let K = g.C.Clock in let h = c.loop-at.invariant.gives n code f s in let o = c.requires.order in let e : c.loop-at.at ≡ c.args.end = omega (arith, o, c.loop-at-test.false, c.loop-at.auto.at-end) in
    (h.0, h.1, subst (λ (k : ℕ). Drops c.args.first k f h.0) e h.2)

pub returns-clause-left : goal.returns-clause-left
returns-clause-left g c = c.loop-at.invariant.did.left
