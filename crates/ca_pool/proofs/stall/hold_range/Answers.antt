use Rattle.std.proofs.Common.{◌≡◌, ◌∙◌, ℕ, ap, arith, inr, subst}
use Rattle.ca_journal.specs.Merge.{entries}
use Rattle.ca_table.specs.Parts.{part_seen}
use Rattle.ca_pool.specs.Surveys.{Fills}
use Rattle.ca_pool.proofs.AllParts.{free_at}
use Rattle.ca_pool.proofs.Ranges.{none_held, one_held}
use Rattle.ca_pool.proofs.Stays.{still_one}
use Rattle.ca_pool.proofs.Lefts.{left_both}
use Rattle.ca_pool.proofs.stall.hold_range.Goals as goal

pub loop-at-init : goal.loop-at-init
loop-at-init g c = let a = g.A.Agent in let K = g.C.Clock in none_held a.over a.stands c.args.table.now.id (part_seen K.least K.faults K.readings) c.args.first c.args.worker.now

pub try_one-requires-clause-one : goal.try_one-requires-clause-one
try_one-requires-clause-one g c = let a = g.A.Agent in let r = c.requires.surveys in let v = c.loop-at.invariant.did in let lt = c.loop-at-test.true in let le = r.4 in
    (r.0, r.1, r.2, still_one a.over a.stands r.0 c.args.table.now.id r.2 c.args.worker.now c.loop-at.worker v.same (ap entries v.entries) r.1 v.turns v.left r.3, omega (arith, lt, le))

pub try_one-requires-clause-free : goal.try_one-requires-clause-free
try_one-requires-clause-free g c = let K = g.C.Clock in let r = c.requires.surveys in let v = c.loop-at.invariant in let at = c.loop-at.at in let h = c.loop-at.worker.hand in let f = v.holds r.0 r.1 r.2 r.3 r.5 r.6 in
    free_at (part_seen K.least K.faults K.readings) r.2 r.1 h h f.0 f.1 at (f.2.others at (inr (omega arith)) ∙ r.7 at v.order (omega (arith, c.loop-at-test.true)))

pub loop-at-preserved : goal.loop-at-preserved
loop-at-preserved g c = let a = g.A.Agent in let K = g.C.Clock in let v = c.loop-at.invariant in let t = c.try_one in let w0 = c.args.worker.now in let id = c.args.table.now.id in
    one_held a.over a.stands id (part_seen K.least K.faults K.readings) c.args.first w0 c.loop-at.worker t.new.worker c.loop-at.at v t.ensures.same t.ensures.turns t.ensures.entries t.ensures.left
    (λ P code n one f s. t.ensures.holds c.if-not-try_one.false P code n (still_one a.over a.stands P id n w0 c.loop-at.worker v.did.same (ap entries v.did.entries) code v.did.turns v.did.left one) f s)

pub returns-then-not-try_one-clause-holds : goal.returns-then-not-try_one-clause-holds
returns-then-not-try_one-clause-holds g c = λ P code n one f s. let h = c.loop-at.invariant.holds P code n one f s in (h.0, c.try_one.ensures.missed c.if-not-try_one.true n code h.0 h.1, h.2)

pub returns-clause-holds : goal.returns-clause-holds
returns-clause-holds g c = λ P code n one f s. let h = c.loop-at.invariant.holds P code n one f s in let o = c.requires.order in let e : c.loop-at.at ≡ c.args.end = omega (arith, o, c.loop-at-test.false, c.loop-at.auto.at-end) in
    (h.0, h.1, subst (λ (k : ℕ). Fills c.args.first k f h.0) e h.2)

pub returns-then-not-try_one-clause-left : goal.returns-then-not-try_one-clause-left
returns-then-not-try_one-clause-left g c = let d = c.loop-at.invariant.did in let t = c.try_one in
    left_both c.args.worker.now.hand.view c.loop-at.worker.hand.view t.new.worker.hand.view d.turns.same.stands_for d.turns.same.hands d.turns.turns d.left t.ensures.left

pub returns-clause-left : goal.returns-clause-left
returns-clause-left g c = c.loop-at.invariant.did.left
