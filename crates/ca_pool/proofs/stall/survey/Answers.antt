use Rattle.std.proofs.Common.{ℕ, ap, arith, subst}
use Rattle.ca_journal.specs.Merge.{entries}
use Rattle.ca_states.specs.ValidCode.{valid_code}
use Rattle.ca_table.specs.Parts.{part_seen}
use Rattle.ca_table.specs.Workers.{part_count}
use Rattle.ca_pool.specs.Surveys.{Drops}
use Rattle.ca_pool.proofs.AllParts.{full_none, nothing_surveyed}
use Rattle.ca_pool.proofs.Stays.{still_one}
use Rattle.ca_pool.proofs.Lone.{stayed_both, stayed_same}
use Rattle.ca_pool.proofs.stall.survey.Goals as goal

pub returns-then-not-hold_all-clause-ready : goal.returns-then-not-hold_all-clause-ready
returns-then-not-hold_all-clause-ready g c = λ P n r. let a = g.A.Agent in let t = c.hold_all in let q = t.ensures in
    record { one = still_one a.over a.stands P c.args.table.now.id n c.args.worker.now t.new.worker q.same (ap entries q.entries) (valid_code c.args.code.now) q.turns q.left r.one; nothing = q.none c.if-not-hold_all.true }

pub conclude-found-requires : goal.conclude-found-requires
conclude-found-requires g c = let a = g.A.Agent in let r = c.requires.ready in let t = c.hold_all in let q = t.ensures in let code = valid_code c.args.code.now in let f = q.all c.if-not-hold_all.false r.0 code r.1 r.2.one in
    record { all = (r.0, r.1, still_one a.over a.stands r.0 c.args.table.now.id r.1 c.args.worker.now t.new.worker q.same (ap entries q.entries) code q.turns q.left r.2.one, f.0, f.1, f.2) }

pub give_range-requires-clause-settled : goal.give_range-requires-clause-settled
give_range-requires-clause-settled g c = let a = g.A.Agent in let r = c.requires.ready in let t = c.hold_all in let q = t.ensures in let code = valid_code c.args.code.now in let f = q.all c.if-not-hold_all.false r.0 code r.1 r.2.one in
    let one1 = still_one a.over a.stands r.0 c.args.table.now.id r.1 c.args.worker.now t.new.worker q.same (ap entries q.entries) code q.turns q.left r.2.one in
    let k = c.conclude-found.ensures.holds r.0 r.1 one1 f.0 f.1 f.2 in let of = k.0.of in
    (r.1, code, f.0, k.1, λ i le lt. f.2.there i (omega (arith, lt, of)))

pub returns-clause-ready : goal.returns-clause-ready
returns-clause-ready g c = λ P n r. let a = g.A.Agent in let K = g.C.Clock in let id = c.args.table.now.id in let t = c.hold_all in let q = t.ensures in let code = valid_code c.args.code.now in let f = q.all c.if-not-hold_all.false P code n r.one in
    let one1 = still_one a.over a.stands P id n c.args.worker.now t.new.worker q.same (ap entries q.entries) code q.turns q.left r.one in
    let k = c.conclude-found.ensures.holds P n one1 f.0 f.1 f.2 in let v = c.give_range in let u = v.ensures in let d = u.gives n code f.0 k.1 in
    record {
      one = still_one a.over a.stands P id n c.conclude-found.new.worker v.new.worker u.same (ap entries u.entries) code u.turns u.left k.0;
      nothing = nothing_surveyed (part_seen K.least K.faults K.readings) n code v.new.worker.hand d.0 d.1 (full_none (part_count n) f.0 d.0 f.2 (subst (λ (i : ℕ). Drops 0 (part_count i) f.0 d.0) k.0.of d.2));
    }

pub returns-then-not-hold_all-clause-stayed : goal.returns-then-not-hold_all-clause-stayed
returns-then-not-hold_all-clause-stayed g c = stayed_same c.hold_all.ensures.same c.hold_all.ensures.turns

pub returns-clause-stayed : goal.returns-clause-stayed
returns-clause-stayed g c = let t = c.hold_all.ensures in let v = c.give_range.ensures in stayed_both (stayed_both (stayed_same t.same t.turns) c.conclude-found.ensures.stayed) (stayed_same v.same v.turns)
