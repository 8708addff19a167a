use Rattle.std.proofs.Common.{◌∙◌, ℕ, ◌+◌, ap, arith, ne_eqb, subst}
use Rattle.ca_journal.specs.Merge.{entries}
use Rattle.ca_table.specs.Workers.{part_count}
use Rattle.ca_pool.specs.Surveys.{Fulls, IsSpread}
use Rattle.ca_pool.proofs.AllParts.{not_there, spread_all, spread_first}
use Rattle.ca_pool.proofs.Stays.{still_one}
use Rattle.ca_pool.proofs.Lefts.{left_both}
use Rattle.ca_pool.proofs.stall.hold_all.Goals as goal

pub hold_range-low-requires-clause-surveys : goal.hold_range-low-requires-clause-surveys
hold_range-low-requires-clause-surveys g c = let a = g.A.Agent in let r = c.requires.ready in let o = c.hold_one in let q = o.ensures in let h = q.holds r.0 r.1 r.2 r.3.one in let of = r.3.one.of in (
  r.0,
  r.1,
  r.2,
  still_one a.over a.stands r.0 c.args.table.now.id r.2 c.args.worker.now o.new.worker q.same (ap entries q.entries) r.1 q.turns q.left r.3.one,
  omega (arith, of),
  h.0,
  h.1,
  λ i le lt. not_there (h.0 i) (h.2 i ∙ ne_eqb (c.args.worker.now.workers + 32) i (λ e. omega (arith, e, lt))),
)

pub hold_above-high-requires-clause-parts : goal.hold_above-high-requires-clause-parts
hold_above-high-requires-clause-parts g c = let a = g.A.Agent in let r = c.requires.ready in let id = c.args.table.now.id in let w0 = c.args.worker.now in let o = c.hold_one in let q = o.ensures in let h = q.holds r.0 r.1 r.2 r.3.one in let of = r.3.one.of in
    let one1 = still_one a.over a.stands r.0 id r.2 w0 o.new.worker q.same (ap entries q.entries) r.1 q.turns q.left r.3.one in
    let l = c.hold_range-low in let m = l.ensures in let f = m.holds r.0 r.1 r.2 one1 h.0 h.1 in (
      r.0,
      r.1,
      r.2,
      still_one a.over a.stands r.0 id r.2 o.new.worker l.new.worker m.same (ap entries m.entries) r.1 m.turns m.left one1,
      ap part_count of,
      omega arith,
      f.0,
      f.1,
      spread_first l.result (w0.workers + 32) h.0 f.0 m.reached.1 h.2 f.2,
    )

pub give_spread-requires-clause-parts : goal.give_spread-requires-clause-parts
give_spread-requires-clause-parts g c = let a = g.A.Agent in let r = c.requires.ready in let id = c.args.table.now.id in let w0 = c.args.worker.now in let o = c.hold_one in let q = o.ensures in let h = q.holds r.0 r.1 r.2 r.3.one in
    let one1 = still_one a.over a.stands r.0 id r.2 w0 o.new.worker q.same (ap entries q.entries) r.1 q.turns q.left r.3.one in
    let l = c.hold_range-low in let m = l.ensures in let f = m.holds r.0 r.1 r.2 one1 h.0 h.1 in
    let one2 = still_one a.over a.stands r.0 id r.2 o.new.worker l.new.worker m.same (ap entries m.entries) r.1 m.turns m.left one1 in
    let k = c.hold_above-high.ensures.holds r.0 r.1 r.2 one2 f.0 f.1 (spread_first l.result (w0.workers + 32) h.0 f.0 m.reached.1 h.2 f.2) in
    (r.2, r.1, k.0, k.1, k.2)

pub returns-then-high-count-clause-all : goal.returns-then-high-count-clause-all
returns-then-high-count-clause-all g c = λ e P code n one. let a = g.A.Agent in let id = c.args.table.now.id in let w0 = c.args.worker.now in let o = c.hold_one in let q = o.ensures in let h = q.holds P code n one in let of = one.of in
    let one1 = still_one a.over a.stands P id n w0 o.new.worker q.same (ap entries q.entries) code q.turns q.left one in
    let l = c.hold_range-low in let m = l.ensures in let f = m.holds P code n one1 h.0 h.1 in
    let one2 = still_one a.over a.stands P id n o.new.worker l.new.worker m.same (ap entries m.entries) code m.turns m.left one1 in
    let k = c.hold_above-high.ensures.holds P code n one2 f.0 f.1 (spread_first l.result (w0.workers + 32) h.0 f.0 m.reached.1 h.2 f.2) in
    let all = subst (λ (i : ℕ). IsSpread i (w0.workers + 32) (w0.workers + 33 + w0.workers) k.0) c.if-low-timers.true (subst (λ (i : ℕ). IsSpread l.result (w0.workers + 32) i k.0) c.if-high-count.true k.2) in
    (k.0, k.1, subst (λ (i : ℕ). Fulls (part_count i) k.0) of (spread_all (w0.workers + 32) (w0.workers + 33 + w0.workers) k.0 (omega arith) all))

pub returns-then-high-count-clause-left : goal.returns-then-high-count-clause-left
returns-then-high-count-clause-left g c = let w0 = c.args.worker.now.hand.view in let o = c.hold_one in let l = c.hold_range-low in let k = c.hold_above-high in let s = o.ensures.turns in let t = l.ensures.turns in
    left_both w0 o.new.worker.hand.view k.new.worker.hand.view s.same.stands_for s.same.hands s.turns o.ensures.left
    (left_both o.new.worker.hand.view l.new.worker.hand.view k.new.worker.hand.view t.same.stands_for t.same.hands t.turns l.ensures.left k.ensures.left)

pub returns-clause-left : goal.returns-clause-left
returns-clause-left g c = let w0 = c.args.worker.now.hand.view in let o = c.hold_one in let l = c.hold_range-low in let k = c.hold_above-high in let b = c.give_spread in let s = o.ensures.turns in let t = l.ensures.turns in let u = k.ensures.turns in
    left_both w0 o.new.worker.hand.view b.new.worker.hand.view s.same.stands_for s.same.hands s.turns o.ensures.left
    (left_both o.new.worker.hand.view l.new.worker.hand.view b.new.worker.hand.view t.same.stands_for t.same.hands t.turns l.ensures.left
    (left_both l.new.worker.hand.view k.new.worker.hand.view b.new.worker.hand.view u.same.stands_for u.same.hands u.turns k.ensures.left b.ensures.left))
