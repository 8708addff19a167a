use Rattle.std.proofs.Common.{◌∙◌, ap, arith, inr, is_some}
use Rattle.ca_table.specs.Parts.{part_seen}
use Rattle.ca_pool.proofs.AllParts.{nothing_surveyed, spread_none}
use Rattle.ca_pool.proofs.Lefts.{left_both}
use Rattle.ca_pool.proofs.stall.give_spread.Goals as goal

pub give_range-requires-2-clause-settled : goal.give_range-requires-2-clause-settled
give_range-requires-2-clause-settled g c = let r = c.requires.parts in let o = c.requires.order.0 in let f = c.give_range.ensures.gives r.0 r.1 r.2 r.3 in
    (r.0, r.1, f.0, f.1, λ i le lt. ap is_some (f.2.others i (inr (omega (arith, o, le)))) ∙ r.4.above i le lt)

pub returns-clause-nothing : goal.returns-clause-nothing
returns-clause-nothing g c = let K = g.C.Clock in let r = c.requires.parts in let f = c.give_range.ensures.gives r.0 r.1 r.2 r.3 in let e = c.give_range-2.ensures.gives r.0 r.1 f.0 f.1 in
    nothing_surveyed (part_seen K.least K.faults K.readings) r.0 r.1 c.give_range-2.new.worker.hand e.0 e.1 (spread_none c.args.low c.args.timers c.args.high r.2 f.0 e.0 c.requires.order.0 r.4 f.2 e.2)

pub returns-clause-left : goal.returns-clause-left
returns-clause-left g c = let b = c.give_range in let s = b.ensures.turns in left_both c.args.worker.now.hand.view b.new.worker.hand.view c.give_range-2.new.worker.hand.view s.same.stands_for s.same.hands s.turns b.ensures.left c.give_range-2.ensures.left
