use Rattle.std.proofs.Common.{◌+◌, arith, subst}
use Rattle.ca_table.specs.Carriers.{IsCarrying}
use Rattle.ca_table.specs.Carrying.{Carries}
use Rattle.ca_table.specs.Parts.{part_seen}
use Rattle.ca_table.specs.Seen.{PartSeen}
use Rattle.ca_table.specs.declared.part.Part.{Part}
use Rattle.ca_pool.specs.Desk.{desk_taken}
use Rattle.ca_pool.proofs.Desk.{held_below, no_ready, with_own}
use Rattle.ca_pool.proofs.hold.take_ready.Goals as goal

pub hold_ready-requires-clause-one : goal.hold_ready-requires-clause-one
hold_ready-requires-clause-one g c = let r = c.requires.carries in (r.0, r.1, r.4.one, r.4.one.below)

pub hold_ready-requires-clause-ascending : goal.hold_ready-requires-clause-ascending
hold_ready-requires-clause-ascending g c = let a = g.A.Agent in let K = g.C.Clock in let seen = part_seen K.least K.faults K.readings in let code = c.args.code.now in let w = c.args.worker.now in let held = c.args.held.now in let r = c.requires.carries in let of = r.4.one.of in
    λ i h. let lt = held_below a.over a.stands r.0 code c.args.table.now.id r.1 w (desk_taken seen r.1 code w.number r.2 r.3 held) r.4 (w.workers + 33) (omega (arith, of)) (λ i le. r.4.sorted.few_banks i (omega (arith, le, of))) (λ i le. r.4.sorted.few_shards i (omega (arith, le, of))) (λ le. absurd (omega (arith, le, of))) (no_ready seen r.1 code w.number r.2 held r.3 c.requires.ready) i h in omega (arith, lt)

pub returns-clause-carries : goal.returns-clause-carries
returns-clause-carries g c = λ P n l clock s. let a = g.A.Agent in let K = g.C.Clock in let seen = part_seen K.least K.faults K.readings in let code = c.args.code.now in let w = c.args.worker.now in let held = c.args.held.now in
    subst (λ (h : Carries (Part g.row.A.Denot g.row.C.Denot × PartSeen g.row.A.Denot)). IsCarrying a.over a.stands P code c.args.table.now.id n c.hold_ready.new.worker h)
    (with_own seen n code w.number l clock held c.hold_ready.result c.requires.ready)
    (c.hold_ready.ensures.carries P n (desk_taken seen n code w.number l clock held) s)
