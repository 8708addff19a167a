use Rattle.std.proofs.Common.{None, arith, refl}
use Rattle.ca_states.specs.ValidCode.{valid_code}
use Rattle.ca_table.specs.Parts.{part_seen}
use Rattle.ca_pool.specs.Desk.{desk_taken}
use Rattle.ca_pool.proofs.Desk.{held_below, no_banks, no_ready, no_shards}
use Rattle.ca_pool.proofs.Placing.{placed_by}
use Rattle.ca_pool.proofs.hold.take_banks.Goals as goal

pub load-requires-clause-carries : goal.load-requires-clause-carries
load-requires-clause-carries g c = let K = g.C.Clock in let seen = part_seen K.least K.faults K.readings in let code = c.args.code.now in let w = c.args.worker.now in let held = c.args.held.now in let r = c.requires.carries in
    (r.0, r.1, desk_taken seen r.1 code w.number r.2 None held, r.3, no_banks seen r.1 code w.number r.2 held c.requires.bare.banks)

pub load-requires-clause-ascending : goal.load-requires-clause-ascending
load-requires-clause-ascending g c = let a = g.A.Agent in let K = g.C.Clock in let seen = part_seen K.least K.faults K.readings in let code = c.args.code.now in let w = c.args.worker.now in let held = c.args.held.now in let r = c.requires.carries in let b = c.requires.bare in let of = r.3.one.of in
    held_below a.over a.stands r.0 code c.args.table.now.id r.1 w (desk_taken seen r.1 code w.number r.2 None held) r.3 w.workers (omega (arith, of)) (λ i le. no_banks seen r.1 code w.number r.2 held b.banks i) (λ i le. no_shards seen r.1 code w.number r.2 held b.shards i) (λ le. refl) (no_ready seen r.1 code w.number r.2 held None b.ready)

pub returns-clause-placed : goal.returns-clause-placed
returns-clause-placed g c = let K = g.C.Clock in placed_by g.A.Agent.over g.A.Agent.place (valid_code c.args.code.now) K.least K.faults K.readings c.args.worker.now.workers c.load.new.list c.load.ensures.sound

pub returns-clause-carries : goal.returns-clause-carries
returns-clause-carries g c = λ P n l s. let K = g.C.Clock in let seen = part_seen K.least K.faults K.readings in let code = c.args.code.now in let w = c.args.worker.now in let held = c.args.held.now in
    c.load.ensures.carries P n (desk_taken seen n code w.number l None held) (no_banks seen n code w.number l held c.requires.bare.banks) s
