use Rattle.ca_states.specs.ValidCode.{valid_code}
use Rattle.ca_table.specs.Parts.{part_seen}
use Rattle.ca_pool.specs.Desk.{desk_taken}
use Rattle.ca_pool.proofs.Desk.{no_banks}
use Rattle.ca_pool.proofs.Placing.{placed_by}
use Rattle.ca_pool.proofs.hold.try_banks.Goals as goal

pub try_load-requires-clause-carries : goal.try_load-requires-clause-carries
try_load-requires-clause-carries g c = let K = g.C.Clock in let seen = part_seen K.least K.faults K.readings in let code = c.args.code.now in let w = c.args.worker.now in let held = c.args.held.now in let r = c.requires.carries in
    (r.0, r.1, desk_taken seen r.1 code w.number r.2 r.3 held, no_banks seen r.1 code w.number r.2 held c.requires.banks, r.4)

pub returns-clause-placed : goal.returns-clause-placed
returns-clause-placed g c = let K = g.C.Clock in placed_by g.A.Agent.over g.A.Agent.place (valid_code c.args.code.now) K.least K.faults K.readings c.args.worker.now.workers c.try_load.new.banks c.try_load.ensures.sound

pub returns-clause-carries : goal.returns-clause-carries
returns-clause-carries g c = λ P n l clock s. let K = g.C.Clock in let seen = part_seen K.least K.faults K.readings in let code = c.args.code.now in let w = c.args.worker.now in let held = c.args.held.now in
    c.try_load.ensures.carries P n (desk_taken seen n code w.number l clock held) (no_banks seen n code w.number l held c.requires.banks) s

pub returns-clause-free : goal.returns-clause-free
returns-clause-free g c = c.try_load.ensures.free
