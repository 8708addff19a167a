use Rattle.std.proofs.Common.{◌∙◌, length, map, sym, ap}
use Rattle.std.proofs.lemmas.List.{length-map}
use Rattle.ca_commit.specs.Opening.{unasked}
use Rattle.ca_term.specs.Program.{program_view}
use Rattle.ca_states.specs.ValidCode.{valid_code}
use Rattle.ca_table.specs.Parts.{part_seen}
use Rattle.ca_table.proofs.Enlisting.{all_ready, for_one, long_list, one_each}
use Rattle.ca_table.proofs.opening.open_pool.Goals as goal

pub returns-clause-ready : goal.returns-clause-ready
returns-clause-ready g c = let K = g.C.Clock in let seen = part_seen K.least K.faults K.readings in let clock = c.args.clock in let n = c.args.workers in let texts = c.args.program.now in let parts = c.in_ok-parts.parts.items in let id = c.in-Ok.table.id in let m = c.requires.main in
    let slots = c.in-Ok.ensures.parts ∙ sym (length-map parts seen) ∙ ap length c.in_ok-parts.ensures ∙ long_list (valid_code c.args.code.now) texts n c.args.main (unasked (K.least clock) (K.faults clock) (K.readings clock)) c.requires.workers.0 in
    all_ready g.A.Agent.over g.A.Agent.stands texts (valid_code c.args.code.now) n id (map seen parts) c.args.main m.0 (K.least clock) (K.faults clock) (K.readings clock) m.1 m.2 c.requires.over c.in_ok-parts.ensures c.requires.workers.0 c.requires.workers.1 slots c.in_ok-enlist.field-0.items (c.in_ok-enlist.ensures.new id (map seen parts) n c.in-Ok.ensures.fresh)

pub returns-clause-all : goal.returns-clause-all
returns-clause-all g c = let K = g.C.Clock in let seen = part_seen K.least K.faults K.readings in let n = c.args.workers in let parts = c.in_ok-parts.parts.items in let id = c.in-Ok.table.id in
    one_each (program_view c.args.program.now) (valid_code c.args.code.now) n id (map seen parts) n c.in_ok-enlist.field-0.items (c.in_ok-enlist.ensures.new id (map seen parts) n c.in-Ok.ensures.fresh) ∙ c.in_ok-enlist.ensures.many

pub returns-clause-each : goal.returns-clause-each
returns-clause-each g c = let K = g.C.Clock in let seen = part_seen K.least K.faults K.readings in let n = c.args.workers in let parts = c.in_ok-parts.parts.items in let id = c.in-Ok.table.id in
    for_one (program_view c.args.program.now) (valid_code c.args.code.now) n id (map seen parts) n c.in_ok-enlist.field-0.items (c.in_ok-enlist.ensures.new id (map seen parts) n c.in-Ok.ensures.fresh)

pub returns-clause-opening : goal.returns-clause-opening
returns-clause-opening g c = let K = g.C.Clock in let seen = part_seen K.least K.faults K.readings in let n = c.args.workers in let parts = c.in_ok-parts.parts.items in let id = c.in-Ok.table.id in
    λ k d lt. (c.in_ok-enlist.ensures.new id (map seen parts) n c.in-Ok.ensures.fresh k d lt).fresh.opening ∙ c.in_ok-parts.ensures

pub returns-clause-idle : goal.returns-clause-idle
returns-clause-idle g c = let K = g.C.Clock in let seen = part_seen K.least K.faults K.readings in let n = c.args.workers in let parts = c.in_ok-parts.parts.items in let id = c.in-Ok.table.id in
    λ k d lt. (c.in_ok-enlist.ensures.new id (map seen parts) n c.in-Ok.ensures.fresh k d lt).fresh.turns
