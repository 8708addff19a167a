use Rattle.std.proofs.Common.{None}
use Rattle.ca_table.specs.Parts.{part_seen}
use Rattle.ca_table.proofs.Drawing.{drew_both}
use Rattle.ca_pool.specs.AtEvent.{HasLane, HasTaken}
use Rattle.ca_pool.proofs.Resolutions.{err_map, left_from, numbers_both, ok_map, took_from}
use Rattle.ca_pool.proofs.Lone.{stayed_both}
use Rattle.ca_pool.proofs.resolution.prune_first.Goals as goal

pub take_all-requires-clause-carries : goal.take_all-requires-clause-carries
take_all-requires-clause-carries g c = let r = c.requires.carries in (r.0, r.1, r.2, c.prune.ensures.carries r.0 r.1 r.2 r.3)

pub returns-clause-drew : goal.returns-clause-drew
returns-clause-drew g c = drew_both c.prune.ensures.drew c.take_all.ensures.drew

pub returns-clause-numbers : goal.returns-clause-numbers
returns-clause-numbers g c = numbers_both c.args.held.now c.prune.new.held c.take_all.new.held c.prune.ensures.numbers c.take_all.ensures.numbers

pub returns-clause-took : goal.returns-clause-took
returns-clause-took g c = let a = g.A.Agent in let K = g.C.Clock in let seen = part_seen K.least K.faults K.readings in let code = c.args.code.now in let id = c.args.table.now.id in
    ok_map c.take_all.result (took_from a.over a.stands a.place seen code id
    (λ program n l. HasLane a.over a.stands code id program n l c.prune.new.worker) (λ program n l. HasTaken a.over a.stands code id program n l seen None c.args.held.now c.args.worker.now) c.prune.ensures.carries
    c.args.wanted.now.banks c.args.wanted.now.shards c.take_all.new.held c.take_all.new.worker) c.take_all.ensures.took

pub returns-clause-refused : goal.returns-clause-refused
returns-clause-refused g c = let a = g.A.Agent in let K = g.C.Clock in let seen = part_seen K.least K.faults K.readings in let code = c.args.code.now in let id = c.args.table.now.id in
    err_map c.take_all.result (left_from a.over a.stands a.place seen code id
    (λ program n l. HasLane a.over a.stands code id program n l c.prune.new.worker) (λ program n l. HasTaken a.over a.stands code id program n l seen None c.args.held.now c.args.worker.now) c.prune.ensures.carries
    c.take_all.new.held c.take_all.new.worker) c.take_all.ensures.refused

pub returns-clause-stayed : goal.returns-clause-stayed
returns-clause-stayed g c = stayed_both c.prune.ensures.stayed c.take_all.ensures.stayed
