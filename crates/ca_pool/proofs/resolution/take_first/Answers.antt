use Rattle.std.proofs.Common.{None}
use Rattle.ca_table.specs.Parts.{part_seen}
use Rattle.ca_table.proofs.Drawing.{drew_both}
use Rattle.ca_pool.specs.AtEvent.{HasLane, HasTaken}
use Rattle.ca_pool.proofs.Resolutions.{err_map, left_from, numbers_both, ok_map, took_from}
use Rattle.ca_pool.proofs.Lone.{stayed_both}
use Rattle.ca_pool.proofs.resolution.take_first.Goals as goal

pub take_more-requires-clause-carries : goal.take_more-requires-clause-carries
take_more-requires-clause-carries g c = let r = c.requires.carries in (r.0, r.1, r.2, c.in_ok-take_all.ensures.took.carries r.0 r.1 r.2 r.3)

pub returns-in-Some-clause-drew : goal.returns-in-Some-clause-drew
returns-in-Some-clause-drew g c = drew_both c.take_all.ensures.drew c.take_more.ensures.drew

pub returns-in-Some-clause-numbers : goal.returns-in-Some-clause-numbers
returns-in-Some-clause-numbers g c = numbers_both c.args.held.now c.take_all.new.held c.take_more.new.held c.take_all.ensures.numbers c.take_more.ensures.numbers

pub returns-in-Some-clause-took : goal.returns-in-Some-clause-took
returns-in-Some-clause-took g c = let a = g.A.Agent in let K = g.C.Clock in let seen = part_seen K.least K.faults K.readings in let code = c.args.code.now in let id = c.args.table.now.id in
    ok_map c.take_more.result (took_from a.over a.stands a.place seen code id
    (λ program n l. HasTaken a.over a.stands code id program n l seen None c.take_all.new.held c.take_all.new.worker) (λ program n l. HasLane a.over a.stands code id program n l c.args.worker.now) c.in_ok-take_all.ensures.took.carries
    c.take_more.new.wanted.banks c.take_more.new.wanted.shards c.take_more.new.held c.take_more.new.worker) c.take_more.ensures.took

pub returns-in-Some-clause-refused : goal.returns-in-Some-clause-refused
returns-in-Some-clause-refused g c = let a = g.A.Agent in let K = g.C.Clock in let seen = part_seen K.least K.faults K.readings in let code = c.args.code.now in let id = c.args.table.now.id in
    err_map c.take_more.result (left_from a.over a.stands a.place seen code id
    (λ program n l. HasTaken a.over a.stands code id program n l seen None c.take_all.new.held c.take_all.new.worker) (λ program n l. HasLane a.over a.stands code id program n l c.args.worker.now) c.in_ok-take_all.ensures.took.carries
    c.take_more.new.held c.take_more.new.worker) c.take_more.ensures.refused

pub returns-in-Some-clause-stayed : goal.returns-in-Some-clause-stayed
returns-in-Some-clause-stayed g c = stayed_both c.take_all.ensures.stayed c.take_more.ensures.stayed
