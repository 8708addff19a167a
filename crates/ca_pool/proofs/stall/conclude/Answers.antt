use Rattle.std.proofs.Common.{◌+◌, arith}
use Rattle.ca_states.specs.ValidCode.{valid_code}
use Rattle.ca_table.specs.Parts.{part_seen}
use Rattle.ca_pool.proofs.AllParts.{lies_at, there_is}
use Rattle.ca_pool.proofs.LoneClocks.{stayed_none}
use Rattle.ca_pool.proofs.stall.conclude.Goals as goal

pub look_over-requires : goal.look_over-requires
look_over-requires g c = λ i lt. let K = g.C.Clock in let r = c.requires.all in let h = c.args.worker.now.hand in let of = r.2.of in let x = there_is (r.3 i) (r.5.there i (omega (arith, lt, of))) in
    (x.0, (lies_at (part_seen K.least K.faults K.readings) r.1 (valid_code c.args.code.now) h h r.3 r.4 i x.0 x.1).0)

pub first_open-requires : goal.first_open-requires
first_open-requires g c = let K = g.C.Clock in let r = c.requires.all in let w = c.args.worker.now in let of = r.2.of in let x = there_is (r.3 (w.workers + 32)) (r.5.there (w.workers + 32) (omega (arith, of))) in
    (x.0, (lies_at (part_seen K.least K.faults K.readings) r.1 (valid_code c.args.code.now) w.hand w.hand r.3 r.4 (w.workers + 32) x.0 x.1).0)

pub returns-in-Runs-clause-stayed : goal.returns-in-Runs-clause-stayed
returns-in-Runs-clause-stayed g c = stayed_none c.args.worker.now

pub returns-in-Stirs-clause-stayed : goal.returns-in-Stirs-clause-stayed
returns-in-Stirs-clause-stayed g c = stayed_none c.args.worker.now

pub returns-in-Some-clause-stayed : goal.returns-in-Some-clause-stayed
returns-in-Some-clause-stayed g c = stayed_none c.args.worker.now
