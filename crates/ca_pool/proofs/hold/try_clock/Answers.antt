use Rattle.std.proofs.Common.{ℕ, ◌+◌, Some, None, ap, arith, refl, subst}
use Rattle.ca_table.specs.Carriers.{IsCarrying}
use Rattle.ca_table.specs.Carrying.{timers_place, with_at}
use Rattle.ca_table.specs.Parts.{part_away, part_of, part_seen}
use Rattle.ca_table.specs.declared.part.Contents.{Contents}
use Rattle.ca_pool.specs.Desk.{desk_taken}
use Rattle.ca_pool.proofs.hold.try_clock.Goals as goal

pub try_hold_at-requires : goal.try_hold_at-requires
try_hold_at-requires g c = let K = g.C.Clock in let seen = part_seen K.least K.faults K.readings in let code = c.args.code.now in let w = c.args.worker.now in let held = c.args.held.now in let r = c.requires.carries in let below = r.3.one.below in
    record { one = (r.0, r.1, desk_taken seen r.1 code w.number r.2 None held, timers_place, r.3, tt, ap (λ (k : ℕ). k + 32) r.3.one.of, refl, let of = r.3.one.of in omega (arith, of, below)) }

pub returns-in-None-clause-carries : goal.returns-in-None-clause-carries
returns-in-None-clause-carries g c = λ P n l s. let K = g.C.Clock in let seen = part_seen K.least K.faults K.readings in let code = c.args.code.now in let w = c.args.worker.now in let held = c.args.held.now in
    c.in-None.ensures.busy P n (desk_taken seen n code w.number l None held) s

pub returns-in-Timers-clause-carries : goal.returns-in-Timers-clause-carries
returns-in-Timers-clause-carries g c = λ P n l s. let a = g.A.Agent in let K = g.C.Clock in let seen = part_seen K.least K.faults K.readings in let code = c.args.code.now in let w = c.args.worker.now in let held = c.args.held.now in
    subst (λ (x : Contents g.row.A.Denot g.row.C.Denot). IsCarrying a.over a.stands P code c.args.table.now.id n c.try_hold_at.new.worker (with_at timers_place (Some (part_away n code, seen (part_of n code x))) (desk_taken seen n code w.number l None held))) c.in-Timers.is
    (c.in-Some.ensures.carries P n (desk_taken seen n code w.number l None held) timers_place s tt (ap (λ (k : ℕ). k + 32) s.one.of))

pub returns-in-None-clause-free : goal.returns-in-None-clause-free
returns-in-None-clause-free g c = c.in-None.ensures.lone
