use Rattle.std.proofs.Common.{ℕ, ◌+◌, Some, None, arith, refl, subst, ap}
use Rattle.ca_table.specs.Carriers.{IsCarrying}
use Rattle.ca_table.specs.Carrying.{timers_place, with_at}
use Rattle.ca_table.specs.Parts.{part_away, clockwork_seen, contents_seen, part_of, part_seen}
use Rattle.ca_table.specs.Seen.{held_of}
use Rattle.ca_table.specs.declared.part.Contents.{Contents}
use Rattle.ca_pool.specs.Desk.{desk_taken}
use Rattle.ca_pool.proofs.Desk.{held_below, no_ready}
use Rattle.ca_pool.proofs.hold.take_clock.Goals as goal

pub hold_at-requires-clause-one : goal.hold_at-requires-clause-one
hold_at-requires-clause-one g c = let r = c.requires.carries in let of = r.3.one.of in let below = r.3.one.below in (r.0, r.1, r.3.one, omega (arith, of, below))

pub hold_at-requires-clause-ascending : goal.hold_at-requires-clause-ascending
hold_at-requires-clause-ascending g c = let a = g.A.Agent in let K = g.C.Clock in let seen = part_seen K.least K.faults K.readings in let code = c.args.code.now in let w = c.args.worker.now in let held = c.args.held.now in let r = c.requires.carries in let of = r.3.one.of in
    held_below a.over a.stands r.0 code c.args.table.now.id r.1 w (desk_taken seen r.1 code w.number r.2 None held) r.3 (w.workers + 32) (omega (arith, of)) (λ i le. r.3.sorted.few_banks i (omega (arith, le, of))) (λ i le. r.3.sorted.few_shards i (omega (arith, le, of))) (λ le. refl) (no_ready seen r.1 code w.number r.2 held None c.requires.ready)

pub returns-clause-timely : goal.returns-clause-timely
returns-clause-timely g c = let K = g.C.Clock in c.hold_at.ensures.sound.timely (clockwork_seen K.least K.faults K.readings c.in-Timers.clockwork.value) (ap (λ (x : Contents g.row.A.Denot g.row.C.Denot). held_of (contents_seen K.least K.faults K.readings x)) c.in-Timers.is)

pub returns-clause-carries : goal.returns-clause-carries
returns-clause-carries g c = λ P n l s. let a = g.A.Agent in let K = g.C.Clock in let seen = part_seen K.least K.faults K.readings in let code = c.args.code.now in let w = c.args.worker.now in let held = c.args.held.now in
    subst (λ (x : Contents g.row.A.Denot g.row.C.Denot). IsCarrying a.over a.stands P code c.args.table.now.id n c.hold_at.new.worker (with_at timers_place (Some (part_away n code, seen (part_of n code x))) (desk_taken seen n code w.number l None held))) c.in-Timers.is
    (c.hold_at.ensures.carries P n (desk_taken seen n code w.number l None held) timers_place s tt (ap (λ (k : ℕ). k + 32) s.one.of))
