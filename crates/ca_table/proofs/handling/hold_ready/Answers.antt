use Rattle.std.proofs.Common.{ℕ, ◌+◌, Some, ap, subst}
use Rattle.ca_commit.specs.Tasks.{tasks_in}
use Rattle.ca_table.specs.Carriers.{IsCarrying}
use Rattle.ca_table.specs.Carrying.{ready_place, with_at}
use Rattle.ca_table.specs.Parts.{part_away, contents_seen, part_of, part_seen}
use Rattle.ca_table.specs.Seen.{held_of}
use Rattle.ca_table.specs.declared.part.Contents.{Contents}
use Rattle.ca_table.proofs.handling.hold_ready.Goals as goal

pub returns-clause-carries : goal.returns-clause-carries
returns-clause-carries g c = λ program n h s. let K = g.C.Clock in
    subst (λ (x : Contents g.row.A.Denot g.row.C.Denot). IsCarrying g.A.Agent.over g.A.Agent.stands program c.args.code.now c.args.table.now.id n c.hold_at.new.worker (with_at (ready_place c.args.at) (Some (part_away n c.args.code.now, part_seen K.least K.faults K.readings (part_of n c.args.code.now x))) h)) c.in-Ready.is
    (c.hold_at.ensures.carries program n h (ready_place c.args.at) s tt (ap (λ (k : ℕ). k + 33 + c.args.at) s.one.of))

pub returns-clause-over : goal.returns-clause-over
returns-clause-over g c = let K = g.C.Clock in c.hold_at.ensures.sound.ready (tasks_in c.in-Ready.ready) (ap (λ (x : Contents g.row.A.Denot g.row.C.Denot). held_of (contents_seen K.least K.faults K.readings x)) c.in-Ready.is)
