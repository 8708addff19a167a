use Rattle.std.proofs.Common.{◌∙◌, Option, ap, subst, Bool}
use Rattle.ca_table.specs.Carriers.{IsCarrying}
use Rattle.ca_table.specs.Carrying.{Carries, with_at}
use Rattle.ca_table.specs.Lifting.{SettledIf}
use Rattle.ca_table.specs.Parts.{part_seen}
use Rattle.ca_table.specs.Seen.{PartSeen}
use Rattle.ca_table.specs.declared.part.Part.{Part}
use Rattle.ca_table.proofs.Carried.{with_none}
use Rattle.ca_pool.proofs.release.give_if.Goals as goal

pub give_at-requires : goal.give_at-requires
give_at-requires g c = let a = g.A.Agent in let K = g.C.Clock in let seen = part_seen K.least K.faults K.readings in let r = c.requires.settled in
    let x = subst (λ (b : Bool). SettledIf seen b r.5) c.if-there.true r.6 in
    record { settled = (r.0, r.1, r.2, r.3, r.4, x.0, subst (λ (o : Option (Part g.row.A.Denot g.row.C.Denot × PartSeen g.row.A.Denot)). IsCarrying a.over a.stands r.0 r.1 c.args.table.now.id r.2 c.args.worker.now (with_at r.4 o r.3)) x.1 r.7, r.8, r.9) }

pub returns-then-there-clause-carries : goal.returns-then-there-clause-carries
returns-then-there-clause-carries g c = λ P code n h z o settled none s is e. c.give_at.ensures.carries P code n h z o none s is e

pub returns-else-there-clause-carries : goal.returns-else-there-clause-carries
returns-else-there-clause-carries g c = λ P code n h z o settled none s is e. let a = g.A.Agent in let K = g.C.Clock in let seen = part_seen K.least K.faults K.readings in
    let gone = subst (λ (b : Bool). SettledIf seen b o) c.if-there.false settled in
    subst (λ (k : Carries (Part g.row.A.Denot g.row.C.Denot × PartSeen g.row.A.Denot)). IsCarrying a.over a.stands P code c.args.table.now.id n c.args.worker.now k) (ap (λ (o : Option (Part g.row.A.Denot g.row.C.Denot × PartSeen g.row.A.Denot)). with_at z o h) gone ∙ with_none z h none) s
