use Rattle.std.proofs.Common.{◌∙◌, ℕ, ◌+◌, Option, Some, None, ap, sym, subst, is_some}
use Rattle.ca_pool.specs.Desk.{ClockBox}
use Rattle.ca_table.specs.Carriers.{IsCarrying}
use Rattle.ca_table.specs.Carrying.{timers_place, with_at}
use Rattle.ca_table.specs.Lifting.{laid_back}
use Rattle.ca_table.specs.Parts.{part_away}
use Rattle.ca_table.specs.Seen.{PartSeen}
use Rattle.ca_table.specs.declared.part.Contents.TheVariants as V
use Rattle.ca_table.proofs.Carriers.{is_held}
use Rattle.ca_table.proofs.Liftings.{is_there}
use Rattle.ca_pool.proofs.release.lay_timers.Goals as goal

pub put_at-requires : goal.put_at-requires
put_at-requires g c = let a = g.A.Agent in let w = c.args.worker.now in let code = c.args.code.now in let r = c.requires.carries in let n = r.2 in
    let there = is_there r.4 (r.5 ∙ ap is_some c.in-Some.is) in
    let lies = subst (λ (o : Option (PartSeen g.row.A.Denot)). IsCarrying a.over a.stands r.0 code r.1 n w (with_at timers_place (laid_back n code V.Timers None o) r.3)) there.1 r.6 in
    is_held a.over a.stands r.0 code r.1 n w (w.workers + 32) timers_place tt (ap (λ (k : ℕ). k + 32) r.6.one.of) r.3 (part_away n code, there.0) lies

pub returns-in-Some-clause-carries : goal.returns-in-Some-clause-carries
returns-in-Some-clause-carries g c = λ program id n h was agree s. let a = g.A.Agent in let w = c.args.worker.now in let code = c.args.code.now in
    let there = is_there was (agree ∙ ap is_some c.in-Some.is) in
    let lies = subst (λ (o : Option (PartSeen g.row.A.Denot)). IsCarrying a.over a.stands program code id n w (with_at timers_place (laid_back n code V.Timers None o) h)) there.1 s in
    let back = c.put_at.ensures.carries program id n h timers_place (part_away n code) there.0 lies tt (ap (λ (k : ℕ). k + 32) s.one.of) in
    subst (λ (z : Option (ClockBox g.row.C.Denot)). IsCarrying a.over a.stands program code id n c.put_at.new.worker (with_at timers_place (laid_back n code V.Timers z was) h)) (sym c.in-Some.is)
    (subst (λ (o : Option (PartSeen g.row.A.Denot)). IsCarrying a.over a.stands program code id n c.put_at.new.worker (with_at timers_place (laid_back n code V.Timers (Some c.in-Some.clockwork) o) h)) (sym there.1) back)

pub returns-in-None-clause-carries : goal.returns-in-None-clause-carries
returns-in-None-clause-carries g c = λ program id n h was agree s. let a = g.A.Agent in let w = c.args.worker.now in let code = c.args.code.now in
    subst (λ (z : Option (ClockBox g.row.C.Denot)). IsCarrying a.over a.stands program code id n w (with_at timers_place (laid_back n code V.Timers z was) h)) (sym c.in-None.is) s
