use Rattle.std.proofs.Common.{◌≡◌, ℕ, Option, Some, subst, eqb}
use Rattle.std.specs.Map.{update}
use Rattle.ca_table.specs.Grips.{Grips}
use Rattle.ca_table.specs.Seen.{PartSeen}
use Rattle.ca_table.specs.declared.part.Contents.TheVariants.{Away}
use Rattle.ca_table.specs.declared.part.Part.{Part}
use Rattle.ca_table.proofs.Carriers.{put_there}
use Rattle.ca_table.proofs.OwnTurns.{keeps_view}
use Rattle.ca_table.proofs.handling.take_at.Goals as goal

pub returns-clause-carries : goal.returns-clause-carries
returns-clause-carries g c = λ program id n h z y d s is e. let q = c.take_part-part.ensures in let w = c.args.worker.now in let hand = c.take_part-part.new.hand in
    put_there g.A.Agent.over g.A.Agent.stands program c.args.code.now id n w hand q.same (keeps_view w.hand.view hand.view q.view) c.args.at z is e Away h y d
    (subst (λ (p : Part g.row.A.Denot g.row.C.Denot). (f : ℕ → Option (Part g.row.A.Denot g.row.C.Denot × PartSeen g.row.A.Denot)) (x : Part g.row.A.Denot g.row.C.Denot) (d : PartSeen g.row.A.Denot) → f c.args.at ≡ Some (x, d) → Grips w.hand f → Grips hand (update eqb f c.args.at (Some (p, d)))) c.part_with-away.ensures q.grips) s
