use Rattle.std.proofs.Common.{◌≡◌, ℕ, Option, Some, subst, eqb}
use Rattle.std.specs.Map.{update}
use Rattle.ca_table.specs.Grips.{Grips}
use Rattle.ca_table.specs.Seen.{PartSeen}
use Rattle.ca_table.specs.declared.part.Part.{Part}
use Rattle.ca_table.proofs.Carriers.{put_there}
use Rattle.ca_table.proofs.OwnTurns.{keeps_view}
use Rattle.ca_table.proofs.handling.put_at.Goals as goal

pub returns-clause-carries : goal.returns-clause-carries
returns-clause-carries g c = λ program id n h z y d s is e. let q = c.take_part-other.ensures in
    put_there g.A.Agent.over g.A.Agent.stands program c.args.code.now id n c.args.worker.now c.take_part-other.new.hand q.same (keeps_view c.args.worker.now.hand.view c.take_part-other.new.hand.view q.view) c.args.at z is e c.args.contents h y d
    (subst (λ (p : Part g.row.A.Denot g.row.C.Denot). (f : ℕ → Option (Part g.row.A.Denot g.row.C.Denot × PartSeen g.row.A.Denot)) (x : Part g.row.A.Denot g.row.C.Denot) (d : PartSeen g.row.A.Denot) → f c.args.at ≡ Some (x, d) → Grips c.args.worker.now.hand f → Grips c.take_part-other.new.hand (update eqb f c.args.at (Some (p, d)))) c.part_with-part.ensures q.grips) s
