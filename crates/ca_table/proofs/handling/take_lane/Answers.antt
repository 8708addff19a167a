use Rattle.std.proofs.Common.{◌∙◌, sym, ap, refl}
use Rattle.ca_turns.proofs.Lists.{both_some}
use Rattle.ca_table.specs.Carrying.{lane_place}
use Rattle.ca_table.specs.Parts.{part_of}
use Rattle.ca_table.specs.declared.part.Contents.TheVariants.{Lane}
use Rattle.ca_table.specs.declared.part.Part.{Part}
use Rattle.ca_table.proofs.Carriers.{in_hand, is_held, same_lane}
use Rattle.ca_table.proofs.handling.take_lane.Goals as goal

pub take_at-requires : goal.take_at-requires
take_at-requires g c = let r = c.requires.lane in let w = c.args.worker.now in is_held g.A.Agent.over g.A.Agent.stands r.0 c.args.code.now r.1 r.2 w w.number lane_place tt refl r.3 (part_of r.2 c.args.code.now (Lane r.4), r.5) r.6

pub unreachable-requires : goal.unreachable-requires
unreachable-requires g c = let r = c.requires.lane in let w = c.args.worker.now in let out = c.take_at.ensures.out in
    let is = both_some out.0 (part_of r.2 c.args.code.now (Lane r.4)) (sym out.1 ∙ (in_hand g.A.Agent.over g.A.Agent.stands r.0 c.args.code.now r.1 r.2 w w.number lane_place tt refl r.3 (part_of r.2 c.args.code.now (Lane r.4), r.5) r.6).0) in
    c.in_default.not-Lane r.4 (sym out.2 ∙ ap (λ (x : Part g.row.A.Denot g.row.C.Denot). x.contents) is)

pub returns-clause-carries : goal.returns-clause-carries
returns-clause-carries g c = λ program id n h l d s. let w = c.args.worker.now in let out = c.take_at.ensures.out in
    let is = both_some out.0 (part_of n c.args.code.now (Lane l)) (sym out.1 ∙ (in_hand g.A.Agent.over g.A.Agent.stands program c.args.code.now id n w w.number lane_place tt refl h (part_of n c.args.code.now (Lane l), d) s).0) in
    (same_lane c.in-Lane.lane l (sym c.in-Lane.is ∙ sym out.2 ∙ ap (λ (x : Part g.row.A.Denot g.row.C.Denot). x.contents) is), c.take_at.ensures.carries program id n h lane_place (part_of n c.args.code.now (Lane l)) d s tt refl)
