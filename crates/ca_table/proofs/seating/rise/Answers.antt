use Rattle.std.proofs.Common.{ℕ, Some, None, sym, subst, eqb}
use Rattle.std.specs.Map.{update}
use Rattle.std.proofs.lemmas.Map.{update_here}
use Rattle.ca_states.specs.ValidCode.{valid_code}
use Rattle.ca_table.specs.Grips.{Grips, no_grip}
use Rattle.ca_table.specs.Parts.{part_away, part_of}
use Rattle.ca_table.specs.Seen.{PartSeen}
use Rattle.ca_table.specs.Workers.{part_of_lane}
use Rattle.ca_table.specs.declared.part.Contents.TheVariants.{Lane}
use Rattle.ca_table.specs.declared.part.Part.{Part}
use Rattle.ca_table.proofs.Drawing.{drew_held}
use Rattle.ca_table.proofs.Gripping.{fit, holds_nothing}
use Rattle.ca_table.proofs.OwnTurns.{keeps_view}
use Rattle.ca_table.proofs.Seats.{same_one, then_same}
use Rattle.ca_table.proofs.Whole.{emptied}
use Rattle.ca_table.proofs.seating.rise.Goals as goal

pub take_part-away-requires : goal.take_part-away-requires
take_part-away-requires g c = let s = c.requires.seated in let w = c.args.worker.now in let l : Part g.row.A.Denot g.row.C.Denot × PartSeen g.row.A.Denot = (part_away s.1 c.args.code.now, part_of_lane s.1 c.args.code.now c.args.lane.value) in
    (part_away s.1 c.args.code.now, (fit w.hand (update eqb no_grip w.number (Some l)) w.number l s.2.grips (update_here no_grip w.number (Some l))).0)

pub give-requires-clause-settled : goal.give-requires-clause-settled
give-requires-clause-settled g c = let s = c.requires.seated in let w = c.args.worker.now in let lane = c.args.lane.value in let l : Part g.row.A.Denot g.row.C.Denot × PartSeen g.row.A.Denot = (part_away s.1 c.args.code.now, part_of_lane s.1 c.args.code.now lane) in let other = part_of w.workers c.args.code.now (Lane c.args.lane) in
    let two = subst (λ (p : Part g.row.A.Denot g.row.C.Denot). Grips c.take_part-away.new.hand (update eqb (update eqb no_grip w.number (Some l)) w.number (Some (p, part_of_lane s.1 c.args.code.now lane)))) c.part_with-part.ensures (c.take_part-away.ensures.grips (update eqb no_grip w.number (Some l)) (part_away s.1 c.args.code.now) (part_of_lane s.1 c.args.code.now lane) (update_here no_grip w.number (Some l)) s.2.grips) in
    let held : Part g.row.A.Denot g.row.C.Denot × PartSeen g.row.A.Denot = (other, part_of_lane w.workers c.args.code.now lane) in (
      update eqb (update eqb no_grip w.number (Some l)) w.number (Some held),
      other,
      subst (λ (k : ℕ). Grips c.take_part-away.new.hand (update eqb (update eqb no_grip w.number (Some l)) w.number (Some (other, part_of_lane k c.args.code.now lane)))) (sym s.2.one.of) two,
      update_here (update eqb no_grip w.number (Some l)) w.number (Some held),
    )

pub returns-clause-ready : goal.returns-clause-ready
returns-clause-ready g c = λ program n s. let a = g.A.Agent in let w = c.args.worker.now in let lane = c.args.lane.value in let l : Part g.row.A.Denot g.row.C.Denot × PartSeen g.row.A.Denot = (part_away n c.args.code.now, part_of_lane n c.args.code.now lane) in let other = part_of w.workers c.args.code.now (Lane c.args.lane) in let held : Part g.row.A.Denot g.row.C.Denot × PartSeen g.row.A.Denot = (other, part_of_lane n c.args.code.now lane) in
    let two = subst (λ (p : Part g.row.A.Denot g.row.C.Denot). Grips c.take_part-away.new.hand (update eqb (update eqb no_grip w.number (Some l)) w.number (Some (p, part_of_lane n c.args.code.now lane)))) c.part_with-part.ensures (c.take_part-away.ensures.grips (update eqb no_grip w.number (Some l)) (part_away n c.args.code.now) (part_of_lane n c.args.code.now lane) (update_here no_grip w.number (Some l)) s.grips) in
    let three = c.give.ensures.grips (update eqb (update eqb no_grip w.number (Some l)) w.number (Some held)) two in
    record {
      one = same_one a.over a.stands program (valid_code c.args.code.now) c.args.table.now.id n w c.give.new.hand (then_same w.hand c.take_part-away.new.hand c.give.new.hand c.take_part-away.ensures.same c.give.ensures.same) (λ alone up h. c.give.ensures.left (keeps_view w.hand.view c.take_part-away.new.hand.view c.take_part-away.ensures.view alone up h)) s.one;
      nothing = holds_nothing c.give.new.hand (update eqb (update eqb (update eqb no_grip w.number (Some l)) w.number (Some held)) w.number None) three (λ i. emptied w.number (Some l) (Some held) i);
    }

pub returns-clause-drew : goal.returns-clause-drew
returns-clause-drew g c = let w = c.args.worker.now in drew_held w c.give.new.hand (then_same w.hand c.take_part-away.new.hand c.give.new.hand c.take_part-away.ensures.same c.give.ensures.same)

pub returns-clause-turns : goal.returns-clause-turns
returns-clause-turns g c = then_same c.args.worker.now.hand c.take_part-away.new.hand c.give.new.hand c.take_part-away.ensures.same c.give.ensures.same
