use Rattle.std.proofs.Common.{ℕ, Some, refl, ap, subst, eqb}
use Rattle.std.specs.Prelude.{option_map}
use Rattle.std.specs.Map.{update}
use Rattle.std.proofs.lemmas.Map.{update_here}
use Rattle.ca_states.specs.ValidCode.{valid_code}
use Rattle.ca_commit.specs.Tasks.{task_view}
use Rattle.ca_table.specs.Grips.{Grips, no_grip}
use Rattle.ca_table.specs.Parts.{part_away, contents_seen, lane_seen, part_of, part_seen}
use Rattle.ca_table.specs.Seen.{held_of, lane_of_seen}
use Rattle.ca_table.specs.Workers.{part_of_lane}
use Rattle.ca_table.specs.declared.part.Contents.{Contents}
use Rattle.ca_table.proofs.Drawing.{drew_held}
use Rattle.ca_table.proofs.Gripping.{fit, grips_nothing}
use Rattle.ca_table.proofs.Knowing.{knows_same}
use Rattle.ca_table.proofs.Seats.{same_one}
use Rattle.ca_table.proofs.Seeing.{program_is}
use Rattle.ca_table.proofs.seating.sit.Goals as goal

pub returns-clause-seated : goal.returns-clause-seated
returns-clause-seated g c = λ program n r. let a = g.A.Agent in let m = g.met.A.Agent in let K = g.C.Clock in let w = c.args.worker.now in let lane = c.in-Lane.lane.value in let h = c.hold_out.ensures in let hand = c.hold_out.new.hand in
    let seen = part_seen K.least K.faults K.readings in
    let held = h.grips no_grip (grips_nothing w.hand r.nothing) in
    let here = subst (λ (x : Contents g.row.A.Denot g.row.C.Denot). Grips hand (update eqb no_grip w.number (Some (part_away w.workers c.args.code.now, seen (part_of w.workers c.args.code.now x))))) c.in-Lane.is held in
    let gripped = subst (λ (k : ℕ). Grips hand (update eqb no_grip w.number (Some (part_away k c.args.code.now, part_of_lane k c.args.code.now lane)))) r.one.of here in
    let at = fit hand (update eqb no_grip w.number (Some (part_away n c.args.code.now, part_of_lane n c.args.code.now lane))) w.number (part_away n c.args.code.now, part_of_lane n c.args.code.now lane) gripped (update_here no_grip w.number (Some (part_away n c.args.code.now, part_of_lane n c.args.code.now lane))) in
    let k = knows_same a.over a.stands program (valid_code c.args.code.now) n w.hand.view hand.view h.same.same.opening r.one.knows in
    record {
      one = same_one a.over a.stands program (valid_code c.args.code.now) c.args.table.now.id n w hand h.same h.left r.one;
      lane_is = program_is a.over a.place a.stands a.advances a.gives a.starts m.advanced m.answered m.started program (valid_code c.args.code.now) n hand.view k h.history w.number (part_of_lane n c.args.code.now lane) at.1 (lane_seen lane) refl;
      grips = gripped;
    }

pub returns-clause-drew : goal.returns-clause-drew
returns-clause-drew g c = drew_held c.args.worker.now c.hold_out.new.hand c.hold_out.ensures.same

pub returns-clause-over : goal.returns-clause-over
returns-clause-over g c = λ t e. let K = g.C.Clock in let lane = c.in-Lane.lane.value in
    c.hold_out.ensures.sound.running (lane_of_seen (lane_seen lane)) (task_view t).0 (task_view t).1 (ap (λ (x : Contents g.row.A.Denot g.row.C.Denot). held_of (contents_seen K.least K.faults K.readings x)) c.in-Lane.is) (ap (option_map task_view) e)
