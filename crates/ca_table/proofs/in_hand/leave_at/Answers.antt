use Rattle.std.proofs.Common.{◌∙◌, Some, ap, sym}
use Rattle.ca_table.specs.Carrying.{number_at}
use Rattle.ca_table.specs.Parts.{part_away, part_of, part_seen}
use Rattle.ca_table.proofs.Carriers.{is_held}
use Rattle.ca_table.proofs.in_hand.leave_at.Goals as goal

pub put_at-requires : goal.put_at-requires
put_at-requires g c = let a = g.A.Agent in let K = g.C.Clock in let r = c.requires.carries in let n = r.1 in
    is_held a.over a.stands r.0 c.args.code.now c.args.table.now.id n c.args.worker.now c.args.at r.3 r.5 r.6 r.2 (part_away n c.args.code.now, part_seen K.least K.faults K.readings (part_of n c.args.code.now c.args.contents)) r.4

pub give_at-requires : goal.give_at-requires
give_at-requires g c = let K = g.C.Clock in let r = c.requires.carries in let n = r.1 in let code = c.args.code.now in let part = part_of n code c.args.contents in let put = c.put_at.ensures in
    record { settled = (r.0, code, n, r.2, r.3, part, put.carries r.0 c.args.table.now.id n r.2 r.3 (part_away n code) (part_seen K.least K.faults K.readings part) r.4 r.5 r.6, r.5, r.6 ∙ ap (λ k. number_at n k r.3) (sym put.same.number)) }

pub returns-clause-carries : goal.returns-clause-carries
returns-clause-carries g c = λ P n h z none s is e. let K = g.C.Clock in let code = c.args.code.now in let part = part_of n code c.args.contents in let put = c.put_at.ensures in
    c.give_at.ensures.carries P code n h z (Some (part, part_seen K.least K.faults K.readings part)) none (put.carries P c.args.table.now.id n h z (part_away n code) (part_seen K.least K.faults K.readings part) s is e) is (e ∙ ap (λ k. number_at n k z) (sym put.same.number))
