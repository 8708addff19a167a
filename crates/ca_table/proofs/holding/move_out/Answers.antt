use Rattle.std.proofs.Common.{◌≡◌, ◌∙◌, ℕ, Option, Some, sym, ap₂, subst, eqb}
use Rattle.std.specs.Map.{update}
use Rattle.std.proofs.lemmas.Map.{update_here}
use mathlib.Core.Option.{some}
use lib.ListN.{get_elem?}
use Rattle.ca_term.specs.Program.{program_view}
use Rattle.ca_states.specs.ValidCode.{valid_code}
use Rattle.ca_turns.proofs.Lists.{both_some}
use Rattle.ca_table.specs.Grips.{Grips}
use Rattle.ca_table.specs.Parts.{part_seen}
use Rattle.ca_table.specs.Seen.{PartSeen}
use Rattle.ca_table.specs.declared.part.Part.{Part}
use Rattle.ca_table.proofs.Whole.{seen_whole, twice}
use Rattle.ca_table.proofs.Gripping.{fit}
use Rattle.ca_table.proofs.Seeing.{code_is, kind_is}
use Rattle.ca_table.proofs.Sounds.{is_sound}
use Rattle.ca_table.proofs.holding.move_out.Goals as goal

pub returns-clause-kind : goal.returns-clause-kind
returns-clause-kind g c = let a = g.A.Agent in let m = g.met.A.Agent in let K = g.C.Clock in let n = c.args.workers in let k = valid_code c.args.code.now in let P = program_view c.args.program.now.value in let view = c.args.hand.now.view in let h = c.requires.held in let part = c.take_part-part.result in let at = c.args.at in
    let seen = part_seen K.least K.faults K.readings in
    let is = both_some h.0 part (sym h.1 ∙ c.take_part-part.ensures.out) in
    let there = subst (λ (x : Part g.row.A.Denot g.row.C.Denot). get_elem? view.held at ≡ some (Some (seen x))) is h.2 in
    (kind_is a.over a.place a.stands a.advances a.gives a.starts m.advanced m.answered m.started P k n view c.requires.knows c.requires.history at (seen part) there).1

pub returns-clause-sound : goal.returns-clause-sound
returns-clause-sound g c = let a = g.A.Agent in let m = g.met.A.Agent in let K = g.C.Clock in let n = c.args.workers in let k = valid_code c.args.code.now in let P = program_view c.args.program.now.value in let view = c.args.hand.now.view in let h = c.requires.held in let part = c.take_part-part.result in let at = c.args.at in
    let seen = part_seen K.least K.faults K.readings in
    let is = both_some h.0 part (sym h.1 ∙ c.take_part-part.ensures.out) in
    let there = subst (λ (x : Part g.row.A.Denot g.row.C.Denot). get_elem? view.held at ≡ some (Some (seen x))) is h.2 in
    is_sound a.over a.place a.stands a.advances a.gives a.starts m.advanced m.answered m.started P k n view c.requires.knows c.requires.history at (seen part) there

pub returns-clause-grips : goal.returns-clause-grips
returns-clause-grips g c = λ f x all. let a = g.A.Agent in let m = g.met.A.Agent in let K = g.C.Clock in let n = c.args.workers in let k = valid_code c.args.code.now in let P = program_view c.args.program.now.value in let view = c.args.hand.now.view in let h = c.requires.held in let part = c.take_part-part.result in let at = c.args.at in
    let seen = part_seen K.least K.faults K.readings in
    let is = both_some h.0 part (sym h.1 ∙ c.take_part-part.ensures.out) in
    let there = subst (λ (x : Part g.row.A.Denot g.row.C.Denot). get_elem? view.held at ≡ some (Some (seen x))) is h.2 in
    let kind = kind_is a.over a.place a.stands a.advances a.gives a.starts m.advanced m.answered m.started P k n view c.requires.knows c.requires.history at (seen part) there in
    let code = code_is a.over a.place a.stands a.advances a.gives a.starts m.advanced m.answered m.started P k n view c.requires.knows c.requires.history at (seen part) there in
    let same = both_some x part (sym (fit c.args.hand.now (update eqb f at (Some (x, seen x))) at (x, seen x) all (update_here f at (Some (x, seen x)))).0 ∙ c.take_part-part.ensures.out) in
    let one = subst (λ (y : Part g.row.A.Denot g.row.C.Denot). Grips c.args.hand.now (update eqb f at (Some (y, seen y)))) same all in
    let two = c.take_part-part.ensures.grips (update eqb f at (Some (part, seen part))) part (seen part) (update_here f at (Some (part, seen part))) one in
    subst (λ (o : Part g.row.A.Denot g.row.C.Denot × PartSeen g.row.A.Denot). Grips c.take_part-part.new.hand (update eqb f at (Some o))) (ap₂ (λ (x : Part g.row.A.Denot g.row.C.Denot) (y : PartSeen g.row.A.Denot). (x, y)) c.part_with-away.ensures (seen_whole K.least K.faults K.readings part n c.args.code.now kind.0 code))
    (subst (λ (q : ℕ → Option (Part g.row.A.Denot g.row.C.Denot × PartSeen g.row.A.Denot)). Grips c.take_part-part.new.hand q) (twice f at (Some (part, seen part)) (Some (c.part_with-away.result, seen part))) two)
