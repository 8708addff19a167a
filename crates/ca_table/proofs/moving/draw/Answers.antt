use Rattle.std.proofs.Common.{map, subst, sym}
use Rattle.ca_turns.specs.Hands.{look}
use Rattle.ca_turns.specs.Views.{new_turn}
use Rattle.ca_table.specs.LoneHands.{HoldsLeft}
use Rattle.ca_table.proofs.Gripping.{all_held, grips_settled, look_all}
use Rattle.ca_table.proofs.OwnTurns.{draw_left}
use Rattle.ca_table.proofs.moving.draw.Goals as goal

pub draw-requires-clause-touched : goal.draw-requires-clause-touched
draw-requires-clause-touched g c = let m = c.requires.moved in all_held c.args.hand.now m.0 (g.O.Object.touches c.args.event.now) m.1 m.2

pub draw-requires-clause-moves : goal.draw-requires-clause-moves
draw-requires-clause-moves g c = let m = c.requires.moved in let O = g.O.Object in let is = O.touches c.args.event.now in let looks = look_all c.args.hand.now m.0 is m.1 m.2 in
    subst (λ l. O.moves c.args.event.now l (map O.content (look c.args.hand.now.parts is))) (sym looks.1)
    (subst (λ l. O.moves c.args.event.now (Rattle.ca_table.specs.Grips.settled_contents m.0 is) (map O.content l)) (sym looks.0) m.3)

pub returns-clause-grips : goal.returns-clause-grips
returns-clause-grips g c = λ f all. let O = g.O.Object in grips_settled O.content (O.touches c.args.event.now) c.args.hand.now c.draw.new.hand f all c.draw.ensures.parts c.draw.ensures.settled c.draw.ensures.others

pub returns-clause-left : goal.returns-clause-left
returns-clause-left g c = λ h. let O = g.O.Object in let e = c.args.event.now in let v = c.args.hand.now.view in let is = O.touches e in
    subst (λ w. HoldsLeft O.touches w) (sym c.draw.ensures.drew) (draw_left O.touches v (new_turn c.draw.result e (look v.held is) (map O.content (look c.args.hand.now.parts is))) h)
