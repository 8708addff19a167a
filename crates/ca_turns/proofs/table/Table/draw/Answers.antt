use Rattle.std.proofs.Common.{◌<◌, ◌≡◌, ◌∙◌, ◌+◌, refl, sym, ap, subst, map, length, length-append}
use lib.ListN.{length-map, get_elem?}
use Rattle.ca_turns.specs.Places.{AllIn}
use Rattle.ca_turns.specs.Hands.{IsHolding, look, there, IsOut}
use Rattle.ca_turns.specs.Views.{new_turn, drawing}
use Rattle.ca_turns.proofs.Looks.{all_there, all_read, long_look, both_there, written_there, written_at, written_else}
use Rattle.ca_turns.proofs.table.Table.draw.Goals as goal

pub draw_as-number-requires-clause-turn : goal.draw_as-number-requires-clause-turn
draw_as-number-requires-clause-turn g c = let hand = c.hand.inside in let is = g.O.Object.touches c.args.event.now in let ps = look hand.parts.items is in let touched = all_there hand.parts.items is (subst (λ v. AllIn (IsHolding v) is) (sym c.hand.view_is) c.requires.touched) in (
  _,
  refl,
  all_read hand.seat.me.0.held is (both_there hand.parts.items hand.seat.me.0.held c.hand.invariant.alike is touched),
  subst (λ v. g.O.Object.moves c.args.event.now (look v.view.held is) (map g.O.Object.content (look v.parts is))) (sym c.hand.view_is) c.requires.moves,
  length-map ps g.O.Object.content ∙ long_look hand.parts.items is touched,
)

pub returns-clause-drew : goal.returns-clause-drew
returns-clause-drew g c = let is = g.O.Object.touches c.args.event.now in
    (c.draw_as-number.ensures.drew _ refl).0 ∙ ap (λ v. drawing v.view is (new_turn c.draw_as-number.result c.args.event.now (look v.view.held is) (map g.O.Object.content (look v.parts is)))) c.hand.view_is

pub returns-clause-later : goal.returns-clause-later
returns-clause-later g c k t e = (c.draw_as-number.ensures.drew _ refl).2 k t (ap (λ v. get_elem? v.view.turns k) c.hand.view_is ∙ e)

pub returns-clause-settled : goal.returns-clause-settled
returns-clause-settled g c m i e = let hand = c.hand.inside in let is = g.O.Object.touches c.args.event.now in let touched = all_there hand.parts.items is (subst (λ v. AllIn (IsHolding v) is) (sym c.hand.view_is) c.requires.touched) in
    let long : length hand.seat.me.0.held ≡ length hand.parts.items = sym (length-map hand.seat.me.0.held _) ∙ sym (ap length c.hand.invariant.alike) ∙ length-map hand.parts.items _ in
    let w = written_at g.O.Object.content hand.parts.items is (g.O.Object.distinct c.args.event.now) touched hand.seat.me.0.held long m i e in (w.0, w.1, ap (λ v. get_elem? v.held i) (c.draw_as-number.ensures.drew _ refl).0 ∙ w.2)

pub returns-clause-others : goal.returns-clause-others
returns-clause-others g c i h = let hand = c.hand.inside in let is = g.O.Object.touches c.args.event.now in
    ap (λ v. get_elem? v.held i) (c.draw_as-number.ensures.drew _ refl).0 ∙ written_else hand.seat.me.0.held is (map g.O.Object.content (look hand.parts.items is)) i h ∙ ap (λ v. get_elem? v.view.held i) c.hand.view_is

pub invariant_of-hand : goal.invariant_of-hand
invariant_of-hand g c = let hand = c.hand.inside in let i = c.hand.invariant in let is = g.O.Object.touches c.args.event.now in let d = c.draw_as-number.ensures.drew _ refl in let touched = all_there hand.parts.items is (subst (λ v. AllIn (IsHolding v) is) (sym c.hand.view_is) c.requires.touched) in record {
  live = subst (λ l. 0 < length l) (sym (ap (λ v. v.stands_for) d.0)) i.live;
  sized = i.sized ∙ sym (ap (λ z. z.slots) c.draw_as-number.ensures.table);
  alike = i.alike ∙ sym (ap (λ v. there v.held) d.0 ∙ written_there hand.seat.me.0.held is (map g.O.Object.content (look hand.parts.items is)) (both_there hand.parts.items hand.seat.me.0.held i.alike is touched));
  out = subst (IsOut (there hand.parts.items)) (sym d.1) i.out;
  counted = ap (λ n. n + 1) i.counted ∙ sym (ap (λ v. length v.turns) d.0 ∙ length-append hand.seat.me.0.turns _);
}
