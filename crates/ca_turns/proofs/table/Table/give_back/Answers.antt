use Rattle.std.proofs.Common.{rules, ◌<◌, ◌≡◌, ◌∙◌, length, sym, ap, subst, length-set, set}
use Rattle.std.specs.Prelude.{None, Some}
use mathlib.Core.Option.{some}
use lib.ListN.{get_elem?}
use Rattle.ca_turns.specs.Lines.{bare}
use Rattle.ca_turns.specs.Hands.{there, IsOut}
use Rattle.ca_turns.proofs.Lists.{in_range, read_at, both_some, none_some}
use Rattle.ca_turns.proofs.Looks.{there_at}
use Rattle.ca_turns.proofs.Fronts.{front}
use Rattle.atomic_table.specs.Table.{rest}
use Rattle.ca_turns.proofs.Keeping.{departed, settled_here, near_here, same_but, gone}
use Rattle.ca_turns.proofs.table.Table.give_back.Given.{Over}
use Rattle.ca_turns.proofs.table.Table.give_back.Goals.{In-Some}
use Rattle.ca_turns.proofs.table.Table.give_back.Goals as goal

pub bring_to_front-requires-clause-out : goal.bring_to_front-requires-clause-out
bring_to_front-requires-clause-out g c = let hand = c.hand.inside in let i = c.hand.invariant in let s = settled_here hand.parts.items c.args.hand.now c.args.part i c.hand.view_is g.O.Object.content c.requires.settled in
    (subst (λ b. IsOut b (bare hand.seat.me).1) i.alike i.out, i.out.listed c.args.part (read_at (there hand.parts.items) c.args.part _ _ (there_at hand.parts.items c.args.part _ s.1)), i.live)

pub bring_to_front-requires-clause-part : goal.bring_to_front-requires-clause-part
bring_to_front-requires-clause-part g c = let hand = c.hand.inside in let s = settled_here hand.parts.items c.args.hand.now c.args.part c.hand.invariant c.hand.view_is g.O.Object.content c.requires.settled in
    let h = near_here hand.parts.items c.args.hand.now c.args.part c.hand.invariant c.hand.view_is c.args.self.now.id.slots s.0 (ap (λ z. z.slots) c.requires.table) s.1 in subst (λ v. c.args.part < v.id.slots) (sym c.self.view_is) h

pub index_mut-requires : goal.index_mut-requires
index_mut-requires g c = let hand = c.hand.inside in let s = settled_here hand.parts.items c.args.hand.now c.args.part c.hand.invariant c.hand.view_is g.O.Object.content c.requires.settled in let h : c.args.part < length hand.parts.items = in_range hand.parts.items c.args.part _ s.1 in search (rules, h)

pub put_in-requires-clause-part : goal.put_in-requires-clause-part
put_in-requires-clause-part g c = let hand = c.hand.inside in let s = settled_here hand.parts.items c.args.hand.now c.args.part c.hand.invariant c.hand.view_is g.O.Object.content c.requires.settled in
    let h = near_here hand.parts.items c.args.hand.now c.args.part c.hand.invariant c.hand.view_is c.args.self.now.id.slots s.0 (ap (λ z. z.slots) c.requires.table) s.1 in subst (λ v. c.args.part < v.id.slots) (sym c.self.view_is) h

-- the part that is given
given : (g : Over) (c : In-Some g) → (settled_here c.hand.inside.parts.items c.args.hand.now c.args.part c.hand.invariant c.hand.view_is g.O.Object.content c.requires.settled).0 ≡ c.in-Some.x
given g c = let hand = c.hand.inside in let s = settled_here hand.parts.items c.args.hand.now c.args.part c.hand.invariant c.hand.view_is g.O.Object.content c.requires.settled in
    let r = read_at hand.parts.items c.args.part _ c.index_mut.result.now s.1 in both_some s.0 c.in-Some.x (ap some (sym r ∙ sym c.index_mut.ensures.value ∙ sym c.take.ensures.value ∙ c.in-Some.is))

pub put_in-requires-clause-held : goal.put_in-requires-clause-held
put_in-requires-clause-held g c = let hand = c.hand.inside in let e = c.bring_to_front.ensures in let s = settled_here hand.parts.items c.args.hand.now c.args.part c.hand.invariant c.hand.view_is g.O.Object.content c.requires.settled in (
  front _ _ _ e.front,
  ap (λ v. get_elem? v.held c.args.part) e.view ∙ s.2 ∙ ap (λ x. some (Some (g.O.Object.content x))) (given g (goal.at.put_in-requires-clause-held g c).In-Some),
  subst (λ l. 0 < length l) (sym (ap (λ v. v.stands_for) e.view)) c.hand.invariant.live,
)

pub unreachable-requires : goal.unreachable-requires
unreachable-requires g c = let hand = c.hand.inside in let s = settled_here hand.parts.items c.args.hand.now c.args.part c.hand.invariant c.hand.view_is g.O.Object.content c.requires.settled in
    let r = read_at hand.parts.items c.args.part _ c.index_mut.result.now s.1 in none_some s.0 (sym c.in-None.is ∙ c.take.ensures.value ∙ c.index_mut.ensures.value ∙ r)

pub wake_one-requires : goal.wake_one-requires
wake_one-requires g c = let hand = c.hand.inside in let s = settled_here hand.parts.items c.args.hand.now c.args.part c.hand.invariant c.hand.view_is g.O.Object.content c.requires.settled in
    let h = near_here hand.parts.items c.args.hand.now c.args.part c.hand.invariant c.hand.view_is c.args.self.now.id.slots s.0 (ap (λ z. z.slots) c.requires.table) s.1 in (subst (λ v. c.args.part < v.id.slots) (sym c.self.view_is) h, c.self.invariant.sized)

pub returns-clause-without : goal.returns-clause-without
returns-clause-without g c = λ x e. gone c.hand.inside.parts.items c.args.part x (ap (λ o. get_elem? (set c.hand.inside.parts.items c.args.part o) c.args.part) (sym c.take.ensures.after) ∙ e)

pub returns-clause-others : goal.returns-clause-others
returns-clause-others g c = same_but c.hand.inside.parts.items c.args.hand.now c.args.part c.hand.invariant c.hand.view_is c.put_in.new.seat.table_id c.put_in.new.seat.me.0 c.take.new.self None (ap (λ m. m.0.held) c.put_in.ensures.freed ∙ ap (λ v. set v.held c.args.part None) c.bring_to_front.ensures.view)

pub invariant_of-hand : goal.invariant_of-hand
invariant_of-hand g c = let hand = c.hand.inside in let i = c.hand.invariant in let e = c.bring_to_front.ensures in let s = settled_here hand.parts.items c.args.hand.now c.args.part c.hand.invariant c.hand.view_is g.O.Object.content c.requires.settled in let f = c.put_in.ensures.freed in let at = c.args.part in
    let d = departed hand.parts.items hand.seat.me.0.held (bare hand.seat.me).1 (bare c.put_in.new.seat.me).1 at s.0 s.1 i.alike i.out (ap (λ m. m.1) f ∙ ap rest e.front) in let parts_are = ap (λ o. set hand.parts.items at o) (sym c.take.ensures.after) in record {
      live = subst (λ l. 0 < length l) (sym (ap (λ m. m.0.stands_for) f ∙ ap (λ v. v.stands_for) e.view)) i.live;
      sized = length-set hand.parts.items at c.take.new.self ∙ i.sized ∙ sym (ap (λ z. z.slots) (c.put_in.ensures.table ∙ e.table));
      alike = sym (ap there parts_are) ∙ d.0 ∙ sym (ap (λ m. there m.0.held) f ∙ ap (λ v. there (set v.held at None)) e.view);
      out = subst (λ p. IsOut (there p) (bare c.put_in.new.seat.me).1) parts_are d.1;
      counted = i.counted ∙ sym (ap (λ m. length m.0.turns) f ∙ ap (λ v. length v.turns) e.view);
    }
