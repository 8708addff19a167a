use Rattle.std.proofs.Common.{◌<◌, sym, refl, ap, subst, ◌∙◌, length, length-set}
use Rattle.std.specs.Prelude.{Some}
use Rattle.ca_turns.specs.Lines.{bare}
use Rattle.ca_turns.proofs.Keeping.{free_at, arrived, free_here, same_but, settled_in}
use Rattle.ca_turns.proofs.table.Table.try_hold.Goals as goal

pub take_out-requires-clause-free : goal.take_out-requires-clause-free
take_out-requires-clause-free g c = let hand = c.hand.inside in let i = c.hand.invariant in let free = free_here hand.parts.items c.args.hand.now c.args.part i c.hand.view_is c.args.self.now.id.slots (ap (λ z. z.slots) c.requires.table) c.requires.range c.requires.free in
    (free_at hand.parts.items hand.seat.me.0.held i.alike c.args.part free, i.live)

pub invariant_of-hand-in-Some : goal.invariant_of-hand-in-Some
invariant_of-hand-in-Some g c = let hand = c.hand.inside in let i = c.hand.invariant in let free = free_here hand.parts.items c.args.hand.now c.args.part i c.hand.view_is c.args.self.now.id.slots (ap (λ z. z.slots) c.requires.table) c.requires.range c.requires.free in let t = c.in-Some.ensures.took in
    let a = arrived hand.parts.items hand.seat.me.0.held c.take_out.new.seat.me.0.held (bare hand.seat.me).1 (bare c.take_out.new.seat.me).1 c.args.part _ c.in-Some.x _ free i.alike i.out refl (ap (λ m. m.0.held) t.0) (ap (λ m. m.1) t.0) in record {
      live = subst (λ l. 0 < length l) (sym (ap (λ m. m.0.stands_for) t.0)) i.live;
      sized = length-set hand.parts.items c.args.part (Some c.in-Some.x) ∙ i.sized ∙ sym (ap (λ z. z.slots) c.in-Some.ensures.table);
      alike = a.0;
      out = a.1;
      counted = i.counted ∙ sym (ap (λ m. length m.0.turns) t.0);
    }

pub returns-in-Some-clause-settled : goal.returns-in-Some-clause-settled
returns-in-Some-clause-settled g c = let hand = c.hand.inside in let i = c.hand.invariant in let free = free_here hand.parts.items c.args.hand.now c.args.part i c.hand.view_is c.args.self.now.id.slots (ap (λ z. z.slots) c.requires.table) c.requires.range c.requires.free in let t = c.in-Some.ensures.took in
    settled_in g.O.Object.content hand.parts.items hand.seat.me.0.held c.take_out.new.seat.me.0.held c.args.part c.in-Some.x free i.alike (ap (λ m. m.0.held) t.0)

pub returns-in-Some-clause-others : goal.returns-in-Some-clause-others
returns-in-Some-clause-others g c = let hand = c.hand.inside in let t = c.in-Some.ensures.took in
    same_but hand.parts.items c.args.hand.now c.args.part c.hand.invariant c.hand.view_is c.take_out.new.seat.table_id c.take_out.new.seat.me.0 (Some c.in-Some.x) (Some (g.O.Object.content c.in-Some.x)) (ap (λ m. m.0.held) t.0)
