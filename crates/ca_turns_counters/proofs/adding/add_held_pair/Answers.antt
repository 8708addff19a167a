use Rattle.std.proofs.Common.{◌≡◌, ◌+◌, ◌∙◌, ℕ, [], ◌∷◌, map, sym, refl, ap, ap₂, subst}
use native.Mathlib.Decide.{ℕ_discrete}
use lib.ListN.{get_elem?}
use Rattle.std.specs.Prelude.{Some}
use Rattle.ca_turns.proofs.Callers.{set_else, look_at, nothing_left}
use Rattle.ca_turns.proofs.Lists.{both_some}
use Rattle.ca_turns.specs.Hands.{IsWithout}
use Rattle.ca_turns_counters.specs.Adding.{counter_after}
use Rattle.ca_turns_counters.proofs.Pairs.{apart, first_written, second_written, same_else}
use Rattle.ca_turns_counters.proofs.adding.add_held_pair.Goals as goal

pub count_up-requires-2 : goal.count_up-requires-2
count_up-requires-2 c = let low = c.args.low in let h = c.requires.held.1 in (h.0, ap (λ l. get_elem? l (low + 1)) c.count_up.ensures.parts.2 ∙ set_else c.args.hand.now.parts low (low + 1) _ (apart low) ∙ h.1)

pub draw-number-requires-clause-touched : goal.draw-number-requires-clause-touched
draw-number-requires-clause-touched c = let low = c.args.low in let a = c.count_up.ensures.parts in let b = c.count_up-2.ensures.parts in
    ((counter_after a.0, first_written low c.args.hand.now.parts c.count_up.new.hand.parts c.count_up-2.new.hand.parts a.0 (counter_after a.0) (counter_after b.0) a.1 a.2 b.2), ((counter_after b.0, second_written low c.count_up.new.hand.parts c.count_up-2.new.hand.parts b.0 (counter_after b.0) b.1 b.2), tt))

pub draw-number-requires-clause-moves : goal.draw-number-requires-clause-moves
draw-number-requires-clause-moves c = let low = c.args.low in let a = c.count_up.ensures.parts in let b = c.count_up-2.ensures.parts in let x = c.requires.held.0 in let y = c.requires.held.1 in let now = c.count_up-2.new.hand in
    let first = first_written low c.args.hand.now.parts c.count_up.new.hand.parts now.parts a.0 (counter_after a.0) (counter_after b.0) a.1 a.2 b.2 in let second = second_written low c.count_up.new.hand.parts now.parts b.0 (counter_after b.0) b.1 b.2 in
    let view = c.count_up-2.ensures.view ∙ c.count_up.ensures.view in let same : a.0 ≡ x.0 = both_some a.0 x.0 (sym a.1 ∙ x.1) in
    let same' : b.0 ≡ y.0 = both_some b.0 y.0 (sym b.1 ∙ ap (λ l. get_elem? l (low + 1)) a.2 ∙ set_else c.args.hand.now.parts low (low + 1) (Some (counter_after a.0)) (apart low) ∙ y.1) in
    ap (map (λ (m : ℕ). m)) (look_at now.parts low ((low + 1) ∷ []) (counter_after a.0) first ∙ ap (λ l. counter_after a.0 ∷ l) (look_at now.parts (low + 1) [] (counter_after b.0) second)) ∙ ap₂ (λ (m n : ℕ). counter_after m ∷ counter_after n ∷ []) same same'
    ∙ sym (ap (map counter_after) (look_at now.view.held low ((low + 1) ∷ []) x.0 (ap (λ v. get_elem? v.held low) view ∙ x.2) ∙ ap (λ l. x.0 ∷ l) (look_at now.view.held (low + 1) [] y.0 (ap (λ v. get_elem? v.held (low + 1)) view ∙ y.2))))

pub give_back-requires-clause-settled : goal.give_back-requires-clause-settled
give_back-requires-clause-settled c = c.draw-number.ensures.settled 0 c.args.low refl

pub give_back-requires-2-clause-settled : goal.give_back-requires-2-clause-settled
give_back-requires-2-clause-settled c = let low = c.args.low in let s = c.draw-number.ensures.settled 1 (low + 1) refl in let o = c.give_back.ensures.others (low + 1) (apart low) in (s.0, o.0 ∙ s.1, o.1 ∙ s.2)

pub returns-clause-nothing : goal.returns-clause-nothing
returns-clause-nothing c = let low = c.args.low in let one = c.give_back.new.hand in let two = c.give_back-2.new.hand in let others = c.requires.held.2 in
    nothing_left (low + 1) one two
    (λ k ne. elim (ℕ_discrete k low) [
      | yes is ↦ subst (IsWithout one) (sym is) c.give_back.ensures.without
      | no ne' ↦ λ x e. others k ne' ne x (sym (same_else low k c.args.hand.now.parts c.count_up.new.hand.parts c.count_up-2.new.hand.parts _ _ ne' ne c.count_up.ensures.parts.2 c.count_up-2.ensures.parts.2) ∙ sym (ap (λ l. get_elem? l k) c.draw-number.ensures.parts) ∙ sym (c.give_back.ensures.others k ne').0 ∙ e)
    ])
    (λ k ne. (c.give_back-2.ensures.others k ne).0) c.give_back-2.ensures.without
