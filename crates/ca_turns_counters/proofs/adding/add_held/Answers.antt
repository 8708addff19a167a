use Rattle.std.proofs.Common.{◌≡◌, ◌∙◌, ℕ, [], ◌∷◌, map, sym, refl, ap}
use lib.ListN.{get_elem?}
use Rattle.std.specs.Prelude.{Some}
use Rattle.ca_turns.proofs.Callers.{set_here, set_else, look_at, nothing_left}
use Rattle.ca_turns.proofs.Lists.{in_range, both_some}
use Rattle.ca_turns_counters.specs.Adding.{counter_after}
use Rattle.ca_turns_counters.proofs.adding.add_held.Goals as goal

pub draw-number-requires-clause-touched : goal.draw-number-requires-clause-touched
draw-number-requires-clause-touched c = let part = c.args.part in let n = c.count_up.ensures.parts in
    ((counter_after n.0, ap (λ l. get_elem? l part) n.2 ∙ set_here c.args.hand.now.parts part (Some (counter_after n.0)) (in_range c.args.hand.now.parts part (Some n.0) n.1)), tt)

pub draw-number-requires-clause-moves : goal.draw-number-requires-clause-moves
draw-number-requires-clause-moves c = let part = c.args.part in let n = c.count_up.ensures.parts in let x = c.requires.held.0 in let now = c.count_up.new.hand in
    let written = ap (λ l. get_elem? l part) n.2 ∙ set_here c.args.hand.now.parts part (Some (counter_after n.0)) (in_range c.args.hand.now.parts part (Some n.0) n.1) in let settled = ap (λ v. get_elem? v.held part) c.count_up.ensures.view ∙ x.2 in
    let same : n.0 ≡ x.0 = both_some n.0 x.0 (sym n.1 ∙ x.1) in
    ap (map (λ (m : ℕ). m)) (look_at now.parts part [] (counter_after n.0) written) ∙ ap (λ (m : ℕ). counter_after m ∷ []) same ∙ sym (ap (map counter_after) (look_at now.view.held part [] x.0 settled))

pub give_back-requires-clause-settled : goal.give_back-requires-clause-settled
give_back-requires-clause-settled c = c.draw-number.ensures.settled 0 c.args.part refl

pub returns-clause-nothing : goal.returns-clause-nothing
returns-clause-nothing c = let part = c.args.part in
    nothing_left part c.args.hand.now c.give_back.new.hand c.requires.held.1 (λ k ne. (c.give_back.ensures.others k ne).0 ∙ ap (λ l. get_elem? l k) (c.draw-number.ensures.parts ∙ c.count_up.ensures.parts.2) ∙ set_else c.args.hand.now.parts part k _ ne) c.give_back.ensures.without
