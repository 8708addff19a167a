use Rattle.std.proofs.Common.{◌≡◌, ◌<◌, ◌≤◌, ◌-◌, ◌+◌, ◌∙◌, ◌∷◌, [], ℕ, List, length, take, drop, replicate, sym, ap, subst, refl, arith, length-drop, length-append}
use Rattle.std.specs.Prelude.{All, None}
use Rattle.ca_turns.specs.Views.{left_view, right_view}
use Rattle.ca_turns.specs.Hands.{IsFresh}
use Rattle.ca_turns.proofs.Keeping.{is_fresh, split_idle}
use Rattle.ca_turns.proofs.Rows.{all_more}
use Rattle.ca_turns.proofs.table.deal.Goals as goal

pub split_off-other-requires-clause-table : goal.split_off-other-requires-clause-table
split_off-other-requires-clause-table g c = (c.loop.invariant.0, c.requires.table.1)

pub split_off-other-requires-clause-opening : goal.split_off-other-requires-clause-opening
split_off-other-requires-clause-opening g c = let i = c.loop.invariant.1 in let e : length c.loop.seat.me.0.stands_for ≡ c.args.hands - c.loop.counter = ap (λ m. length m.0.stands_for) i.1 ∙ i.2 in let h : c.loop.counter < c.args.hands - 1 = c.loop-test.true in
    (ap (λ m. m.0.turns) i.1, (let l : 1 < length c.loop.seat.me.0.stands_for = omega arith in l))

one : (l : List ℕ) → 1 < length l → length (take 1 l) ≡ 1
one [] h = absurd (omega arith)
one (x ∷ l) h = refl

pub loop-preserved : goal.loop-preserved
loop-preserved g c = let i = c.loop.invariant in let names = i.1.0 in let s = c.split_off-other.ensures in let n = c.in_ok-new_hand.ensures in let id = c.args.words.now.table_id in let cs = c.args.seat.me.0.opening in let hands = c.args.hands in
    let h : c.loop.counter < hands - 1 = c.loop-test.true in let long : length names ≡ hands - c.loop.counter = i.1.2 in (
      s.table.0 ∙ i.0,
      (drop 1 names, s.views.0 ∙ ap (λ m. (left_view m.0, m.1)) i.1.1, (let e : length (drop 1 names) ≡ length names - 1 = length-drop 1 names in let f : length (drop 1 names) ≡ hands - (c.loop.counter + 1) = omega arith in f)),
      ap length c.push_reserved.ensures.items ∙ length-append c.loop.all.items (c.in_ok-new_hand.field-0 ∷ []) ∙ ap (λ m. m + 1) i.2,
      subst (All (IsFresh id cs hands)) (sym c.push_reserved.ensures.items) (all_more (IsFresh id cs hands) c.loop.all.items c.in_ok-new_hand.field-0 i.3
          (is_fresh id cs hands (take 1 names) c.in_ok-new_hand.field-0 (n.0 ∙ s.table.1 ∙ i.0) (n.1 ∙ ap (λ m. m.0) s.views.1 ∙ ap (λ m. right_view m.0) i.1.1 ∙ split_idle cs hands names) (one names (let l : 1 < length names = omega arith in l)) (n.2 ∙ ap (λ m. replicate m None) c.requires.seat.0))),
      subst (λ m. hands ≤ m) (sym c.push_reserved.ensures.capacity) i.4,
    )

pub returns : goal.returns
returns g c = let i = c.loop.invariant in let names = i.1.0 in let n = c.in_ok-new_hand-2.ensures in let id = c.args.words.now.table_id in let cs = c.args.seat.me.0.opening in let hands = c.args.hands in
    let h : hands - 1 ≤ c.loop.counter = c.loop-test.false in let k : c.loop.counter ≤ hands - 1 = c.loop.auto.counter-end in let p : 0 < hands = c.requires.hands.1 in let long : length names ≡ hands - c.loop.counter = i.1.2 in let last : c.loop.counter + 1 ≡ hands = omega arith in (
      ap length c.push_reserved-2.ensures.items ∙ length-append c.loop.all.items (c.in_ok-new_hand-2.field-0 ∷ []) ∙ ap (λ m. m + 1) i.2 ∙ last,
      subst (All (IsFresh id cs hands)) (sym c.push_reserved-2.ensures.items) (all_more (IsFresh id cs hands) c.loop.all.items c.in_ok-new_hand-2.field-0 i.3
          (is_fresh id cs hands names c.in_ok-new_hand-2.field-0 (n.0 ∙ i.0) (n.1 ∙ ap (λ m. m.0) i.1.1) (let l : length names ≡ 1 = omega arith in l) (n.2 ∙ ap (λ m. replicate m None) c.requires.seat.0))),
    )
