-- How a table opens, and what its last state says.
use Rattle.std.proofs.Common.{◌≡◌, ℕ, zero, suc, ◌+◌, ◌<◌, ◌≤◌, List, [], ◌∷◌, map, length, get_or, replicate, sym, refl, ap, ap₂, ◌∙◌, subst, arith}
use mathlib.Core.Option.{some, some-injective, some-ne-none}
use lib.ListN.{get_elem?, length-map, length-replicate}
use Rattle.std.specs.Prelude.{Option, Some, None}
use Rattle.atomic_table.specs.Table.{State, opening, Seen, Final}
use Rattle.atomic_table.proofs.Lists.{at_map}
use Rattle.ca_turns.specs.declared.rule.View.{View}
use Rattle.ca_turns.specs.declared.rule.Turn.{Turn}
use Rattle.ca_turns.specs.Places.{IsDistinct}
use Rattle.ca_turns.specs.Views.{hand_numbers, hands_stood_for, HoldsNone, first_view}
use Rattle.ca_turns.specs.OneHistory.{HandStandsFor}
use Rattle.ca_turns.specs.Steps.{IsWhole, Sees}
use Rattle.ca_turns.proofs.Lists.{there_is, no_part}
use Rattle.ca_turns.proofs.Ruled.{Ruled, ViewOk, Kept}
use Rattle.ca_turns.proofs.Parts.{only, sees}
use Rattle.ca_turns.proofs.Bridge.{Literal, literal, ruled}

pub length-hand_numbers : (n : ℕ) → length (hand_numbers n) ≡ n
length-hand_numbers zero = refl
length-hand_numbers (suc n) = let h = length-hand_numbers n in omega arith

number_at : (n k h : ℕ) → get_elem? (hand_numbers n) k ≡ some h → h + k + 1 ≡ n
number_at zero k h e = absurd (some-ne-none h (sym e))
number_at (suc n) zero h e = let a : n ≡ h = some-injective n h e in omega arith
number_at (suc n) (suc k) h e = let a = number_at n k h e in omega arith

zero_at : (n i : ℕ) → ◌≡◌ {A = ℕ} (get_or (replicate {A = ℕ} n 0) i 0) 0
zero_at zero i = refl
zero_at (suc n) zero = refl
zero_at (suc n) (suc i) = zero_at n i

-- where each slot has a part whose content is settled
gathered : {P C : Type 0} (content : P → C) (xs : List (Option P)) (now : List C) → length now ≡ length xs → ((i : ℕ) → i < length xs → (x : P) × (get_elem? xs i ≡ some (Some x)) × (get_elem? now i ≡ some (content x)))
    → (ps : List P) × (xs ≡ map Some ps) × (now ≡ map content ps)
gathered content [] [] e h = ([], refl, refl)
gathered content [] (c ∷ cs) e h = absurd (omega arith)
gathered content (x ∷ xs) [] e h = absurd (omega arith)
gathered content (x ∷ xs) (c ∷ cs) e h = let a = h 0 (omega arith) in let b = gathered content xs cs (omega arith) (λ i m. h (suc i) (omega arith)) in
    (a.0 ∷ b.0, ap₂ (λ y ys. y ∷ ys) (some-injective x (Some a.0) a.1) b.1, ap₂ (λ y ys. y ∷ ys) (some-injective c (content a.0) a.2) b.2)

module _ {P C E : Type 0} (content : P → C) (touches : E → List ℕ) (moves : E → List C → List C → Type 0) where
  pub starts : (ps : List P) (hands : ℕ) → 0 < hands → hands ≤ 16 → Ruled {E = E} content touches moves (map content ps) hands (opening (replicate (length ps + 1) 0) (map Some ps) (first_view (map content ps) hands))
  starts ps hands some_ few = let hs = map some (map Some ps) in let as_many : length hs ≡ length ps = length-map (map Some ps) some ∙ length-map ps Some in let v : View C E = first_view (map content ps) hands in record {
    log = [];
    now = map content ps;
    keeper = λ _. 0;
    owner = λ _. (0, 0);
    wide = length-replicate (length ps + 1) 0 ∙ ap (λ n. n + 1) (sym as_many);
    as_long = length-map ps content ∙ sym as_many;
    as_many = length-map ps content ∙ sym as_many;
    at_most = few;
    count = zero_at (length ps + 1) 0;
    runs = refl;
    owned = λ n h. absurd (omega arith);
    all_drawn = omega arith;
    all_stand = (let e = length-hand_numbers hands in omega arith);
    apart = (
      (λ j k h n. let e = named j k h n in let a = number_at hands k h e.1 in omega arith),
      (λ i a j b h n m. let e = named i a h n in let f = named j b h m in let x = number_at hands a h e.1 in let y = number_at hands b h f.1 in (e.0 ∙ sym f.0, (let z : a ≡ b = omega arith in z))),
    );
    each_part = λ i h. let x = there_is ps i (let g : i < length hs = h in omega arith) in (zero_at (length ps + 1) (i + 1), (x.0, at_map some (map Some ps) i (Some x.0) (at_map Some ps i x.0 x.1), at_map content ps i x.0 x.1));
    each_view = one;
  }
    where
      fresh : (j : ℕ) → ViewOk {E = E} (map content ps) hands (map content ps) [] (λ _. 0) (λ _. (0, 0)) j (first_view (map content ps) hands)
      fresh j = record {
        knows = λ m. (refl, refl, length-replicate (length (map content ps)) None);
        holds = λ i c e. absurd (no_part (length (map content ps)) i c e);
        drew = λ k t e. absurd (some-ne-none t (sym e));
        few = omega arith;
      }

      named : (j k h : ℕ) → HandStandsFor (first_view {E = E} (map content ps) hands ∷ []) j k h → (j ≡ 0) × (get_elem? (hand_numbers hands) k ≡ some h)
      named zero k h n = (refl, ap (λ (v : View C E). get_elem? v.stands_for k) (some-injective _ _ n.1) ∙ n.2)
      named (suc j) k h n = absurd (some-ne-none n.0 (sym n.1))

      one : (j : ℕ) (u : View C E) → get_elem? (first_view (map content ps) hands ∷ []) j ≡ some u → ViewOk {E = E} (map content ps) hands (map content ps) [] (λ _. 0) (λ _. (0, 0)) j u
      one zero u e = subst (ViewOk {E = E} (map content ps) hands (map content ps) [] (λ _. 0) (λ _. (0, 0)) 0) (some-injective (first_view (map content ps) hands) u e) (fresh 0)
      one (suc j) u e = absurd (some-ne-none u (sym e))

  pub opens : (ps : List P) (hands : ℕ) → 0 < hands → hands ≤ 16 → (xs : List (Option P)) (ws : List ℕ) → xs ≡ map Some ps → ws ≡ replicate (length xs + 1) 0 → Literal content touches moves (map content ps) hands (opening ws xs (first_view (map content ps) hands))
  opens ps hands some_ few xs ws are zeros = let long : length xs ≡ length ps = ap length are ∙ length-map ps Some in
      subst (λ (z : List ℕ × List (Option P)). Literal content touches moves (map content ps) hands (opening z.0 z.1 (first_view (map content ps) hands))) (λ k. ((ap (λ n. replicate {A = ℕ} (n + 1) 0) (sym long) ∙ sym zeros) k, sym are k))
      (literal content touches moves (map content ps) hands _ (starts ps hands some_ few))

  module _ (start : List C) (hands : ℕ) where
    abbrev Rule : State (Option P) (View C E) → Type 0
    Rule = Ruled content touches moves start hands

    pub closes : (apart : (e : E) → IsDistinct (touches e)) (ws : List ℕ) (xs : List (Option P)) (id : ℕ) (v : View C E) → hands_stood_for v ≡ v.hands → 0 < hands_stood_for v → HoldsNone v → Final (Seen (Literal content touches moves start hands) id v) ws xs
        → (ps : List P) × (log : List (Turn C E)) × (xs ≡ map Some ps) × Sees touches moves v log (map content ps) × IsWhole v log
    closes apart ws xs id v all some_ blank (s, (l, at), _, as_long, same) = let r = ruled content touches moves start hands apart s l in let kn = (r.each_view id v at).knows some_ in let all' : hands_stood_for v ≡ hands = all ∙ kn.1 in
        let one = only content touches moves start hands s r id v at all' in
        let g = gathered content xs r.now (r.as_long ∙ as_long) (λ i h. there s r id v at blank one i (subst (λ n. i < n) (sym as_long) h) (r.keeper i) xs same (r.each_part i (subst (λ n. i < n) (sym as_long) h))) in
        let seen = sees content touches moves start hands s r id v v at some_ refl refl refl refl (λ i c e. absurd (blank i c e)) in (g.0, r.log, g.1, subst (Sees touches moves v r.log) g.2 seen, seen.alone all)
      where
        there : (s : State (Option P) (View C E)) (r : Rule s) (id : ℕ) (v : View C E) → get_elem? s.views id ≡ some v → HoldsNone v → ((j : ℕ) (u : View C E) → get_elem? s.views j ≡ some u → 0 < hands_stood_for u → j ≡ id) → (i : ℕ) → i < length s.homes → (q : ℕ)
            → (xs : List (Option P)) → ((k : ℕ) (y : Option P) → get_elem? s.homes k ≡ some (some y) → get_elem? xs k ≡ some y) → Kept content s.words s.homes s.views r.now i q → (x : P) × (get_elem? xs i ≡ some (Some x)) × (get_elem? r.now i ≡ some (content x))
        there s r id v at blank one i h zero xs same kept = (kept.1.0, same i (Some kept.1.0) kept.1.1, kept.1.2)
        there s r id v at blank one i h (suc j) xs same kept = let u : View C E = kept.1.0 in let c : C = kept.1.1 in let o = (r.each_view j u kept.1.2).holds i c kept.1.3 in let is = one j u kept.1.2 o.2 in
            absurd (blank i c (ap (λ (z : View C E). get_elem? z.held i) (some-injective v u (sym at ∙ ap (get_elem? s.views) (sym is) ∙ kept.1.2)) ∙ kept.1.3))
