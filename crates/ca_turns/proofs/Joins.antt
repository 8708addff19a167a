-- A hand is split, and two hands are joined.
use Rattle.std.proofs.Common.{◌≡◌, ℕ, zero, suc, ◌+◌, ◌*◌, ◌^◌, ◌<◌, ◌≤◌, ◌≢◌, ◌⊎◌, List, [], ◌∷◌, ◌++◌, length, set, take, drop, sym, refl, ap, ◌∙◌, subst, ⊎_elim, arith, length-append}
use mathlib.Core.Path.{Path}
use mathlib.Core.Option.{some, some-injective, some-ne-none}
use native.Mathlib.Decide.{ℕ_discrete}
use lib.ListN.{get_elem?, length-replicate}
use Rattle.std.specs.Prelude.{Option, Some, None}
use Rattle.atomic_table.specs.Table.{State, Splits, Joins}
use Rattle.atomic_table.proofs.Lists.{at_set, set_here, set_else, at_longer}
use Rattle.ca_turns.specs.declared.rule.View.{View}
use Rattle.ca_turns.specs.declared.rule.Turn.{Turn}
use Rattle.ca_turns.specs.Places.{total}
use Rattle.ca_turns.specs.Views.{drawn, hands_stood_for, left_view, right_view, both_views, spent_view, HoldsNone}
use Rattle.ca_turns.specs.OneHistory.{StandApart}
use Rattle.ca_turns.proofs.Lists.{pick, pick_yes, pick_no, after_set, in_range, total-set, total-snoc, at_snoc, at_second, at_either, no_part}
use Rattle.ca_turns.proofs.Ruled.{Ruled, ViewOk}
use Rattle.ca_turns.proofs.Parts.{kept_else, named_by}

-- where a turn of the hand `other` stands once the hand id has it
pub rehomed : (ℕ → ℕ × ℕ) → ℕ → ℕ → ℕ → ℕ → ℕ × ℕ
rehomed owner id other more n = pick (ℕ_discrete (owner n).0 other) (id, more + (owner n).1) (owner n)

rehomed_here : (owner : ℕ → ℕ × ℕ) (id other more n k : ℕ) → owner n ≡ (other, k) → Path (ℕ × ℕ) (rehomed owner id other more n) (id, more + k)
unfolding rehomed
rehomed_here owner id other more n k e = go (ℕ_discrete (owner n).0 other)
  where
    go : (d : Dec ((owner n).0 ≡ other)) → Path (ℕ × ℕ) (pick d (id, more + (owner n).1) (owner n)) (id, more + k)
    go (yes _) = ap (λ (z : ℕ × ℕ). (id, more + z.1)) e
    go (no ne) = absurd (ne (ap (λ (z : ℕ × ℕ). z.0) e))

rehomed_else : (owner : ℕ → ℕ × ℕ) (id other more n : ℕ) → (owner n).0 ≢ other → Path (ℕ × ℕ) (rehomed owner id other more n) (owner n)
unfolding rehomed
rehomed_else owner id other more n ne = go (ℕ_discrete (owner n).0 other)
  where
    go : (d : Dec ((owner n).0 ≡ other)) → Path (ℕ × ℕ) (pick d (id, more + (owner n).1) (owner n)) (owner n)
    go (yes e) = absurd (ne e)
    go (no _) = refl

-- where a hand stands for a hand once the first of those of the hand id is given to the hand new
given_off : ℕ → ℕ → ℕ → ℕ
given_off id new zero = new
given_off id new (suc k) = id

placed_off : ℕ → ℕ
placed_off zero = 0
placed_off (suc k) = k

split_off : (id new j k : ℕ) → ℕ × ℕ
split_off id new j k = pick (ℕ_discrete j id) (given_off id new k, placed_off k) (j, k)

split_here : (id new j k : ℕ) → j ≡ id → Path (ℕ × ℕ) (split_off id new j k) (given_off id new k, placed_off k)
unfolding split_off
split_here id new j k e = pick_yes (ℕ_discrete j id) _ _ e

split_else : (id new j k : ℕ) → j ≢ id → Path (ℕ × ℕ) (split_off id new j k) (j, k)
unfolding split_off
split_else id new j k ne = pick_no (ℕ_discrete j id) _ _ ne

split_second : (id new k : ℕ) → Path (ℕ × ℕ) (given_off id new (suc k), placed_off (suc k)) (id, k)
unfolding given_off placed_off
split_second id new k = refl

split_first : (id new j k : ℕ) → new ≡ j → 0 ≡ k → Path (ℕ × ℕ) (given_off id new 0, placed_off 0) (j, k)
unfolding given_off placed_off
split_first id new j k e f = λ i. (e i, f i)

module _ {C E : Type 0} where
  split_names : (views : List (View C E)) (id : ℕ) (v : View C E) (hands : ℕ) → get_elem? views id ≡ some v → StandApart views hands → StandApart (set views id (left_view v) ++ right_view v ∷ []) hands
  split_names views id v hands at = named_by views (set views id (left_view v) ++ right_view v ∷ []) hands (split_off id (length (set views id (left_view v)))) (λ j k h n. ⊎_elim
      (λ old. ⊎_elim
      (λ t. (id, suc k, (v, at, after_first v.stands_for k h (ap (λ (z : View C E). get_elem? z.stands_for k) t.1 ∙ n.2)), split_here id _ id (suc k) refl ∙ split_second id (length (set views id (left_view v))) k ∙ ap (λ (m : ℕ). (m, k)) (sym t.0)))
      (λ t. (j, k, (n.0, t.1, n.2), split_else id _ j k t.0))
      (at_set views id j (left_view v) n.0 old))
      (λ new. let f = in_first v.stands_for k h (ap (λ (z : View C E). get_elem? z.stands_for k) new.1 ∙ n.2) in (id, 0, (v, at, f.1), split_here id _ id 0 refl ∙ split_first id (length (set views id (left_view v))) j k (sym new.0) (sym f.0)))
      (at_snoc (set views id (left_view v)) (right_view v) n.0 j n.1))
    where
      after_first : (l : List ℕ) (k h : ℕ) → get_elem? (drop 1 l) k ≡ some h → get_elem? l (suc k) ≡ some h
      after_first [] k h e = absurd (some-ne-none h (sym e))
      after_first (x ∷ l) k h e = e

      in_first : (l : List ℕ) (k h : ℕ) → get_elem? (take 1 l) k ≡ some h → (k ≡ 0) × (get_elem? l 0 ≡ some h)
      in_first [] k h e = absurd (some-ne-none h (sym e))
      in_first (x ∷ l) zero h e = (refl, e)
      in_first (x ∷ l) (suc k) h e = absurd (some-ne-none h (sym e))

  join_names : (views : List (View C E)) (id other : ℕ) (v w : View C E) (hands : ℕ) → get_elem? views id ≡ some v → get_elem? views other ≡ some w → other ≢ id → StandApart views hands → StandApart (set (set views id (both_views v w)) other spent_view) hands
  join_names views id other v w hands at at' apart = let b = both_views v w in named_by views (set (set views id b) other spent_view) hands (λ j k. rehomed (λ _. (j, k)) id other (length v.stands_for) 0) (λ j k h n. ⊎_elim
      (λ t. absurd (some-ne-none h (sym (ap (λ (z : View C E). get_elem? z.stands_for k) t.1 ∙ n.2))))
      (λ t. ⊎_elim
      (λ z. ⊎_elim
      (λ a. (id, k, (v, at, a), rehomed_else (λ _. (id, k)) id other (length v.stands_for) 0 (λ e. apart (sym e)) ∙ ap (λ (m : ℕ). (m, k)) (sym z.0)))
      (λ a. (other, a.0, (w, at', a.2), rehomed_here (λ _. (other, a.0)) id other (length v.stands_for) 0 a.0 refl ∙ (λ i. (sym z.0 i, sym a.1 i))))
      (at_either v.stands_for w.stands_for k h (ap (λ (y : View C E). get_elem? y.stands_for k) z.1 ∙ n.2)))
      (λ z. (j, k, (n.0, z.1, n.2), rehomed_else (λ _. (j, k)) id other (length v.stands_for) 0 t.0))
      (at_set views id j b n.0 t.1))
      (at_set (set views id b) other j spent_view n.0 n.1))

module _ {P C E : Type 0} (content : P → C) (touches : E → List ℕ) (moves : E → List C → List C → Type 0) (opening : List C) (hands : ℕ) where
  abbrev St : Type 0
  St = State (Option P) (View C E)

  abbrev Rule : St → Type 0
  Rule = Ruled content touches moves opening hands

  -- other views of which each turn, part and hand is still one's
  reviewed : (s : St) (r : Rule s) (vs : List (View C E)) (owner : ℕ → ℕ × ℕ)
      → ((n : ℕ) → n < length r.log → (v : View C E) × (t : Turn C E) × (get_elem? vs (owner n).0 ≡ some v) × (get_elem? v.turns (owner n).1 ≡ some t) × (t.number ≡ n))
      → total drawn vs ≡ length r.log → total hands_stood_for vs ≡ hands → StandApart vs hands
      → ((j k : ℕ) (v : View C E) (c : C) → get_elem? s.views j ≡ some v → get_elem? v.held k ≡ some (Some c) → (v' : View C E) × (get_elem? vs j ≡ some v') × (get_elem? v'.held k ≡ some (Some c)))
      → ((j : ℕ) (v : View C E) → get_elem? vs j ≡ some v → ViewOk opening hands r.now r.log r.keeper owner j v) → Rule record { words = s.words; homes = s.homes; views = vs }
  reviewed s r vs owner owned all_drawn all_stand apart held each = record {
    log = r.log;
    now = r.now;
    keeper = r.keeper;
    owner = owner;
    wide = r.wide;
    as_long = r.as_long;
    as_many = r.as_many;
    at_most = r.at_most;
    count = r.count;
    runs = r.runs;
    owned = owned;
    all_drawn = all_drawn;
    all_stand = all_stand;
    apart = apart;
    each_part = λ k h. kept_else content s.words s.words s.homes s.homes s.views vs r.now k refl refl (λ j v c e e'. held j k v c e e') (r.keeper k) (r.each_part k h);
    each_view = each;
  }

  pub splits : (id : ℕ) (v : View C E) → v.turns ≡ [] → 1 < hands_stood_for v → Splits Rule id v (left_view v) (right_view v)
  splits id v blank two s r at = let l = left_view v in let u = right_view v in let vs : List (View C E) = set s.views id l in let ok = r.each_view id v at in let some_ : 0 < hands_stood_for v = omega arith in let less : hands_stood_for l + 1 ≡ hands_stood_for v = all_but_one v.stands_for two in let one : hands_stood_for u ≡ 1 = just_one v.stands_for two in
      let none_drawn : length v.turns ≡ 0 = ap length blank in
      reviewed s r (vs ++ u ∷ []) r.owner
      (λ n h. let o = r.owned n h in let a = after_set s.views id v l at (r.owner n).0 o.0 o.2 in (
        a.0,
        o.1,
        at_longer vs (u ∷ []) (r.owner n).0 a.0 a.1,
        ⊎_elim (λ b. ap (λ (z : View C E). get_elem? z.turns (r.owner n).1) b.2 ∙ sym (ap (λ (z : View C E). get_elem? z.turns (r.owner n).1) b.1) ∙ o.3) (λ b. ap (λ (z : View C E). get_elem? z.turns (r.owner n).1) b.1 ∙ o.3) a.2,
        o.4,
      ))
      (let a = total-set drawn s.views id v l at in let b = total-snoc drawn vs u in let d : total drawn s.views ≡ length r.log = r.all_drawn in omega arith)
      (let a = total-set hands_stood_for s.views id v l at in let b = total-snoc hands_stood_for vs u in let d = r.all_stand in omega arith)
      (split_names s.views id v hands at r.apart)
      (λ j k w c e e'. let a = after_set s.views id v l at j w e in (
        a.0,
        at_longer vs (u ∷ []) j a.0 a.1,
        ⊎_elim (λ b. ap (λ (z : View C E). get_elem? z.held k) b.2 ∙ sym (ap (λ (z : View C E). get_elem? z.held k) b.1) ∙ e') (λ b. ap (λ (z : View C E). get_elem? z.held k) b.1 ∙ e') a.2,
      ))
      (λ j w e. ⊎_elim
      (λ old. ⊎_elim
      (λ b. subst (ViewOk opening hands r.now r.log r.keeper r.owner j) b.1 (subst (λ (k : ℕ). ViewOk opening hands r.now r.log r.keeper r.owner k l) (sym b.0) record {
        knows = λ m. ok.knows some_;
        holds = λ k c e. let h = ok.holds k c e in (h.0, h.1, (let g : 0 < hands_stood_for l = omega arith in g));
        drew = ok.drew;
        few = let g : length v.turns ≤ 2 ^ 59 * hands_stood_for l = omega arith in g;
      }))
      (λ b. r.each_view j w b.1) (at_set s.views id j l w old))
      (λ new. subst (ViewOk opening hands r.now r.log r.keeper r.owner j) new.1 record {
        knows = λ m. let kn = ok.knows some_ in (kn.0, kn.1, length-replicate (length v.held) None ∙ kn.2);
        holds = λ k c e. absurd (no_part (length v.held) k c e);
        drew = λ k t e. absurd (some-ne-none t (sym e));
        few = omega arith;
      }) (at_snoc vs u w j e))
    where
      all_but_one : (l : List ℕ) → 1 < length l → length (drop 1 l) + 1 ≡ length l
      all_but_one [] h = absurd (omega arith)
      all_but_one (x ∷ l) h = omega arith

      just_one : (l : List ℕ) → 1 < length l → length (take 1 l) ≡ 1
      just_one [] h = absurd (omega arith)
      just_one (x ∷ l) h = refl

  pub merges : (id : ℕ) (v : View C E) (other : ℕ) (w : View C E) → 0 < hands_stood_for v → 0 < hands_stood_for w → HoldsNone w → Joins Rule id v other w (both_views v w) spent_view
  merges id v other w may may' none_held s r at apart at' = let b = both_views v w in let vs : List (View C E) = set s.views id b in let vs' : List (View C E) = set vs other spent_view in let ok = r.each_view id v at in
      let old' : get_elem? s.views other ≡ some w = sym (set_else s.views id other b apart) ∙ at' in let ok' = r.each_view other w old' in let owner' = rehomed r.owner id other (length v.turns) in
      let here : get_elem? vs' id ≡ some b = set_else vs other id spent_view (λ e. apart (sym e)) ∙ set_here s.views id b (in_range s.views id v at) in
      let first : (n : ℕ) → (r.owner n).0 ≡ other → Path (ℕ × ℕ) (owner' n) (id, length v.turns + (r.owner n).1) = λ n e. rehomed_here r.owner id other (length v.turns) n (r.owner n).1 (λ i. (e i, (r.owner n).1)) in
      let rest : (n : ℕ) → (r.owner n).0 ≢ other → Path (ℕ × ℕ) (owner' n) (r.owner n) = λ n ne. rehomed_else r.owner id other (length v.turns) n ne in
      let stays : (j : ℕ) (u : View C E) → get_elem? s.views j ≡ some u → j ≢ other → (u' : View C E) × (get_elem? vs' j ≡ some u') × (((j ≡ id) × Path (View C E) u v × Path (View C E) u' b) ⊎ ((j ≢ id) × Path (View C E) u' u)) =
      λ j u e ne. let a = after_set s.views id v b at j u e in (a.0, set_else vs other j spent_view ne ∙ a.1, a.2) in
      reviewed s r vs' owner'
      (λ n h. let o = r.owned n h in elim (ℕ_discrete (r.owner n).0 other) [
        | yes e ↦ let is : Path (View C E) o.0 w = some-injective o.0 w (sym o.2 ∙ ap (get_elem? s.views) e ∙ old') in let to = first n e in (
          b,
          o.1,
          ap (λ (z : ℕ × ℕ). get_elem? vs' z.0) to ∙ here,
          ap (λ (z : ℕ × ℕ). get_elem? b.turns z.1) to ∙ at_second v.turns w.turns (r.owner n).1 ∙ sym (ap (λ (z : View C E). get_elem? z.turns (r.owner n).1) is) ∙ o.3,
          o.4,
        )
        | no ne ↦ let a = stays (r.owner n).0 o.0 o.2 ne in let to = rest n ne in (
          a.0,
          o.1,
          ap (λ (z : ℕ × ℕ). get_elem? vs' z.0) to ∙ a.1,
          ap (λ (z : ℕ × ℕ). get_elem? a.0.turns z.1) to ∙ ⊎_elim
              (λ t. ap (λ (z : View C E). get_elem? z.turns (r.owner n).1) t.2 ∙ at_longer v.turns w.turns (r.owner n).1 o.1 (sym (ap (λ (z : View C E). get_elem? z.turns (r.owner n).1) t.1) ∙ o.3))
              (λ t. ap (λ (z : View C E). get_elem? z.turns (r.owner n).1) t.1 ∙ o.3) a.2,
          o.4,
        )
      ])
      (let a = total-set drawn s.views id v b at in let a' = total-set drawn vs other w spent_view at' in let d : total drawn s.views ≡ length r.log = r.all_drawn in let e : length b.turns ≡ length v.turns + length w.turns = length-append v.turns w.turns in omega arith)
      (let a = total-set hands_stood_for s.views id v b at in let a' = total-set hands_stood_for vs other w spent_view at' in let d = r.all_stand in let e : hands_stood_for b ≡ hands_stood_for v + hands_stood_for w = length-append v.stands_for w.stands_for in omega arith)
      (join_names s.views id other v w hands at old' apart r.apart)
      (λ j k u c e e'. let ne : j ≢ other = λ z. none_held k c (sym (ap (λ (z : View C E). get_elem? z.held k) (some-injective u w (sym e ∙ ap (get_elem? s.views) z ∙ old'))) ∙ e') in let a = stays j u e ne in
      (a.0, a.1, ⊎_elim (λ t. ap (λ (z : View C E). get_elem? z.held k) t.2 ∙ sym (ap (λ (z : View C E). get_elem? z.held k) t.1) ∙ e') (λ t. ap (λ (z : View C E). get_elem? z.held k) t.1 ∙ e') a.2))
      (λ j u e. ⊎_elim
      (λ t. subst (ViewOk opening hands r.now r.log r.keeper owner' j) t.1 record {
        knows = λ m. absurd (omega arith);
        holds = λ k c e. absurd (some-ne-none (Some c) (sym e));
        drew = λ k t e. absurd (some-ne-none t (sym e));
        few = omega arith;
      })
      (λ t. let ne : j ≢ other = t.0 in ⊎_elim
      (λ z. subst (ViewOk opening hands r.now r.log r.keeper owner' j) z.1 (subst (λ (k : ℕ). ViewOk opening hands r.now r.log r.keeper owner' k b) (sym z.0) record {
        knows = λ m. ok.knows may;
        holds = λ k c e. let h = ok.holds k c e in (h.0, h.1, (let e : hands_stood_for b ≡ hands_stood_for v + hands_stood_for w = length-append v.stands_for w.stands_for in let g : 0 < hands_stood_for b = omega arith in g));
        drew = λ k t' e. ⊎_elim (λ a. let d = ok.drew k t' a in (d.0, rest t'.number (λ z. apart (sym z ∙ ap (λ (z : ℕ × ℕ). z.0) d.1)) ∙ d.1))
            (λ a. let d = ok'.drew a.0 t' a.2 in (d.0, rehomed_here r.owner id other (length v.turns) t'.number a.0 d.1 ∙ ap (λ (m : ℕ). (id, m)) (sym a.1))) (at_either v.turns w.turns k t' e);
        few = let e : hands_stood_for b ≡ hands_stood_for v + hands_stood_for w = length-append v.stands_for w.stands_for in let a : length v.turns ≤ 2 ^ 59 * hands_stood_for v = ok.few in let a' : length w.turns ≤ 2 ^ 59 * hands_stood_for w = ok'.few in let c : length b.turns ≡ length v.turns + length w.turns = length-append v.turns w.turns in
            let g : length b.turns ≤ 2 ^ 59 * hands_stood_for b = omega arith in g;
      }))
      (λ z. let o = r.each_view j u z.1 in record {
        knows = o.knows;
        holds = o.holds;
        drew = λ k t' e. let d = o.drew k t' e in (d.0, rest t'.number (λ z'. ne (sym (ap (λ (z : ℕ × ℕ). z.0) d.1) ∙ z')) ∙ d.1);
        few = o.few;
      }) (at_set s.views id j b u t.1)) (at_set vs other j spent_view u e))
