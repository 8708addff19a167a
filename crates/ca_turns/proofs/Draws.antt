-- A draw keeps the rule.
use Rattle.std.proofs.Common.{◌≡◌, ℕ, zero, suc, ◌+◌, ◌*◌, ◌^◌, ◌%◌, ◌<◌, ◌≤◌, ◌≢◌, List, [], ◌∷◌, ◌++◌, map, length, get_or, set, sym, refl, ap, ap₂, ◌∙◌, subst, ⊎_elim, arith, length-set, length-append, get_or-set_other, get_or-set_same, mod-eq_of_lt, mul-le-mul_left}
use mathlib.Core.Option.{none, some}
use mathlib.Core.Option as maybe
use native.Mathlib.Decide.{ℕ_discrete}
use lib.ListN.{get_elem?}
use lib.Seq.{set-get_or}
use Rattle.std.specs.Prelude.{Option, Some}
use Rattle.atomic_table.specs.Table.{State, Me, step, keeps, Allows}
use Rattle.atomic_table.proofs.Lists.{at_set, set_again, set_here, at_longer, at_last}
use Rattle.ca_turns.specs.declared.rule.View.{View}
use Rattle.ca_turns.specs.declared.rule.Turn.{Turn}
use Rattle.ca_turns.specs.Places.{ReadsPlaces, write, total}
use Rattle.ca_turns.specs.Views.{new_turn, drawing, drawn, hands_stood_for}
use Rattle.ca_turns.specs.Steps.{drew, told_short}
use Rattle.ca_turns.proofs.Lists.{put, put_here, put_else, after_set, in_range, at_snoc, total-set, total-le, one_of, zero_suc, suc-injective}
use Rattle.ca_turns.proofs.Runs.{all_in, length-write, write_else, reads_now, reads_all, held_after, both_written, still_held, one_more}
use Rattle.ca_turns.proofs.Ruled.{Ruled, ViewOk, Kept}
use Rattle.ca_turns.proofs.Parts.{same_names}

module _ {P C E : Type 0} (content : P → C) where
  part_stays : (words words' : List ℕ) (homes : List (maybe.Option (Option P))) (views views' : List (View C E)) (now now' : List C) (k : ℕ) → get_or words' (k + 1) 0 ≡ get_or words (k + 1) 0
      → ((j : ℕ) (v : View C E) (c : C) → get_elem? views j ≡ some v → get_elem? v.held k ≡ some (Some c) → (v' : View C E) × (c' : C) × (get_elem? views' j ≡ some v') × (get_elem? v'.held k ≡ some (Some c')))
      → (q : ℕ) → (q ≡ 0 → get_elem? now' k ≡ get_elem? now k) → Kept content words homes views now k q → Kept content words' homes views' now' k q
  part_stays words words' homes views views' now now' k word held zero same kept = (word ∙ kept.0, (kept.1.0, kept.1.1, same refl ∙ kept.1.2))
  part_stays words words' homes views views' now now' k word held (suc j) same kept = let h = held j kept.1.0 kept.1.1 kept.1.2 kept.1.3 in (word ∙ kept.0, (h.0, h.1, h.2, h.3), kept.2)

module _ {P C E : Type 0} (content : P → C) (touches : E → List ℕ) (moves : E → List C → List C → Type 0) (opening : List C) (hands : ℕ) where
  abbrev St : Type 0
  St = State (Option P) (View C E)

  abbrev M : Type 0
  M = Me (Option P) (View C E)

  abbrev Rule : St → Type 0
  Rule = Ruled content touches moves opening hands

  -- the word does not wrap
  pub few_drawn : (s : St) (r : Rule s) → length r.log ≤ 2 ^ 63
  few_drawn s r = let a = total-le drawn hands_stood_for (2 ^ 59) s.views (λ j v e. (r.each_view j v e).few) in let b : total drawn s.views ≡ length r.log = r.all_drawn in let c : total hands_stood_for s.views ≡ hands = r.all_stand in let d : hands ≤ 16 = r.at_most in
      let a' : total drawn s.views ≤ 2 ^ 59 * total hands_stood_for s.views = a in omega arith

  drawn_at : (s : St) (r : Rule s) (id : ℕ) (v : View C E) (t : Turn C E) → get_elem? s.views id ≡ some v → t.number ≡ length r.log → ReadsPlaces v.held (touches t.event) (map Some t.before) → moves t.event t.before t.after → length t.after ≡ length (touches t.event)
      → length v.turns < 2 ^ 59 → 0 < hands_stood_for v → (n : ℕ) → n ≡ length r.log + 1 → Rule record { words = set s.words 0 n; homes = s.homes; views = set s.views id (drawing v (touches t.event) t) }
  drawn_at s r id v t at num reads goes fits room may n more =
      let ok = r.each_view id v at in let is : List ℕ = touches t.event in let w : View C E = drawing v is t in let y : ℕ = length r.log in let words' = set s.words 0 n in let views' = set s.views id w in let now' = write r.now is t.after in let log' = r.log ++ t ∷ [] in
      let owner' = put r.owner y (id, length v.turns) in let mine = reads_all (λ k. r.keeper k ≡ suc id) v.held (λ k c e. (ok.holds k c e).0) is t.before reads in let long : length s.words ≡ length s.homes + 1 = r.wide in
      let apart : (k q : ℕ) → r.keeper k ≡ q → q ≢ suc id → get_elem? now' k ≡ get_elem? r.now k = λ k q e ne. write_else r.now is t.after k (all_in (λ m. r.keeper m ≡ suc id) (λ m. k ≢ m) (λ m h e'. ne (sym e ∙ ap r.keeper e' ∙ h)) is mine) in
      let fewer : length w.turns ≡ length v.turns + 1 = length-append v.turns (t ∷ []) in record {
        log = log';
        now = now';
        keeper = r.keeper;
        owner = owner';
        wide = length-set s.words 0 n ∙ r.wide;
        as_long = length-write r.now is t.after ∙ r.as_long;
        as_many = r.as_many;
        at_most = r.at_most;
        count = get_or-set_same s.words 0 n 0 (omega arith) ∙ more ∙ sym (length-append r.log (t ∷ []));
        runs = one_more touches moves opening r.log t r.now r.runs (reads_now v.held r.now (λ k c e. (ok.holds k c e).1) is t.before reads, goes, fits);
        owned = λ m h. elim (ℕ_discrete m y) [
          | yes e ↦ let o = put_here r.owner y (id, length v.turns) in let o' : owner' m ≡ (id, length v.turns) = ap owner' e ∙ o in (
            w,
            t,
            ap (λ (z : ℕ × ℕ). get_elem? views' z.0) o' ∙ set_here s.views id w (in_range s.views id v at),
            ap (λ (z : ℕ × ℕ). get_elem? w.turns z.1) o' ∙ at_last v.turns t (length v.turns) refl,
            num ∙ sym e,
          )
          | no ne ↦ let o' : owner' m ≡ r.owner m = put_else r.owner y m (id, length v.turns) ne in let more' : length log' ≡ length r.log + 1 = length-append r.log (t ∷ []) in
              let o = r.owned m (let h' : m < length log' = h in omega arith) in let a = after_set s.views id v w at (r.owner m).0 o.0 o.2 in (
                a.0,
                o.1,
                ap (λ (z : ℕ × ℕ). get_elem? views' z.0) o' ∙ a.1,
                ap (λ (z : ℕ × ℕ). get_elem? a.0.turns z.1) o' ∙ ⊎_elim (λ b. ap (λ (z : View C E). get_elem? z.turns (r.owner m).1) b.2 ∙ at_longer v.turns (t ∷ []) (r.owner m).1 o.1 (sym (ap (λ (z : View C E). get_elem? z.turns (r.owner m).1) b.1) ∙ o.3))
                    (λ b. ap (λ (z : View C E). get_elem? z.turns (r.owner m).1) b.1 ∙ o.3) a.2,
                o.4,
              )
        ];
        all_drawn = let a = total-set drawn s.views id v w at in let b : total drawn s.views ≡ length r.log = r.all_drawn in let c : length log' ≡ length r.log + 1 = length-append r.log (t ∷ []) in omega arith;
        all_stand = let a = total-set hands_stood_for s.views id v w at in let b = r.all_stand in omega arith;
        apart = same_names s.views id v w hands at refl r.apart;
        each_part = λ k h. part_stays content s.words words' s.homes s.views views' r.now now' k (get_or-set_other s.words 0 (k + 1) n 0 (λ e. omega arith))
            (λ j u c e e'. let a = after_set s.views id v w at j u e in ⊎_elim
            (λ b. let h = still_held v.held is t.after k c (sym (ap (λ (z : View C E). get_elem? z.held k) b.1) ∙ e') in (w, h.0, a.1 ∙ ap some b.2, h.1))
            (λ b. (u, c, a.1 ∙ ap some b.1, e')) a.2)
            (r.keeper k) (λ z. apart k 0 z (zero_suc id)) (r.each_part k h);
        each_view = λ j u e. ⊎_elim
            (λ b. subst (ViewOk opening hands now' log' r.keeper owner' j) b.1 (subst (λ (k : ℕ). ViewOk opening hands now' log' r.keeper owner' k w) (sym b.0) record {
              knows = λ m. let kn = ok.knows m in (kn.0, kn.1, length-write v.held is (map Some t.after) ∙ kn.2);
              holds = λ k c e. (
                held_after (λ k. r.keeper k ≡ suc id) v.held (λ k c e. (ok.holds k c e).0) is t.after mine k c e,
                both_written v.held r.now ((ok.knows may).2 ∙ r.as_many ∙ sym r.as_long) (λ k c e. (ok.holds k c e).1) is t.after k c e,
                may,
              );
              drew = λ k t' e. ⊎_elim
                  (λ old. let d = ok.drew k t' old in let inside : t'.number < y = in_range r.log t'.number t' d.0 in (at_longer r.log (t ∷ []) t'.number t' d.0, put_else r.owner y t'.number (id, length v.turns) (λ z. omega arith) ∙ d.1))
                  (λ new. let is' : t'.number ≡ y = sym (ap (λ (z : Turn C E). z.number) new.1) ∙ num in (
                    ap (λ m. get_elem? log' m) is' ∙ at_last r.log t y refl ∙ ap some new.1,
                    ap owner' is' ∙ put_here r.owner y (id, length v.turns) ∙ ap (λ (m : ℕ). (id, m)) (sym new.0),
                  )) (at_snoc v.turns t t' k e);
              few = let a : 2 ^ 59 * 1 ≤ 2 ^ 59 * hands_stood_for v = mul-le-mul_left (2 ^ 59) may in let b : length w.turns ≡ length v.turns + 1 = fewer in let c : length w.turns ≤ 2 ^ 59 * hands_stood_for v = omega arith in c;
            }))
            (λ b. let ok' = r.each_view j u b.1 in record {
              knows = ok'.knows;
              holds = λ k c e. let h = ok'.holds k c e in (h.0, apart k (suc j) h.0 (λ e. b.0 (suc-injective e)) ∙ h.1, h.2);
              drew = λ k t' e. let d = ok'.drew k t' e in let inside : t'.number < y = in_range r.log t'.number t' d.0 in (at_longer r.log (t ∷ []) t'.number t' d.0, put_else r.owner y t'.number (id, length v.turns) (λ z. omega arith) ∙ d.1);
              few = ok'.few;
            }) (at_set s.views id j w u e);
      }

  pub draws : (n id : ℕ) (me : M) (t : Turn C E) (ts : List (Turn C E)) → ts ≡ t ∷ [] → ReadsPlaces me.0.held (touches t.event) (map Some t.before) → moves t.event t.before t.after → length t.after ≡ length (touches t.event) → length me.0.turns < 2 ^ 59 → 0 < hands_stood_for me.0
      → Allows Rule n id me 0 (λ y. (y + 1) % 2 ^ 64) (drew touches ts (step n 0 1 0 none) me)
  draws n id me t ts one reads goes fits room may s r wide at _ = let y : ℕ = get_or s.words 0 0 in let few : length r.log ≤ 2 ^ 63 = few_drawn s r in let is : y ≡ length r.log = r.count in
      let t' : Turn C E = new_turn y t.event t.before t.after in let w : View C E = drawing me.0 (touches t.event) t' in let next : (y + 1) % 2 ^ 64 ≡ y + 1 = mod-eq_of_lt (omega arith) in (
        w,
        keeps,
        tt,
        drawn_at s r id me.0 t' at is reads goes fits room may ((y + 1) % 2 ^ 64) (next ∙ ap (λ k. k + 1) is),
        subst (λ ts. drew touches ts (step n 0 1 0 none) me y (w, me.1)) (sym one) (refl, refl, λ k u e. let d = (r.each_view id me.0 at).drew k u e in let inside : u.number < length r.log = in_range r.log u.number u d.0 in let g : u.number < y = omega arith in g),
      )

  pub looks : (n id : ℕ) (me : M) → Allows Rule n id me 0 (λ y. y) (told_short (step n 0 0 0 none) me)
  looks n id me s r wide at _ = let few : length r.log ≤ 2 ^ 63 = few_drawn s r in let one : drawn me.0 ≤ total drawn s.views = one_of drawn s.views id me.0 at in let all : total drawn s.views ≡ length r.log = r.all_drawn in
      let short : length me.0.turns ≤ 2 ^ 63 = omega arith in (
        me.0,
        keeps,
        tt,
        subst Rule (sym (ap₂ (λ ws vs. record { words = ws; homes = s.homes; views = vs }) (set-get_or s.words 0 0) (set_again s.views id me.0 at))) r,
        (refl, short),
      )
