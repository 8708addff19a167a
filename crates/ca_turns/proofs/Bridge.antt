-- The one-history rule and the rule with its witnesses are the same, so a step that keeps the one keeps the other.
use Rattle.std.proofs.Common.{◌≡◌, ℕ, zero, suc, ◌<◌, ◌⊎◌, List, length, sym, refl, ap, ap₂, ◌∙◌, subst, inl, inr, arith}
use mathlib.Core.Path.{Path}
use mathlib.Core.Option.{some, some-injective, some-ne-none}
use native.Mathlib.Decide.{dec_lt}
use lib.ListN.{get_elem?}
use Rattle.std.specs.Prelude.{Option, Some, slice_index}
use Rattle.atomic_table.specs.Table.{State, Me, Allows, Splits, Joins, stepped}
use Rattle.ca_turns.specs.declared.rule.Turn.{Turn}
use Rattle.ca_turns.specs.declared.rule.View.{View}
use Rattle.ca_turns.specs.Places.{IsDistinct}
use Rattle.ca_turns.specs.OneHistory.{OneHistory, HandOk, IsTurnAt, IsDrawn, HandHas, LastLeft, IsPartFree, IsPartHeld, event_word}
use Rattle.ca_turns.specs.Steps.{IsOneRun}
use Rattle.ca_turns.proofs.Lists.{in_range, there_is, zero_suc, suc-injective}
use Rattle.ca_turns.proofs.Runs.{last_in}
use Rattle.ca_turns.proofs.Ruled.{Ruled, Kept}
use Rattle.ca_turns.proofs.Lasts.{drawn_is, logged, before_is, each_moves, inside, one_place, at_number, none_above, now_is}
use Rattle.ca_turns.proofs.Law.{History, one_last, last_of, law}

module _ {P C E : Type 0} (content : P → C) (touches : E → List ℕ) (moves : E → List C → List C → Type 0) (opening : List C) (hands : ℕ) where
  abbrev St : Type 0
  St = State (Option P) (View C E)

  abbrev Rule : St → Type 0
  Rule = Ruled content touches moves opening hands

  abbrev pub Literal : St → Type 0
  Literal = OneHistory content touches moves opening hands

  home_now : (s : St) (r : Rule s) (i : ℕ) (x : P) → get_elem? s.homes i ≡ some (some (Some x)) → (q : ℕ) → Kept content s.words s.homes s.views r.now i q → get_elem? r.now i ≡ some (content x)
  home_now s r i x e zero kept = kept.1.2 ∙ ap (λ y. some (content y)) (same kept.1.0 (sym kept.1.1 ∙ e))
    where
      same : (y : P) → some (some (Some y)) ≡ some (some (Some x)) → y ≡ x
      same y e = cc
  home_now s r i x e (suc j) kept = absurd (some-ne-none (Some x) (some-injective _ _ (sym e ∙ kept.2)))

  pub at_home : (s : St) (r : Rule s) (i : ℕ) (x : P) → get_elem? s.homes i ≡ some (some (Some x)) → get_elem? r.now i ≡ some (content x)
  at_home s r i x e = home_now s r i x e (r.keeper i) (r.each_part i (in_range s.homes i (some (Some x)) e))

  free_or_held : (s : St) (r : Rule s) (i q : ℕ) → r.keeper i ≡ q → Kept content s.words s.homes s.views r.now i q → IsPartFree s i ⊎ IsPartHeld s i
  free_or_held s r i zero e kept = inl (kept.0, (λ j c x. zero_suc j (sym e ∙ ((r.each_view j x.0 x.1).holds i c x.2).0)), (kept.1.0, kept.1.1))
  free_or_held s r i (suc j) e kept = inr (kept.0, (j, kept.1.1, (kept.1.0, kept.1.2, kept.1.3)), kept.2)

  pub literal : (s : St) → Rule s → Literal s
  literal s r = record {
    wide = r.wide;
    as_many = r.as_many;
    each_number = λ n h. at_number content touches moves opening hands s r n (subst (λ m. n < m) r.count h);
    once = one_place content touches moves opening hands s r;
    no_other = λ t d. subst (λ m. t.number < m) (sym r.count) (none_above content touches moves opening hands s r t d);
    all_turns = r.all_drawn ∙ sym r.count;
    moved = each_moves content touches moves opening hands s r;
    inside = inside content touches moves opening hands s r;
    shown = before_is content touches moves opening hands s r;
    each_part = λ i h. free_or_held s r i (r.keeper i) refl (r.each_part i h);
    one_holder = λ i j k c d x y. suc-injective (sym ((r.each_view j x.0 x.1).holds i c x.2).0 ∙ ((r.each_view k y.0 y.1).holds i d y.2).0);
    each_hand = λ j v e. let o = r.each_view j v e in record { knows = o.knows; has = λ i c e. (o.holds i c e).2; few = o.few };
    apart = r.apart;
    together = r.all_stand;
    at_most = r.at_most;
    at_home = λ i x e. subst (λ n. LastLeft s.views touches opening n i (content x)) (sym r.count) (now_is content touches moves opening hands s r i (content x) (at_home s r i x e));
    settled = λ i j c x. subst (λ n. LastLeft s.views touches opening n i c) (sym r.count) (now_is content touches moves opening hands s r i c ((r.each_view j x.0 x.1).holds i c x.2).1);
  }

  module _ (apart : (e : E) → IsDistinct (touches e)) where
    module _ (s : St) (r : Literal s) where
      one : (t u : Turn C E) → IsDrawn s.views t → IsDrawn s.views u → t.number ≡ u.number → Path (Turn C E) t u
      one t u d d' n = let p = r.once d.0 d.1 d'.0 d'.1 t u (d.2, d.3, d.4) (d'.2, d'.3, d'.4) n in
          some-injective t u (sym d.4 ∙ ap₂ (λ (z : View C E) k. get_elem? z.turns k) (some-injective d.2 d'.2 (sym d.3 ∙ ap (get_elem? s.views) p.0 ∙ d'.3)) p.1 ∙ d'.4)

      history : History touches moves opening (IsDrawn s.views) (event_word s)
      history = law touches moves opening (IsDrawn s.views) one apart (event_word s) r.each_number r.moved r.inside r.shown (event_word s) (omega arith)

      stands_at : (h : History touches moves opening (IsDrawn s.views) (event_word s)) (t : Turn C E) → IsDrawn s.views t → get_elem? h.0 t.number ≡ some t
      stands_at h t d = let x = there_is h.0 t.number (subst (λ n. t.number < n) (sym h.3) (r.no_other t d)) in let f = h.5 t.number x.0 x.1 in x.1 ∙ ap some (one x.0 t f.0 d f.1)

      content_now : (h : History touches moves opening (IsDrawn s.views) (event_word s)) (i : ℕ) (c : C) → i < length s.homes → LastLeft s.views touches opening (event_word s) i c → get_elem? h.1 i ≡ some c
      content_now h i c near l = let x = there_is h.1 i (let a : length h.1 ≡ length opening = h.4 in let b : length opening ≡ length s.homes = r.as_many in omega arith) in
          x.1 ∙ ap some (one_last touches moves opening (IsDrawn s.views) one apart (event_word s) i x.0 c (last_of touches moves opening (IsDrawn s.views) one apart (event_word s) r.each_number r.moved r.inside r.shown (event_word s) h i x.0 x.1) l)

      abbrev holder : (i : ℕ) → IsPartFree s i ⊎ IsPartHeld s i → ℕ
      holder i (inl f) = 0
      holder i (inr h) = suc h.1.0

      abbrev keeper_by : (i : ℕ) → Dec (i < length s.homes) → ℕ
      keeper_by i (yes h) = holder i (r.each_part i h)
      keeper_by i (no n) = 0

      abbrev owner_by : (n : ℕ) → Dec (n < event_word s) → ℕ × ℕ
      owner_by n (yes h) = let x = r.each_number n h in (x.1.0, x.1.1)
      owner_by n (no ne) = (0, 0)

      kept_by : (now : List C) → ((i : ℕ) (c : C) → i < length s.homes → LastLeft s.views touches opening (event_word s) i c → get_elem? now i ≡ some c) → (i : ℕ) → i < length s.homes → (p : IsPartFree s i ⊎ IsPartHeld s i) → Kept content s.words s.homes s.views now i (holder i p)
      kept_by now shows i h (inl f) = (f.0, (f.2.0, f.2.1, shows i (content f.2.0) h (r.at_home i f.2.0 f.2.1)))
      kept_by now shows i h (inr f) = (f.0, (f.1.2.0, f.1.1, f.1.2.1, f.1.2.2), f.2)

      each_kept : (now : List C) → ((i : ℕ) (c : C) → i < length s.homes → LastLeft s.views touches opening (event_word s) i c → get_elem? now i ≡ some c) → (i : ℕ) → i < length s.homes → (d : Dec (i < length s.homes)) → Kept content s.words s.homes s.views now i (keeper_by i d)
      each_kept now shows i h (yes h') = kept_by now shows i h' (r.each_part i h')
      each_kept now shows i h (no n) = absurd (n h)

      holder_is : (i j : ℕ) (c : C) → HandHas s.views j i c → (p : IsPartFree s i ⊎ IsPartHeld s i) → holder i p ≡ suc j
      holder_is i j c has (inl f) = absurd (f.1 j c has)
      holder_is i j c has (inr h) = ap suc (r.one_holder i h.1.0 j h.1.1 c h.1.2 has)

      keeper_is : (i j : ℕ) (c : C) → i < length s.homes → HandHas s.views j i c → (d : Dec (i < length s.homes)) → keeper_by i d ≡ suc j
      keeper_is i j c h has (yes h') = holder_is i j c has (r.each_part i h')
      keeper_is i j c h has (no n) = absurd (n h)

      owner_at : (n : ℕ) → n < event_word s → (d : Dec (n < event_word s)) → (v : View C E) × (t : Turn C E) × (get_elem? s.views (owner_by n d).0 ≡ some v) × (get_elem? v.turns (owner_by n d).1 ≡ some t) × (t.number ≡ n)
      owner_at n h (yes h') = let x = r.each_number n h' in (x.1.2, x.0, x.1.3, x.1.4, x.2)
      owner_at n h (no ne) = absurd (ne h)

      owner_is : (j k : ℕ) (t : Turn C E) → IsTurnAt s.views j k t → (d : Dec (t.number < event_word s)) → Path (ℕ × ℕ) (owner_by t.number d) (j, k)
      owner_is j k t is (yes h) = let x = r.each_number t.number h in let p = r.once x.1.0 x.1.1 j k x.0 t (x.1.2, x.1.3, x.1.4) is x.2 in λ i. (p.0 i, p.1 i)
      owner_is j k t is (no ne) = absurd (ne (r.no_other t (j, k, is.0, is.1, is.2)))

      near_held : (j i : ℕ) (v : View C E) (c : C) → HandOk opening hands v → get_elem? v.held i ≡ some (Some c) → i < length s.homes
      near_held j i v c ok e = let a : i < length v.held = in_range v.held i (Some c) e in let b : length v.held ≡ length opening = (ok.knows (ok.has i c e)).2 in let d : length opening ≡ length s.homes = r.as_many in omega arith

      pub ruled : Rule s
      ruled = let h = history in record {
        log = h.0;
        now = h.1;
        keeper = λ i. keeper_by i (dec_lt i (length s.homes));
        owner = λ n. owner_by n (dec_lt n (event_word s));
        wide = r.wide;
        as_long = h.4 ∙ r.as_many;
        as_many = r.as_many;
        at_most = r.at_most;
        count = sym h.3;
        runs = h.2;
        owned = λ n l. owner_at n (subst (λ m. n < m) h.3 l) (dec_lt n (event_word s));
        all_drawn = r.all_turns ∙ sym h.3;
        all_stand = r.together;
        apart = r.apart;
        each_part = λ i l. each_kept h.1 (content_now h) i l (dec_lt i (length s.homes));
        each_view = λ j v e. let ok = r.each_hand j v e in record {
          knows = ok.knows;
          holds = λ i c f. let near = near_held j i v c ok f in (keeper_is i j c near (v, e, f) (dec_lt i (length s.homes)), content_now h i c near (r.settled i j c (v, e, f)), ok.has i c f);
          drew = λ k t f. (stands_at h t (j, k, v, e, f), owner_is j k t (v, e, f) (dec_lt t.number (event_word s)));
          few = ok.few;
        };
      }

    pub one_run : (s : St) → Literal s → (log : List (Turn C E)) × (now : List C) × IsOneRun content touches moves opening s log now
    one_run s r = let q = ruled s r in (
      q.log,
      q.now,
      record {
        run = q.runs;
        numbered = λ n t e. (logged content touches moves opening hands s q n t e).0;
        long = sym q.count;
        each = drawn_is content touches moves opening hands s q;
        no_other = λ n t e. (logged content touches moves opening hands s q n t e).1;
        at_home = λ i x e. let a = at_home s q i x e in (a, last_in touches moves opening q.log q.now q.runs i (content x) a);
        settled = λ i j c x. let a = ((q.each_view j x.0 x.1).holds i c x.2).1 in (a, last_in touches moves opening q.log q.now q.runs i c a);
      },
    )

    pub through : (n id : ℕ) (me : Me (Option P) (View C E)) (i : ℕ) (f : ℕ → ℕ) (then : ℕ → Me (Option P) (View C E) → Type 0) → Allows Rule n id me i f then → Allows Literal n id me i f then
    through n id me i f then go s r wide at small = let x = go s (ruled s r) wide at small in (x.0, x.1, x.2, literal (stepped s i (f (slice_index s.words i)) id me.1 x.0 x.1) x.3, x.4)

    pub through_split : (id : ℕ) (v left right : View C E) → Splits Rule id v left right → Splits Literal id v left right
    through_split id v left right go s r at = literal _ (go s (ruled s r) at)

    pub through_join : (id : ℕ) (v : View C E) (other : ℕ) (w both spent : View C E) → Joins Rule id v other w both spent → Joins Literal id v other w both spent
    through_join id v other w both spent go s r at apart' at' = literal _ (go s (ruled s r) at apart' at')
