-- Steps on the word of a part keep the rule.
use Rattle.std.proofs.Common.{◌≡◌, ℕ, zero, suc, ◌+◌, ◌-◌, ◌*◌, ◌^◌, ◌<◌, ◌≤◌, eqb, ◌≢◌, List, ◌∷◌, length, get_or, set, sym, refl, ap, ap₂, ◌∙◌, subst, ⊎_elim, arith, length-set, get_or-set_other, get_or-set_same}
use mathlib.Core.Path.{Path}
use mathlib.Core.Option.{none, some, some-injective, some-ne-none}
use native.Mathlib.Decide.{ℕ_discrete}
use mathlib.Core.Option as maybe
use lib.ListN.{get_elem?}
use prog.Atomic.{either}
use Rattle.std.specs.Prelude.{Option, Some, None}
use Rattle.atomic_table.specs.Table.{State, Me, Act, step, keeps, takes, gives, rest, put_back, Valid, carried_after, stepped, Allows}
use Rattle.atomic_table.proofs.Lists.{at_set, set_here, set_else, exchanged}
use Rattle.ca_turns.specs.declared.rule.View.{View}
use Rattle.ca_turns.specs.declared.rule.Turn.{Turn}
use Rattle.ca_turns.specs.Places.{total}
use Rattle.ca_turns.specs.History.{Run, Replay}
use Rattle.ca_turns.specs.Views.{drawn, hands_stood_for, holding, missing_part}
use Rattle.ca_turns.specs.OneHistory.{HandStandsFor, StandApart}
use Rattle.ca_turns.specs.Steps.{IsWhole, Sees, tried, freed}
use Rattle.ca_turns.proofs.Lists.{put, at_put, after_set, in_range, set_at, total-set, two_of, one_of, total_but, zero_suc, suc-injective, both_some, none_some}
use Rattle.ca_turns.proofs.Runs.{last_in}
use Rattle.ca_turns.proofs.Ruled.{Ruled, ViewOk, Kept}

-- views that name the hands that they stand for at other places, each at one
pub named_by : {C E : Type 0} (views views' : List (View C E)) (hands : ℕ) (f : ℕ → ℕ → ℕ × ℕ) → ((j k h : ℕ) → HandStandsFor views' j k h → (i a : ℕ) × HandStandsFor views i a h × Path (ℕ × ℕ) (f i a) (j, k)) → StandApart views hands → StandApart views' hands
named_by views views' hands f back (among, once) = (
  (λ j k h n. let b = back j k h n in among b.0 b.1 h b.2),
  (λ i a j b h n m. let x = back i a h n in let y = back j b h m in let e = once x.0 x.1 y.0 y.1 h x.2 y.2 in let p : Path (ℕ × ℕ) (i, a) (j, b) = sym x.3 ∙ ap₂ f e.0 e.1 ∙ y.3 in (ap (λ (z : ℕ × ℕ). z.0) p, ap (λ (z : ℕ × ℕ). z.1) p)),
)

-- a view that stands for the same hands takes the place of another
pub same_names : {C E : Type 0} (views : List (View C E)) (id : ℕ) (v w : View C E) (hands : ℕ) → get_elem? views id ≡ some v → w.stands_for ≡ v.stands_for → StandApart views hands → StandApart (set views id w) hands
same_names views id v w hands at same = named_by views (set views id w) hands (λ j k. (j, k)) (λ j k h n. (
  j,
  k,
  ⊎_elim (λ t. (v, ap (get_elem? views) t.0 ∙ at, ap (λ l. get_elem? l k) (sym same) ∙ ap (λ (z : View _ _). get_elem? z.stands_for k) t.1 ∙ n.2)) (λ t. (n.0, t.1, n.2)) (at_set views id j w n.0 n.1),
  refl,
))

module _ {P C E : Type 0} (content : P → C) where
  -- another part's word, slot and holder stay
  pub kept_else : (words words' : List ℕ) (homes homes' : List (maybe.Option (Option P))) (views views' : List (View C E)) (now : List C) (k : ℕ) → get_or words' (k + 1) 0 ≡ get_or words (k + 1) 0
      → get_elem? homes' k ≡ get_elem? homes k → ((j : ℕ) (v : View C E) (c : C) → get_elem? views j ≡ some v → get_elem? v.held k ≡ some (Some c) → (v' : View C E) × (get_elem? views' j ≡ some v') × (get_elem? v'.held k ≡ some (Some c)))
      → (q : ℕ) → Kept content words homes views now k q → Kept content words' homes' views' now k q
  kept_else words words' homes homes' views views' now k word home held zero kept = (word ∙ kept.0, (kept.1.0, home ∙ kept.1.1, kept.1.2))
  kept_else words words' homes homes' views views' now k word home held (suc j) kept = let h = held j kept.1.0 kept.1.1 kept.1.2 kept.1.3 in (word ∙ kept.0, (h.0, kept.1.1, h.1, h.2), home ∙ kept.2)

  -- a part whose word is 0 is at home
  pub free_of : (words : List ℕ) (homes : List (maybe.Option (Option P))) (views : List (View C E)) (now : List C) (i q : ℕ) → Kept content words homes views now i q → get_or words (i + 1) 0 ≡ 0
      → (q ≡ 0) × ((x : P) × (get_elem? homes i ≡ some (some (Some x))) × (get_elem? now i ≡ some (content x)))
  free_of words homes views now i zero kept is = (refl, kept.1)
  free_of words homes views now i (suc j) kept is = absurd (let a : get_or words (i + 1) 0 ≡ 1 = kept.0 in omega arith)

  -- a part whose word is not 0 is held
  pub held_by : (words : List ℕ) (homes : List (maybe.Option (Option P))) (views : List (View C E)) (now : List C) (i q : ℕ) → Kept content words homes views now i q → get_or words (i + 1) 0 ≢ 0
      → (j : ℕ) × (v : View C E) × (c : C) × (get_elem? views j ≡ some v) × (get_elem? v.held i ≡ some (Some c))
  held_by words homes views now i zero kept ne = absurd (ne kept.0)
  held_by words homes views now i (suc j) kept ne = (j, kept.1.0, kept.1.1, kept.1.2, kept.1.3)

module _ {P C E : Type 0} (content : P → C) (touches : E → List ℕ) (moves : E → List C → List C → Type 0) (opening : List C) (hands : ℕ) where
  abbrev St : Type 0
  St = State (Option P) (View C E)

  abbrev M : Type 0
  M = Me (Option P) (View C E)

  abbrev Rule : St → Type 0
  Rule = Ruled content touches moves opening hands

  abbrev pub Goes : St → ℕ → ℕ → M → (ℕ → M → Type 0) → ℕ → Type 0
  Goes s k id me then x = (w : View C E) × (a : Act (Option P)) × Valid s.homes me.1 a × Rule (stepped s k x id me.1 w a) × then (get_or s.words k 0) (w, carried_after me.1 a)

  -- the seat id changes what it holds of the part i, whose word becomes n
  pub moved : (s : St) (r : Rule s) (id i n : ℕ) (v w : View C E) (homes' : List (maybe.Option (Option P))) (q : ℕ) → get_elem? s.views id ≡ some v → i < length s.homes
      → (w.opening ≡ v.opening) × (w.hands ≡ v.hands) → w.turns ≡ v.turns → w.stands_for ≡ v.stands_for → length w.held ≡ length v.held → ((k : ℕ) → k ≢ i → get_elem? w.held k ≡ get_elem? v.held k)
      → length homes' ≡ length s.homes → ((k : ℕ) → k ≢ i → get_elem? homes' k ≡ get_elem? s.homes k) → ((j : ℕ) → j ≢ id → r.keeper i ≡ suc j → q ≡ suc j)
      → Kept content (set s.words (i + 1) n) homes' (set s.views id w) r.now i q → ((c : C) → get_elem? w.held i ≡ some (Some c) → (q ≡ suc id) × (get_elem? r.now i ≡ some c) × (0 < hands_stood_for w))
      → Rule record { words = set s.words (i + 1) n; homes = homes'; views = set s.views id w }
  moved s r id i n v w homes' q at near same_start same_turns same_stands as_wide same_held as_long same_homes stays here mine =
      let ok = r.each_view id v at in let words' = set s.words (i + 1) n in let views' = set s.views id w in record {
        log = r.log;
        now = r.now;
        keeper = put r.keeper i q;
        owner = r.owner;
        wide = length-set s.words (i + 1) n ∙ r.wide ∙ ap (λ (m : ℕ). m + 1) (sym as_long);
        as_long = r.as_long ∙ sym as_long;
        as_many = r.as_many ∙ sym as_long;
        at_most = r.at_most;
        count = get_or-set_other s.words (i + 1) 0 n 0 (λ e. omega arith) ∙ r.count;
        runs = r.runs;
        owned = λ m h. let o = r.owned m h in let a = after_set s.views id v w at (r.owner m).0 o.0 o.2 in (
          a.0,
          o.1,
          a.1,
          ⊎_elim (λ t. ap (λ (u : View C E). get_elem? u.turns (r.owner m).1) t.2 ∙ ap (λ l. get_elem? l (r.owner m).1) same_turns ∙ sym (ap (λ (u : View C E). get_elem? u.turns (r.owner m).1) t.1) ∙ o.3)
              (λ t. ap (λ (u : View C E). get_elem? u.turns (r.owner m).1) t.1 ∙ o.3) a.2,
          o.4,
        );
        all_drawn = let t = total-set drawn s.views id v w at in let e : length w.turns ≡ length v.turns = ap length same_turns in let d = r.all_drawn in omega arith;
        all_stand = let t = total-set hands_stood_for s.views id v w at in let e : length w.stands_for ≡ length v.stands_for = ap length same_stands in let d = r.all_stand in omega arith;
        apart = same_names s.views id v w hands at same_stands r.apart;
        each_part = λ k h. at_put r.keeper i q (Kept content words' homes' views' r.now) k here (λ other.
            kept_else content s.words words' s.homes homes' s.views views' r.now k (get_or-set_other s.words (i + 1) (k + 1) n 0 (λ e. other (omega arith))) (same_homes k other)
            (λ j u c e e'. let a = after_set s.views id v w at j u e in (
              a.0,
              a.1,
              ⊎_elim (λ t. ap (λ (z : View C E). get_elem? z.held k) t.2 ∙ same_held k other ∙ sym (ap (λ (z : View C E). get_elem? z.held k) t.1) ∙ e') (λ t. ap (λ (z : View C E). get_elem? z.held k) t.1 ∙ e') a.2,
            )) (r.keeper k) (r.each_part k (let g : k < length s.homes = subst (λ (m : ℕ). k < m) as_long h in g)));
        each_view = λ j u e. ⊎_elim
            (λ t. subst (ViewOk opening hands r.now r.log (put r.keeper i q) r.owner j) t.1 (subst (λ (k : ℕ). ViewOk opening hands r.now r.log (put r.keeper i q) r.owner k w) (sym t.0) record {
              knows = λ m. let kn = ok.knows (subst (λ l. 0 < length l) same_stands m) in (same_start.0 ∙ kn.0, same_start.1 ∙ kn.1, as_wide ∙ kn.2);
              holds = λ k c. at_put r.keeper i q (λ k q. get_elem? w.held k ≡ some (Some c) → (q ≡ suc id) × (get_elem? r.now k ≡ some c) × (0 < hands_stood_for w)) k (λ e. mine c e)
                  (λ other e. let h = ok.holds k c (sym (same_held k other) ∙ e) in (h.0, h.1, subst (λ l. 0 < length l) (sym same_stands) h.2));
              drew = λ k t e. ok.drew k t (sym (ap (λ l. get_elem? l k) same_turns) ∙ e);
              few = let f = ok.few in let e : length w.turns ≡ length v.turns = ap length same_turns in let d : length w.stands_for ≡ length v.stands_for = ap length same_stands in subst (λ (z : ℕ × ℕ). z.0 ≤ 2 ^ 59 * z.1) (λ k. (sym e k, sym d k)) f;
            }))
            (λ t. let ok' = r.each_view j u t.1 in record {
              knows = ok'.knows;
              holds = λ k c e. let h = ok'.holds k c e in (at_put r.keeper i q (λ k q. r.keeper k ≡ suc j → q ≡ suc j) k (λ e. stays j t.0 e) (λ _ e. e) h.0, h.1, h.2);
              drew = ok'.drew;
              few = ok'.few;
            }) (at_set s.views id j w u e);
      }

  -- a hand that stands for all hands drew all
  pub alone : (s : St) (r : Rule s) (id : ℕ) (v : View C E) → get_elem? s.views id ≡ some v → hands_stood_for v ≡ hands → length v.turns ≡ length r.log
  alone s r id v at all = let a = total_but drawn hands_stood_for (2 ^ 59) s.views (λ j v e. (r.each_view j v e).few) id v at in let b : total drawn s.views ≡ length r.log = r.all_drawn in let c : hands_stood_for v ≡ total hands_stood_for s.views = all ∙ sym r.all_stand in
      let d : drawn v ≤ total drawn s.views = one_of drawn s.views id v at in let a' : total drawn s.views + 2 ^ 59 * hands_stood_for v ≤ drawn v + 2 ^ 59 * total hands_stood_for s.views = a in let e : length v.turns ≡ length r.log = omega arith in e

  -- where a hand stands for all hands, each other is spent
  pub only : (s : St) (r : Rule s) (id : ℕ) (v : View C E) → get_elem? s.views id ≡ some v → hands_stood_for v ≡ hands → (j : ℕ) (u : View C E) → get_elem? s.views j ≡ some u → 0 < hands_stood_for u → j ≡ id
  only s r id v at all j u e m = elim (ℕ_discrete j id) [
    | yes is ↦ is
    | no ne ↦ absurd (let two : hands_stood_for v + hands_stood_for u ≤ total hands_stood_for s.views = two_of hands_stood_for s.views id j v u (λ z. ne (sym z)) at e in let d : total hands_stood_for s.views ≡ hands = r.all_stand in omega arith)
  ]

  drawer : (u : View C E) → drawn u ≤ 2 ^ 59 * hands_stood_for u → (k : ℕ) (t : Turn C E) → get_elem? u.turns k ≡ some t → 0 < hands_stood_for u
  drawer u few k t e = let h : k < length u.turns = in_range u.turns k t e in let f : length u.turns ≤ 2 ^ 59 * hands_stood_for u = few in omega arith

  -- the turn at a number of the history is some hand's
  pub logged : (s : St) (r : Rule s) (n : ℕ) (t : Turn C E) → get_elem? r.log n ≡ some t → (v : View C E) × (get_elem? s.views (r.owner n).0 ≡ some v) × (get_elem? v.turns (r.owner n).1 ≡ some t) × (t.number ≡ n)
  logged s r n t e = let o = r.owned n (in_range r.log n t e) in let d = ((r.each_view (r.owner n).0 o.0 o.2).drew (r.owner n).1 o.1 o.3) in let is : Path (Turn C E) o.1 t = some-injective o.1 t (sym d.0 ∙ ap (get_elem? r.log) o.4 ∙ e) in
      (o.0, o.2, o.3 ∙ ap some is, ap (λ (z : Turn C E). z.number) (sym is) ∙ o.4)

  whole : (s : St) (r : Rule s) (id : ℕ) (v : View C E) → get_elem? s.views id ≡ some v → hands_stood_for v ≡ hands → IsWhole v r.log
  whole s r id v at all = (
    alone s r id v at all,
    λ n t e. let l = logged s r n t e in let who : (r.owner n).0 ≡ id = only s r id v at all (r.owner n).0 l.0 l.1 (drawer l.0 (r.each_view (r.owner n).0 l.0 l.1).few (r.owner n).1 t l.2) in
        ((r.owner n).1, ap (λ (z : View C E). get_elem? z.turns (r.owner n).1) (some-injective v l.0 (sym at ∙ ap (get_elem? s.views) (sym who) ∙ l.1)) ∙ l.2),
  )

  -- what a view with the same turns sees
  pub sees : (s : St) (r : Rule s) (id : ℕ) (v w : View C E) → get_elem? s.views id ≡ some v → 0 < hands_stood_for v → w.opening ≡ v.opening → w.hands ≡ v.hands → w.stands_for ≡ v.stands_for → w.turns ≡ v.turns
      → ((i : ℕ) (c : C) → get_elem? w.held i ≡ some (Some c) → get_elem? r.now i ≡ some c) → Sees touches moves w r.log r.now
  sees s r id v w at may o h st tu held = let ok = r.each_view id v at in let kn = ok.knows may in record {
    run = subst (λ z. Run touches moves z r.log r.now) (sym (o ∙ kn.0)) r.runs;
    numbered = λ n t e. (logged s r n t e).3;
    last = subst (λ z. (p : ℕ) (c : C) → get_elem? r.now p ≡ some c → Replay touches z r.log p c) (sym (o ∙ kn.0)) (λ p c e. last_in touches moves opening r.log r.now r.runs p c e);
    mine = λ k t e. (ok.drew k t (ap (λ l. get_elem? l k) (sym tu) ∙ e)).0;
    held = held;
    alone = λ e. subst (λ l. (length l ≡ length r.log) × ((n : ℕ) (t : Turn C E) → get_elem? r.log n ≡ some t → (k : ℕ) × (get_elem? l k ≡ some t))) (sym tu) (whole s r id v at (sym (ap length st) ∙ e ∙ h ∙ kn.1));
  }

  -- some other hand stands for a hand
  another : (s : St) (r : Rule s) (id i : ℕ) (v : View C E) → get_elem? s.views id ≡ some v → 0 < hands_stood_for v → get_elem? v.held i ≡ some None
      → (j : ℕ) × (u : View C E) × (c : C) × (get_elem? s.views j ≡ some u) × (get_elem? u.held i ≡ some (Some c)) → hands_stood_for v < v.hands
  another s r id i v at may free (j, u, c, at', held) = let h = (r.each_view j u at').holds i c held in let other : id ≢ j = λ e. none_some c (some-injective _ _ (sym free ∙ ap (λ (z : View C E). get_elem? z.held i) (some-injective v u (sym at ∙ ap (λ k. get_elem? s.views k) e ∙ at')) ∙ held)) in
      let two : hands_stood_for v + hands_stood_for u ≤ total hands_stood_for s.views = two_of hands_stood_for s.views id j v u other at at' in let all : total hands_stood_for s.views ≡ hands = r.all_stand in let kn : v.hands ≡ hands = ((r.each_view id v at).knows may).1 in let more : 0 < hands_stood_for u = h.2 in omega arith

  pub tries : (n id i : ℕ) (me : M) → i < n → get_elem? me.0.held i ≡ some None → 0 < hands_stood_for me.0 → Allows Rule n id me (i + 1) (λ y. either (eqb y 0) 1 y) (tried content touches moves (step n (i + 1) 0 1 none) me)
  tries n id i me near free may s r wide at _ = let y : ℕ = get_or s.words (i + 1) 0 in let told = tried content touches moves (step n (i + 1) 0 1 none) me in let c = r.count in let long : length s.words ≡ length s.homes + 1 = r.wide in
      let near' : i < length s.homes = omega arith in let room : i + 1 < length s.words = omega arith in let ok = r.each_view id me.0 at in let kept = r.each_part i near' in let back : i + 1 - 1 ≡ i = omega arith in
      let v : View C E = me.0 in exchanged y 0 1 (Goes s (i + 1) id me told)
      (λ hit. let f = free_of content s.words s.homes s.views r.now i (r.keeper i) kept hit in let x = f.1.0 in let w : View C E = holding v i (Some (content x)) in let in_it : i < length v.held = let h = (ok.knows may).2 in let m : length opening ≡ length s.homes = r.as_many in omega arith in
      let here : get_elem? w.held i ≡ some (Some (content x)) = set_here v.held i (Some (content x)) in_it in (
        w,
        takes i (Some x),
        f.1.1,
        moved s r id i 1 v w (set s.homes i none) (suc id) at near' (refl, refl) refl refl (length-set v.held i (Some (content x))) (λ k ne. set_else v.held i k (Some (content x)) ne) (length-set s.homes i none) (λ k ne. set_else s.homes i k none ne)
            (λ j _ e. absurd (zero_suc j (sym f.0 ∙ e)))
            (get_or-set_same s.words (i + 1) 1 0 room, (w, content x, set_at s.views id v w at, here), set_here s.homes i none near')
            (λ c e. (refl, f.1.2 ∙ ap some (both_some (content x) c (sym here ∙ e)), may)),
        (
          (λ _. (
            x,
            ap (λ k. (k, Some x) ∷ me.1) (sym back),
            ap (λ k. holding v k (Some (content x))) (sym back),
            (
              r.log,
              r.now,
              sees s r id v w at may refl refl refl refl
                  (λ k c e. ⊎_elim (λ t. subst (λ m. get_elem? r.now m ≡ some c) (sym t.0) (f.1.2 ∙ ap some (both_some (content x) c (ap some t.1)))) (λ t. (ok.holds k c t.1).1) (at_set v.held i k (Some (content x)) (Some c) e)),
            ),
          )),
          λ miss. absurd (miss hit),
        ),
      ))
      (λ miss. let w : View C E = missing_part v i in (
        w,
        keeps,
        tt,
        moved s r id i y v w s.homes (r.keeper i) at near' (refl, refl) refl refl refl (λ k ne. refl) refl (λ k ne. refl) (λ j _ e. e)
            (kept_else content s.words (set s.words (i + 1) y) s.homes s.homes s.views (set s.views id w) r.now i (get_or-set_same s.words (i + 1) y 0 room) refl
            (λ j u c e e'. let a = after_set s.views id v w at j u e in (a.0, a.1, ⊎_elim (λ t. ap (λ (z : View C E). get_elem? z.held i) t.2 ∙ sym (ap (λ (z : View C E). get_elem? z.held i) t.1) ∙ e') (λ t. ap (λ (z : View C E). get_elem? z.held i) t.1 ∙ e') a.2)) (r.keeper i) kept)
            (λ c e. ok.holds i c e),
        ((λ hit. absurd (miss hit)), λ _. (ap (missing_part v) (sym back), refl, another s r id i v at may free (held_by content s.words s.homes s.views r.now i (r.keeper i) kept miss))),
      ))

  pub frees : (n id i : ℕ) (me : M) (x : P) → i < n → me.1 ≡ (i, Some x) ∷ rest me.1 → get_elem? me.0.held i ≡ some (Some (content x)) → 0 < hands_stood_for me.0 → Allows Rule n id me (i + 1) (λ _. 0) (λ _. freed (step n (i + 1) 0 0 none) me 0)
  frees n id i me x near out held may s r wide at _ = let long : length s.words ≡ length s.homes + 1 = r.wide in let near' : i < length s.homes = omega arith in let room : i + 1 < length s.words = omega arith in let ok = r.each_view id me.0 at in
      let back : i + 1 - 1 ≡ i = omega arith in let v : View C E = me.0 in let w : View C E = holding v i None in let is : put_back s.homes me.1 ≡ set s.homes i (some (Some x)) = ap (put_back s.homes) out in
      let in_it : i < length v.held = let h = (ok.knows may).2 in let m : length opening ≡ length s.homes = r.as_many in omega arith in let here : get_elem? w.held i ≡ some None = set_here v.held i None in_it in let h = ok.holds i (content x) held in (
        w,
        gives,
        tt,
        moved s r id i 0 v w (put_back s.homes me.1) 0 at near' (refl, refl) refl refl (length-set v.held i None) (λ k ne. set_else v.held i k None ne) (ap length is ∙ length-set s.homes i (some (Some x))) (λ k ne. ap (λ l. get_elem? l k) is ∙ set_else s.homes i k (some (Some x)) ne)
            (λ j ne e. absurd (ne (suc-injective (sym e ∙ h.0))))
            (get_or-set_same s.words (i + 1) 0 0 room, (x, ap (λ l. get_elem? l i) is ∙ set_here s.homes i (some (Some x)) near', h.1))
            (λ c e. absurd (none_some c (some-injective _ _ (sym here ∙ e)))),
        (ap (λ k. holding v k None) (sym back), refl),
      )
