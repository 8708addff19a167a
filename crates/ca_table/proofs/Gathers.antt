-- What all workers noted, in order of number, is the journal of the one history.
use Rattle.std.proofs.Common.{◌≡◌, ◌∙◌, ◌⊎◌, inl, inr, ⊎_elim, ℕ, zero, suc, ◌+◌, ◌<◌, ◌≤◌, List, [], ◌∷◌, ◌++◌, length, map, refl, sym, ap, subst, arith, length-append}
use mathlib.Core.List.{append_assoc}
use mathlib.Core.Option.{none, some}
use lib.ListN.{get_elem?}
use Rattle.ca_term.specs.Event.{EventView}
use Rattle.ca_journal.specs.Merge.{Ascends, Numbered, NoneLower, events_of, in_order}
use Rattle.ca_turns.specs.History.{IsNumbered}
use Rattle.ca_turns.specs.Places.{total}
use Rattle.ca_turns.specs.Steps.{IsWhole}
use Rattle.ca_turns.specs.declared.rule.Turn.{Turn}
use Rattle.ca_turns.specs.declared.rule.View.{View}
use Rattle.ca_commit.specs.Moving.{visible}
use Rattle.ca_commit.specs.Touched as said
use Rattle.ca_table.specs.Draws.{turn_view}
use Rattle.ca_table.specs.Members.{Differ, In}
use Rattle.ca_table.specs.Running.{shown_by}
use Rattle.ca_table.specs.Workers.{AllAbove, noted, turn_entries}
use Rattle.ca_table.specs.declared.drawn.Drawn.{Drawn}
use Rattle.ca_table.proofs.Members.{in_either, in_first, in_second, same_total}
use Rattle.ca_table.proofs.Ordering.{Climbs, in_order_is}

-- the journal shows one event of a turn, or none
abbrev AtMostOne : List EventView → Type 0
AtMostOne es = (es ≡ []) ⊎ ((e : EventView) × (es ≡ e ∷ []))

at_most_one : (t : said.Turn) → AtMostOne (visible t)
at_most_one (said.shown e) = inr (e, refl)
at_most_one (said.picks r) = inl refl
at_most_one said.yields = inl refl
at_most_one (said.prunes side p w) = inl refl
at_most_one said.asks_clock = inl refl
at_most_one said.fails = inl refl
at_most_one said.stops = inl refl
at_most_one said.halts = inl refl
at_most_one said.stalls = inl refl

module _ {X : Type 0} where
  pub at_in : (xs : List X) (k : ℕ) (x : X) → get_elem? xs k ≡ some x → In x xs
  at_in [] k x e = absurd (let q : none ≡ some x = e in cc)
  at_in (y ∷ ys) zero x e = inl (sym (let q : y ≡ x = cc in q))
  at_in (y ∷ ys) (suc k) x e = inr (at_in ys k x e)

  pub in_at : (xs : List X) (x : X) → In x xs → (k : ℕ) × (get_elem? xs k ≡ some x)
  in_at [] x h = absurd h
  in_at (y ∷ ys) x h = ⊎_elim (λ e. (0, ap some (sym e))) (λ k. let r = in_at ys x k in (suc r.0, r.1)) h

abbrev with_number : ℕ → List EventView → List Numbered
with_number n es = map (λ e. record { number = n; event = e }) es

number_of : (n : ℕ) (es : List EventView) (z : Numbered) → In z (with_number n es) → z.number ≡ n
number_of n [] z h = absurd h
number_of n (e ∷ es) z h = ⊎_elim (λ is. ap (λ (z : Numbered). z.number) is) (λ k. number_of n es z k) h

events_append : (xs ys : List Numbered) → events_of (xs ++ ys) ≡ events_of xs ++ events_of ys
events_append [] ys = refl
events_append (x ∷ xs) ys = ap (λ l. x.event ∷ l) (events_append xs ys)

same_events : (n : ℕ) (es : List EventView) → events_of (with_number n es) ≡ es
same_events n [] = refl
same_events n (e ∷ es) = ap (λ l. e ∷ l) (same_events n es)

none_lower_append : (n : ℕ) (xs ys : List Numbered) → NoneLower n xs → NoneLower n ys → NoneLower n (xs ++ ys)
none_lower_append n [] ys h k = k
none_lower_append n (x ∷ xs) ys h k = (h.0, none_lower_append n xs ys h.1 k)

none_lower_weaken : (m n : ℕ) (xs : List Numbered) → m ≤ n → NoneLower n xs → NoneLower m xs
none_lower_weaken m n [] le h = tt
none_lower_weaken m n (x ∷ xs) le h = (let a = h.0 in omega (arith, a, le), none_lower_weaken m n xs le h.1)

all_same : (n m : ℕ) (es : List EventView) → m ≤ n → NoneLower m (with_number n es)
all_same n m [] le = tt
all_same n m (e ∷ es) le = (le, all_same n m es le)

ascends_before : (n : ℕ) (es : List EventView) (zs : List Numbered) → NoneLower n zs → Ascends zs → Ascends (with_number n es ++ zs)
ascends_before n [] zs low up = up
ascends_before n (e ∷ es) zs low up = (none_lower_append n (with_number n es) zs (all_same n n es (omega arith)) low, ascends_before n es zs low up)

module _ {C : Type 0} where
  -- numbers from m on
  abbrev From : ℕ → List (Turn C Drawn) → Type 0
  From m log = (n : ℕ) (t : Turn C Drawn) → get_elem? log n ≡ some t → t.number ≡ m + n

  next_from : (m : ℕ) (t : Turn C Drawn) (ts : List (Turn C Drawn)) → From m (t ∷ ts) → From (suc m) ts
  next_from m t ts h n u e = let k = h (suc n) u e in omega (arith, k)

  first_number : (m : ℕ) (t : Turn C Drawn) (ts : List (Turn C Drawn)) → From m (t ∷ ts) → t.number ≡ m
  first_number m t ts h = let k = h 0 t refl in omega (arith, k)

  at_least : (m : ℕ) (ts : List (Turn C Drawn)) (t : Turn C Drawn) → From m ts → In t ts → m ≤ t.number
  at_least m ts t h i = let k = in_at ts t i in let e = h k.0 t k.1 in omega (arith, e)

  differ_from : (m : ℕ) (ts : List (Turn C Drawn)) → From m ts → Differ ts
  differ_from m [] h = tt
  differ_from m (t ∷ ts) h = ((λ i. let a = at_least (suc m) ts t (next_from m t ts h) i in let b = first_number m t ts h in omega (arith, a, b)), differ_from (suc m) ts (next_from m t ts h))

  -- an entry is of one of the turns
  noted_of : (ts : List (Turn C Drawn)) (z : Numbered) → In z (noted ts) → (t : Turn C Drawn) × In t ts × In z (turn_entries t)
  noted_of [] z h = absurd h
  noted_of (t ∷ ts) z h = ⊎_elim (λ k. (t, inl refl, k)) (λ k. let r = noted_of ts z k in (r.0, inr r.1, r.2)) (in_either z (turn_entries t) (noted ts) h)

  of_noted : (ts : List (Turn C Drawn)) (t : Turn C Drawn) (z : Numbered) → In t ts → In z (turn_entries t) → In z (noted ts)
  of_noted [] t z i h = absurd i
  of_noted (u ∷ ts) t z i h = ⊎_elim (λ e. in_first z (turn_entries u) (noted ts) (subst (λ (x : Turn C Drawn). In z (turn_entries x)) e h)) (λ k. in_second z (turn_entries u) (noted ts) (of_noted ts t z k h)) i

  climbs_before : (t : Turn C Drawn) (es : List EventView) (zs : List Numbered) → AtMostOne es → ((z : Numbered) → In z zs → t.number < z.number) → Climbs zs → Climbs (with_number t.number es ++ zs)
  climbs_before t es zs few low c = ⊎_elim (λ e. subst (λ es. Climbs (with_number t.number es ++ zs)) (sym e) c) (λ e. subst (λ es. Climbs (with_number t.number es ++ zs)) (sym e.1) (low, c)) few

  noted_climbs : (m : ℕ) (ts : List (Turn C Drawn)) → From m ts → Climbs (noted ts)
  noted_climbs m [] h = tt
  noted_climbs m (t ∷ ts) h = climbs_before t (visible (turn_view t.event.what)) (noted ts) (at_most_one (turn_view t.event.what)) low (noted_climbs (suc m) ts (next_from m t ts h)) where
    low : (z : Numbered) → In z (noted ts) → t.number < z.number
    low z i = let r = noted_of ts z i in let a = at_least (suc m) ts r.0 (next_from m t ts h) r.1 in let b = number_of r.0.number (visible (turn_view r.0.event.what)) z r.2 in let c = first_number m t ts h in omega (arith, a, b, c)

  abbrev shows : Turn C Drawn → ℕ
  shows t = length (turn_entries t)

  noted_long : (ts : List (Turn C Drawn)) → length (noted ts) ≡ total shows ts
  noted_long [] = refl
  noted_long (t ∷ ts) = length-append (turn_entries t) (noted ts) ∙ ap (λ (n : ℕ). shows t + n) (noted_long ts)

  -- the events of what a worker noted are those that its turns show
  pub shown_noted : (ts : List (Turn C Drawn)) → events_of (noted ts) ≡ shown_by ts
  shown_noted [] = refl
  shown_noted (t ∷ ts) = events_append (turn_entries t) (noted ts) ∙ ap (λ l. l ++ events_of (noted ts)) (same_events t.number (visible (turn_view t.event.what))) ∙ ap (λ l. visible (turn_view t.event.what) ++ l) (shown_noted ts)

  -- the entries of all hands' turns, in order of number, are those of the history
  pub gathered : (v : View C Drawn) (log : List (Turn C Drawn)) → IsNumbered log → IsWhole v log → events_of (in_order (noted v.turns)) ≡ shown_by log
  gathered v log num whole = ap events_of (in_order_is (noted log) (noted v.turns) (noted_climbs 0 log from) long all) ∙ shown_noted log where
    from : From 0 log
    from n t e = let k = num n t e in omega (arith, k)

    each : (t : Turn C Drawn) → In t log → In t v.turns
    each t i = let k = in_at log t i in let r = whole.1 k.0 t k.1 in at_in v.turns r.0 t r.1

    long : length (noted v.turns) ≡ length (noted log)
    long = noted_long v.turns ∙ same_total shows log v.turns (differ_from 0 log from) whole.0 each ∙ sym (noted_long log)

    all : (z : Numbered) → In z (noted log) → In z (noted v.turns)
    all z i = let r = noted_of log z i in of_noted v.turns r.0 z (each r.0 r.1) r.2

  pub noted_append : (ts us : List (Turn C Drawn)) → noted (ts ++ us) ≡ noted ts ++ noted us
  noted_append [] us = refl
  noted_append (t ∷ ts) us = ap (λ l. turn_entries t ++ l) (noted_append ts us) ∙ sym (append_assoc (turn_entries t) (noted ts) (noted us))

  noted_above : (m : ℕ) (ts : List (Turn C Drawn)) → AllAbove m ts → NoneLower m (noted ts)
  noted_above m [] h = tt
  noted_above m (t ∷ ts) h = none_lower_append m (turn_entries t) (noted ts) (all_same t.number m (visible (turn_view t.event.what)) h.0) (none_lower_weaken m (t.number + 1) (noted ts) (let k = h.0 in omega (arith, k)) (noted_above (t.number + 1) ts h.1))

  -- what a worker noted ascends
  pub noted_ascends : (m : ℕ) (ts : List (Turn C Drawn)) → AllAbove m ts → Ascends (noted ts)
  noted_ascends m [] h = tt
  noted_ascends m (t ∷ ts) h = ascends_before t.number (visible (turn_view t.event.what)) (noted ts) (none_lower_weaken t.number (t.number + 1) (noted ts) (omega arith) (noted_above (t.number + 1) ts h.1)) (noted_ascends (t.number + 1) ts h.1)
