-- The entries of a map of records, as rows.
use Rattle.std.proofs.Common.{◌≡◌, ◌≢◌, ℕ, ◌<◌, ◌≤◌, List, [], ◌∷◌, map, refl, sym, ap, ◌∙◌, subst, Bool, true, false, cond, Option, Some, None, eqb, eqb-true, nat_lt, Ordering, Less, Equal, Greater, arith}
use Rattle.std.specs.Prelude.{is_some}
use Rattle.std.specs.Map.{lookup, set_value}
use Rattle.std.specs.BTreeMap.{insert_entry, is_at}
use Rattle.std.specs.Cmp.{nat_cmp_is}
use Rattle.std.specs.Ordering.{is_eq, match_ordering, nat_cmp}
use Rattle.std.proofs.lemmas.Bool.Decides.{nat_tests}
use Rattle.std.proofs.Math.Dec.{eqb_refl, T}
use Rattle.ca_report.specs.declared.passage.Passage.{Passage}
use Rattle.ca_report.specs.declared.tally.Record.{Record}
use Rattle.ca_term.specs.declared.operation.What.{What}
use Rattle.ca_term.specs.Operation.{WhatView, what_view}
use Rattle.ca_meaning.specs.Channel.{channel_made}
use Rattle.ca_report.specs.Passages.{more}
use Rattle.ca_report.specs.Tallied.{AreFew, AllFew, ChannelRow, Rows, row_view, row_entry, none_counted, with_new, with_one}

lt_true : (a b : ℕ) → nat_lt a b ≡ true → a < b
lt_true a b e = grind (arith, nat_tests)

lt_false : (a b : ℕ) → nat_lt a b ≡ false → b ≤ a
lt_false a b e = grind (arith, nat_tests)

differ : (q p : ℕ) → eqb q p ≡ false → q ≡ p → ⊥
differ q p is e = by (eqb q q) (eqb_refl q) (ap (eqb q) e ∙ is) where
  by : (b : Bool) → T b → b ≡ false → ⊥
  by true t f = let k : true ≡ false = f in cc
  by false t f = t

-- a map's test of its keys is that of equal numbers
at_is : (q p : ℕ) → is_eq (nat_cmp q p) ≡ eqb q p
at_is q p = by (eqb q p) refl where
  apart : (b : Bool) → nat_lt q p ≡ b → (q ≡ p → ⊥) → is_eq (nat_cmp q p) ≡ false
  apart true lt ne = ap is_eq (sym (nat_cmp_is q p Less (lt_true q p lt)))
  apart false ge ne = ap is_eq (sym (nat_cmp_is q p Greater (let le : p ≤ q = lt_false q p ge in let other : p ≢ q = λ e. ne (sym e) in omega (arith, le, other))))

  by : (b : Bool) → eqb q p ≡ b → is_eq (nat_cmp q p) ≡ b
  by true is = ap is_eq (sym (nat_cmp_is q p Equal (eqb-true q p is)))
  by false is = apart (nat_lt q p) refl (differ q p is)

pub entries_added : (es : List (ℕ × Record)) (q : ℕ) (r : Record) → map row_entry (insert_entry nat_cmp es q r) ≡ insert_entry nat_cmp (map row_entry es) q (row_view r)
entries_added [] q r = refl
entries_added (e ∷ es) q r = by (nat_cmp q e.0) (entries_added es q r) where
  by : (o : Ordering) → map row_entry (insert_entry nat_cmp es q r) ≡ insert_entry nat_cmp (map row_entry es) q (row_view r)
      → map row_entry (match_ordering o ((q, r) ∷ e ∷ es) ((e.0, r) ∷ es) (e ∷ insert_entry nat_cmp es q r)) ≡ match_ordering o ((q, row_view r) ∷ row_entry e ∷ map row_entry es) ((e.0, row_view r) ∷ map row_entry es) (row_entry e ∷ insert_entry nat_cmp (map row_entry es) q (row_view r))
  by Less rest = refl
  by Equal rest = refl
  by Greater rest = ap (λ (l : Rows). row_entry e ∷ l) rest

-- the record with one value more
abbrev pub row_more : Passage → Record → ChannelRow
row_more x r = record (row_view r) { counts = more x r.counts }

pub entries_set : (es : List (ℕ × Record)) (q : ℕ) (x : Passage) (r w : Record) → lookup (is_at (nat_cmp q)) es ≡ Some r → row_view w ≡ row_more x r → map row_entry (set_value (is_at (nat_cmp q)) es w) ≡ with_one q x (map row_entry es)
entries_set [] q x r w found is = refl
entries_set (e ∷ es) q x r w found is = by (is_eq (nat_cmp q e.0)) (eqb q e.0) (at_is q e.0) found (λ f. entries_set es q x r w f is) where
  by : (b c : Bool) → b ≡ c → cond b (Some e.1) (lookup (is_at (nat_cmp q)) es) ≡ Some r → (lookup (is_at (nat_cmp q)) es ≡ Some r → map row_entry (set_value (is_at (nat_cmp q)) es w) ≡ with_one q x (map row_entry es))
      → map row_entry (cond b ((e.0, w) ∷ es) (e ∷ set_value (is_at (nat_cmp q)) es w)) ≡ cond c ((e.0, row_more x e.1) ∷ map row_entry es) (row_entry e ∷ with_one q x (map row_entry es))
  by true true k found rest = let here : r ≡ e.1 = (let j : Some e.1 ≡ Some r = found in cc) in ap (λ (y : ChannelRow). (e.0, y) ∷ map row_entry es) (is ∙ ap (row_more x) here)
  by true false k found rest = absurd (let j : true ≡ false = k in cc)
  by false true k found rest = absurd (let j : false ≡ true = k in cc)
  by false false k found rest = ap (λ (l : Rows). row_entry e ∷ l) (rest found)

-- no channel of that number
pub entries_kept : (es : List (ℕ × Record)) (q : ℕ) (x : Passage) → lookup (is_at (nat_cmp q)) es ≡ None → map row_entry es ≡ with_one q x (map row_entry es)
entries_kept [] q x none = refl
entries_kept (e ∷ es) q x none = by (is_eq (nat_cmp q e.0)) (eqb q e.0) (at_is q e.0) none (λ f. entries_kept es q x f) where
  by : (b c : Bool) → b ≡ c → cond b (Some e.1) (lookup (is_at (nat_cmp q)) es) ≡ None → (lookup (is_at (nat_cmp q)) es ≡ None → map row_entry es ≡ with_one q x (map row_entry es))
      → row_entry e ∷ map row_entry es ≡ cond c ((e.0, row_more x e.1) ∷ map row_entry es) (row_entry e ∷ with_one q x (map row_entry es))
  by true c k none rest = absurd (let j : Some e.1 ≡ None = none in cc)
  by false true k none rest = absurd (let j : false ≡ true = k in cc)
  by false false k none rest = ap (λ (l : Rows). row_entry e ∷ l) (rest none)

pub entries_few : (es : List (ℕ × Record)) (q : ℕ) (r : Record) → lookup (is_at (nat_cmp q)) es ≡ Some r → AllFew (map row_entry es) → AreFew r.counts
entries_few [] q r found few = absurd (let k : None ≡ Some r = found in cc)
entries_few (e ∷ es) q r found few = by (is_eq (nat_cmp q e.0)) found (λ f. entries_few es q r f few.1) where
  by : (b : Bool) → cond b (Some e.1) (lookup (is_at (nat_cmp q)) es) ≡ Some r → (lookup (is_at (nat_cmp q)) es ≡ Some r → AreFew r.counts) → AreFew r.counts
  by true found rest = subst (λ (y : Record). AreFew y.counts) (let j : Some e.1 ≡ Some r = found in let here : e.1 ≡ r = cc in here) few.0
  by false found rest = rest found

-- a new record, of what was made
pub entries_new : (es fs : List (ℕ × Record)) (q : ℕ) (what : What) (moment : Option ℕ) (w : WhatView) → Some (what_view what) ≡ cond (is_some (channel_made w)) (Some w) None
    → fs ≡ insert_entry nat_cmp es q (record { what = what; moment = moment; counts = none_counted }) → map row_entry fs ≡ with_new q w moment (map row_entry es)
entries_new es fs q what moment w is added = ap (map row_entry) added ∙ entries_added es q (record { what = what; moment = moment; counts = none_counted }) ∙ by (is_some (channel_made w)) is where
  by : (b : Bool) → Some (what_view what) ≡ cond b (Some w) None
      → insert_entry nat_cmp (map row_entry es) q (record { what = what_view what; moment = moment; counts = none_counted }) ≡ cond b (insert_entry nat_cmp (map row_entry es) q (record { what = w; moment = moment; counts = none_counted })) (map row_entry es)
  by true e = ap (λ (z : WhatView). insert_entry nat_cmp (map row_entry es) q (record { what = z; moment = moment; counts = none_counted })) (let j : Some (what_view what) ≡ Some w = e in let k : what_view what ≡ w = cc in k)
  by false e = absurd (let j : Some (what_view what) ≡ None = e in cc)
