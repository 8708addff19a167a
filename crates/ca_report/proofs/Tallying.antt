-- The rows of a tally, one event more.
use Rattle.std.proofs.Common.{◌≡◌, ◌≢◌, ℕ, suc, ◌+◌, ◌<◌, ◌≤◌, ◌^◌, List, [], ◌∷◌, ◌++◌, length, map, refl, sym, ap, ◌∙◌, subst, Bool, true, false, cond, Option, Some, None, eqb, eqb-true, nat_le, arith}
use Rattle.std.specs.Prelude.{is_some}
use Rattle.std.specs.BTreeMap.{insert_entry}
use Rattle.std.specs.Cmp.{nat_cmp_is}
use Rattle.std.proofs.Common.{Less, Greater}
use Rattle.std.specs.Ordering.{match_ordering, nat_cmp}
use Rattle.ca_term.specs.Operation.{WhatView}
use Rattle.ca_term.specs.Event.{EventView, made, done, met, settled}
use Rattle.ca_term.specs.Cost.{cost_of}
use Rattle.ca_meaning.specs.Channel.{channel_made}
use Rattle.ca_meaning.specs.Cost.{cost}
use Rattle.ca_meaning.specs.History.{Mark, accept, give, give_none, pass, no_mark, mark_of_done, mark_of_settled, mark_on, count}
use Rattle.ca_meaning.specs.Wait.{port_of}
use Rattle.ca_report.specs.declared.passage.Passage.{Passage}
use Rattle.ca_report.specs.declared.passage.Counts.{Counts}
use Rattle.ca_report.specs.Counts.{is_accept, is_pass, is_give, accepted, passed, given_out}
use Rattle.ca_report.specs.Made.{Made, made_placed, with_channel_made, Below, Rising}
use Rattle.ca_report.specs.Passages.{passage_of, at_port, passage_in, more}
use Rattle.ca_report.specs.Tallied.{AllFew, ChannelRow, Rows, none_counted, with_new, with_one, with_passage, row_of}
use Rattle.ca_report.proofs.Counting.{bit, accepted_last, passed_last, given_last}
use Rattle.ca_report.proofs.Placing.{NotAmong, le_true, le_false}

-- what a passage at some channel is at channel p
abbrev pub passage_at : ℕ → Option (ℕ × Passage) → Option Passage
passage_at p None = None
passage_at p (Some x) = cond (eqb x.0 p) (Some x.1) None

at_channel : (p q : ℕ) (m : Mark) → passage_of (cond (eqb q p) m no_mark) ≡ passage_at p (at_port q (passage_of m))
at_channel p q m = first (eqb q p) m ∙ second (passage_of m) where
  first : (b : Bool) (m : Mark) → passage_of (cond b m no_mark) ≡ cond b (passage_of m) None
  first true m = refl
  first false m = refl

  none : (b : Bool) → ◌≡◌ {A = Option Passage} (cond b None None) None
  none true = refl
  none false = refl

  second : (o : Option Passage) → cond (eqb q p) o None ≡ passage_at p (at_port q o)
  second None = none (eqb q p)
  second (Some x) = refl

-- the passage of an event, channel by channel
passage_is : (e : EventView) (p : ℕ) → passage_of (mark_on p e) ≡ passage_at p (passage_in e)
passage_is (done t k b a) p = at_channel p (port_of b) (mark_of_done b a)
passage_is (met t k side q v w o) p = at_channel p q (pass v)
passage_is (settled w k side q v) p = at_channel p q (mark_of_settled side v)
passage_is e p = refl

abbrev pub counts_of : List EventView → ℕ → Counts
counts_of es p = record { accepted = accepted p es; passed = passed p es; given = given_out p es }

abbrev pub counts_after : Option Passage → Counts → Counts
counts_after None c = c
counts_after (Some x) c = more x c

pub same_counts : (a b c x y z : ℕ) → a ≡ x → b ≡ y → c ≡ z → ◌≡◌ {A = Counts} (record { accepted = a; passed = b; given = c }) (record { accepted = x; passed = y; given = z })
same_counts a b c x y z e f g = λ i. record { accepted = e i; passed = f i; given = g i }

marked_counts : (m : Mark) (a b c x y z : ℕ) → a ≡ x + bit (is_accept m) → b ≡ y + bit (is_pass m) → c ≡ z + bit (is_give m) → record { accepted = a; passed = b; given = c } ≡ counts_after (passage_of m) (record { accepted = x; passed = y; given = z })
marked_counts (accept v) a b c x y z e f g = same_counts a b c (x + 1) y z e (omega arith) (omega arith)
marked_counts (pass v) a b c x y z e f g = same_counts a b c x (y + 1) z (omega arith) f (omega arith)
marked_counts (give v) a b c x y z e f g = same_counts a b c x y (z + 1) (omega arith) (omega arith) g
marked_counts give_none a b c x y z e f g = same_counts a b c x y z (omega arith) (omega arith) (omega arith)
marked_counts no_mark a b c x y z e f g = same_counts a b c x y z (omega arith) (omega arith) (omega arith)

counts_last : (es : List EventView) (e : EventView) (p : ℕ) → counts_of (es ++ e ∷ []) p ≡ counts_after (passage_at p (passage_in e)) (counts_of es p)
counts_last es e p =
    marked_counts (mark_on p e) (accepted p (es ++ e ∷ [])) (passed p (es ++ e ∷ [])) (given_out p (es ++ e ∷ [])) (accepted p es) (passed p es) (given_out p es) (accepted_last p es e) (passed_last p es e) (given_last p es e)
    ∙ ap (λ o. counts_after o (counts_of es p)) (passage_is e p)

-- rows with other counts
abbrev row_with : (ℕ → Counts) → Made → ℕ × ChannelRow
row_with f m = (m.port, record { what = m.what; moment = m.moment; counts = f m.port })

same_rows : (f g : ℕ → Counts) (ms : List Made) → ((p : ℕ) → f p ≡ g p) → map (row_with f) ms ≡ map (row_with g) ms
same_rows f g [] h = refl
same_rows f g (m ∷ ms) h = λ i. (m.port, record { what = m.what; moment = m.moment; counts = h m.port i }) ∷ same_rows f g ms h i

not_same : (q p : ℕ) → q ≢ p → eqb q p ≡ false
not_same q p ne = by (eqb q p) refl where
  by : (b : Bool) → eqb q p ≡ b → b ≡ false
  by true is = absurd (ne (eqb-true q p is))
  by false is = refl

-- no row of a greater number changes
rows_above : (f : ℕ → Counts) (q : ℕ) (x : Passage) (ms : List Made) → Below q ms → map (row_with (λ p. counts_after (passage_at p (Some (q, x))) (f p))) ms ≡ map (row_with f) ms
rows_above f q x [] b = refl
rows_above f q x (m ∷ ms) b =
    let e : eqb q m.port ≡ false = not_same q m.port (λ k. absurd (omega (arith, b.0, k))) in
    λ i. (m.port, record { what = m.what; moment = m.moment; counts = counts_after (cond (e i) (Some x) None) (f m.port) }) ∷ rows_above f q x ms b.1 i

rows_passed : (f : ℕ → Counts) (q : ℕ) (x : Passage) (ms : List Made) → Rising ms → map (row_with (λ p. counts_after (passage_at p (Some (q, x))) (f p))) ms ≡ with_one q x (map (row_with f) ms)
rows_passed f q x [] r = refl
rows_passed f q x (m ∷ ms) r = by (eqb q m.port) refl (rows_passed f q x ms r.1) where
  g : ℕ → Counts
  g = λ p. counts_after (passage_at p (Some (q, x))) (f p)

  by : (b : Bool) → eqb q m.port ≡ b → map (row_with (λ p. counts_after (passage_at p (Some (q, x))) (f p))) ms ≡ with_one q x (map (row_with f) ms)
      → (m.port, record { what = m.what; moment = m.moment; counts = counts_after (cond b (Some x) None) (f m.port) }) ∷ map (row_with (λ p. counts_after (passage_at p (Some (q, x))) (f p))) ms
      ≡ cond b ((m.port, record { what = m.what; moment = m.moment; counts = more x (f m.port) }) ∷ map (row_with f) ms) (row_with f m ∷ with_one q x (map (row_with f) ms))
  by true is rest = ap (λ (l : Rows). (m.port, record { what = m.what; moment = m.moment; counts = more x (f m.port) }) ∷ l) (rows_above f q x ms (subst (λ n. Below n ms) (sym (eqb-true q m.port is)) r.0))
  by false is rest = ap (λ (l : Rows). row_with f m ∷ l) rest

rows_by : (f : ℕ → Counts) (o : Option (ℕ × Passage)) (ms : List Made) → Rising ms → map (row_with (λ p. counts_after (passage_at p o) (f p))) ms ≡ with_passage o (map (row_with f) ms)
rows_by f None ms r = refl
rows_by f (Some y) ms r = rows_passed f y.0 y.1 ms r

-- an event that makes no channel
pub rows_last : (es : List EventView) (e : EventView) (ms : List Made) → Rising ms → map (row_of (es ++ e ∷ [])) ms ≡ with_passage (passage_in e) (map (row_of es) ms)
rows_last es e ms r =
    same_rows (counts_of (es ++ e ∷ [])) (λ p. counts_after (passage_at p (passage_in e)) (counts_of es p)) ms (counts_last es e) ∙ rows_by (counts_of es) (passage_in e) ms r

-- a new row's place is that of its channel
inserts_there : {X : Type 0} (q p : ℕ) (a b c : X) → q ≢ p → match_ordering (nat_cmp q p) a b c ≡ cond (nat_le q p) a c
inserts_there {X} q p a b c ne = by (nat_le q p) refl where
  by : (y : Bool) → nat_le q p ≡ y → match_ordering (nat_cmp q p) a b c ≡ cond y a c
  by true is = ap (λ o. match_ordering o a b c) (sym (nat_cmp_is q p Less (let le : q ≤ p = le_true q p is in omega (arith, ne))))
  by false is = ap (λ o. match_ordering o a b c) (sym (nat_cmp_is q p Greater (le_false q p is)))

new_row : (f : ℕ → Counts) (m : Made) (ms : List Made) → NotAmong m.port ms → map (row_with f) (made_placed m ms) ≡ insert_entry nat_cmp (map (row_with f) ms) m.port (record { what = m.what; moment = m.moment; counts = f m.port })
new_row f m [] n = refl
new_row f m (x ∷ xs) n = by (nat_le m.port x.port) (new_row f m xs n.1) ∙ sym (inserts_there m.port x.port (row_with f m ∷ row_with f x ∷ map (row_with f) xs) ((x.port, record { what = m.what; moment = m.moment; counts = f m.port }) ∷ map (row_with f) xs) (row_with f x ∷ insert_entry nat_cmp (map (row_with f) xs) m.port (record { what = m.what; moment = m.moment; counts = f m.port })) n.0) where
  by : (b : Bool) → map (row_with f) (made_placed m xs) ≡ insert_entry nat_cmp (map (row_with f) xs) m.port (record { what = m.what; moment = m.moment; counts = f m.port })
      → map (row_with f) (cond b (m ∷ x ∷ xs) (x ∷ made_placed m xs)) ≡ cond b (row_with f m ∷ row_with f x ∷ map (row_with f) xs) (row_with f x ∷ insert_entry nat_cmp (map (row_with f) xs) m.port (record { what = m.what; moment = m.moment; counts = f m.port }))
  by true rest = refl
  by false rest = ap (λ (l : Rows). row_with f x ∷ l) rest

-- an event that makes something at q
pub rows_made : (es : List EventView) (t q : ℕ) (what : WhatView) (moment : Option ℕ) (ms : List Made) → NotAmong q ms → counts_of es q ≡ none_counted → map (row_of (es ++ made t q what moment ∷ [])) (with_channel_made (made t q what moment) ms) ≡ with_new q what moment (map (row_of es) ms)
rows_made es t q what moment ms n none =
    same_rows (counts_of (es ++ made t q what moment ∷ [])) (counts_of es) (with_channel_made (made t q what moment) ms) (counts_last es (made t q what moment)) ∙ by (is_some (channel_made what)) where
      by : (b : Bool) → map (row_with (counts_of es)) (cond b (made_placed (record { port = q; what = what; moment = moment }) ms) ms) ≡ cond b (insert_entry nat_cmp (map (row_of es) ms) q (record { what = what; moment = moment; counts = none_counted })) (map (row_of es) ms)
      by true = new_row (counts_of es) (record { port = q; what = what; moment = moment }) ms n ∙ ap (λ (k : Counts). insert_entry nat_cmp (map (row_of es) ms) q (record { what = what; moment = moment; counts = k })) none
      by false = refl

-- no count is greater than the number of events
count_within : (test : EventView → Bool) (es : List EventView) → count test es ≤ length es
count_within test [] = omega arith
count_within test (e ∷ es) = by (test e) (count_within test es) where
  by : (b : Bool) → count test es ≤ length es → cond b (suc (count test es)) (count test es) ≤ suc (length es)
  by true le = omega arith
  by false le = omega arith

pub all_few : (es : List EventView) (ms : List Made) → length es < 2 ^ 32 → AllFew (map (row_of es) ms)
all_few es [] lt = tt
all_few es (m ∷ ms) lt =
    ((omega (arith, count_within (λ e. is_accept (mark_on m.port e)) es), omega (arith, count_within (λ e. is_pass (mark_on m.port e)) es), omega (arith, count_within (λ e. is_give (mark_on m.port e)) es)), all_few es ms lt)

-- what all cost
pub cost_last : (es : List EventView) (e : EventView) → cost (es ++ e ∷ []) ≡ cost es + cost_of e
cost_last [] e = omega arith
cost_last (x ∷ es) e = omega (arith, cost_last es e)
