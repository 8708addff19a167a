-- What a tally says of the events that it saw.
use Rattle.std.specs.Prelude.{◌≡◌, ℕ, ◌-◌, ◌<◌, ◌^◌, List, [], ◌∷◌, ◌++◌, Option, Some, None, Bool, true, false, cond, eqb, is_some, length, map, codes, decimal, flat_map}
use Rattle.std.specs.BTreeMap.{insert_entry}
use Rattle.std.specs.Ordering.{nat_cmp}
use Rattle.ca_term.specs.declared.event.Branch.{Branch}
use Rattle.ca_term.specs.Event.{EventView, branch_view}
use Rattle.ca_term.specs.Operation.{WhatView, promise, what_view}
use Rattle.ca_meaning.specs.Channel.{Channel, channel_made}
use Rattle.ca_meaning.specs.Cost.{cost}
use Rattle.ca_meaning.specs.Sound.{Each}
use Rattle.ca_meaning.specs.State.{State}
use Rattle.ca_meaning.specs.Texts.{◌⋅◌}
use Rattle.ca_meaning.specs.Wait.{Wait}
use Rattle.ca_report.specs.declared.passage.Passage.{Passage}
use Rattle.ca_report.specs.declared.passage.Counts.{Counts}
use Rattle.ca_report.specs.declared.tally.Record.{Record}
use Rattle.ca_report.specs.declared.tally.Tally.{Tally}
use Rattle.ca_report.specs.Counts.{accepted, passed, given_out, lost}
use Rattle.ca_report.specs.Made.{Made, channels_made}
use Rattle.ca_report.specs.Passages.{made_by_event, more, passage_in}
use Rattle.ca_report.specs.Report.{word_and_count, closed_text, made_text, counts_text, wait_line}

-- one more can be counted
abbrev pub AreFew : Counts → Type 0
AreFew c = (c.accepted < 2 ^ 64 - 1) × (c.passed < 2 ^ 64 - 1) × (c.given < 2 ^ 64 - 1)

-- a channel's record as plain data
pub record ChannelRow : Type 0 where
  pub what : WhatView
  pub moment : Option ℕ
  pub counts : Counts

abbrev pub Rows : Type 0
Rows = List (ℕ × ChannelRow)

abbrev pub row_view : Record → ChannelRow
row_view r = record { what = what_view r.what; moment = r.moment; counts = r.counts }

abbrev pub row_entry : ℕ × Record → ℕ × ChannelRow
row_entry e = (e.0, row_view e.1)

abbrev pub rows : Tally → Rows
rows t = map row_entry t.channels.entries

abbrev pub none_counted : Counts
none_counted = record { accepted = 0; passed = 0; given = 0 }

-- with a new channel, if it is one
abbrev pub with_new : ℕ → WhatView → Option ℕ → Rows → Rows
with_new p what moment rs = cond (is_some (channel_made what)) (insert_entry nat_cmp rs p (record { what = what; moment = moment; counts = none_counted })) rs

-- with one value more at channel p
abbrev pub with_one : ℕ → Passage → Rows → Rows
with_one p x [] = []
with_one p x (r ∷ rs) = cond (eqb p r.0) ((r.0, record r.1 { counts = more x r.1.counts }) ∷ rs) (r ∷ with_one p x rs)

abbrev pub with_passage : Option (ℕ × Passage) → Rows → Rows
with_passage None rs = rs
with_passage (Some x) rs = with_one x.0 x.1 rs

-- after an event that makes this, or moves a value so
abbrev pub rows_by : Option (ℕ × WhatView × Option ℕ) → Option (ℕ × Passage) → Rows → Rows
rows_by (Some y) o rs = with_new y.0 y.1 y.2 rs
rows_by None o rs = with_passage o rs

abbrev pub rows_after : EventView → Rows → Rows
rows_after e rs = rows_by (made_by_event e) (passage_in e) rs

abbrev pub AllFew : Rows → Type 0
AllFew rs = Each (λ (r : ℕ × ChannelRow). AreFew r.1.counts) rs

-- what the events say of a channel that they made
abbrev pub row_of : List EventView → Made → ℕ × ChannelRow
row_of es m = (m.port, record { what = m.what; moment = m.moment; counts = record { accepted = accepted m.port es; passed = passed m.port es; given = given_out m.port es } })

-- the tally is that of these events
pub record IsTally (t : Tally) (es : List EventView) : Type 0 where
  pub events : t.events ≡ length es
  pub cost : t.cost ≡ cost es
  pub rows : rows t ≡ map (row_of es) (channels_made es)

abbrev pub makes_promise : WhatView → Bool
makes_promise promise = true
makes_promise what = false

abbrev pub made_in_row : ℕ → ChannelRow → Made
made_in_row p r = record { port = p; what = r.what; moment = r.moment }

-- the line of a channel that holds so many values, and is closed or open
abbrev pub row_text : ℕ → ChannelRow → ℕ → Bool → List ℕ
row_text p r held closed =
    made_text (made_in_row p r) ++ counts_text r.counts.accepted r.counts.passed r.counts.given (lost (makes_promise r.what) r.counts.accepted r.counts.given held) held
    ++ closed_text closed ++ 10 ∷ []

abbrev pub row_where : ℕ → ChannelRow → Option Channel → List ℕ
row_where p r None = []
row_where p r (Some c) = row_text p r (length c.held) c.closed

abbrev pub row_line : State → ℕ × ChannelRow → List ℕ
row_line s r = row_where r.0 r.1 (s.channels r.0)

abbrev pub tally_head : Tally → List ℕ
tally_head t = (codes "events" ⋅ decimal t.events) ++ word_and_count (codes "cost") t.cost ++ 10 ∷ []

-- what is told of the tally and the state that its journal leads to
abbrev pub tally_text : State → Tally → List ℕ
tally_text s t = tally_head t ++ flat_map (row_line s) (rows t) ++ flat_map wait_line s.waits

-- a wait as plain data
abbrev pub wait_told : ℕ → Option ℕ → List Branch → Wait
wait_told number owner branches = record { number = number; owner = owner; branches = map branch_view branches }
