-- The report on a legal journal: what each of its channels did, and who still waits.
use Rattle.std.specs.Prelude.{ℕ, List, [], ◌∷◌, ◌++◌, Option, Some, None, Bool, true, false, length, codes, decimal, flat_map}
use Rattle.ca_term.specs.Event.{EventView}
use Rattle.ca_meaning.specs.Channel.{Channel}
use Rattle.ca_meaning.specs.Cost.{cost}
use Rattle.ca_meaning.specs.Journal.{task_text, port_text, wait_text, what_text, branches_text}
use Rattle.ca_meaning.specs.State.{State}
use Rattle.ca_meaning.specs.Texts.{◌⋅◌}
use Rattle.ca_meaning.specs.Wait.{Wait}
use Rattle.ca_report.specs.Counts.{accepted, passed, given_out, dropped}
use Rattle.ca_report.specs.Made.{Made, channels_made}

-- a word and a number, behind a space
abbrev pub word_and_count : List ℕ → ℕ → List ℕ
word_and_count word n = 32 ∷ (word ⋅ decimal n)

-- how many events there are, and what they cost together
abbrev pub head_line : List EventView → List ℕ
head_line journal = (codes "events" ⋅ decimal (length journal)) ++ word_and_count (codes "cost") (cost journal) ++ 10 ∷ []

abbrev pub closed_text : Bool → List ℕ
closed_text true = codes " closed"
closed_text false = codes " open"

-- a channel's port and what it is, as in its Make line
abbrev pub made_text : Made → List ℕ
made_text m = (port_text m.port ⋅ what_text m.what m.moment) ++ 58 ∷ []

-- how many values a channel accepted, passed, gave and dropped, and holds
abbrev pub counts_text : ℕ → ℕ → ℕ → ℕ → ℕ → List ℕ
counts_text accepted passed given dropped held =
    word_and_count (codes "accepted") accepted ++ word_and_count (codes "passed") passed ++ word_and_count (codes "given") given
    ++ word_and_count (codes "dropped") dropped ++ word_and_count (codes "held") held

-- a channel that the journal made, and left so
abbrev pub channel_line : List EventView → Made → Channel → List ℕ
channel_line journal m c =
    made_text m ++ counts_text (accepted m.port journal) (passed m.port journal) (given_out m.port journal) (dropped journal m.port c) (length c.held)
    ++ closed_text c.closed ++ 10 ∷ []

abbrev pub line_where : List EventView → Made → Option Channel → List ℕ
line_where journal m None = []
line_where journal m (Some c) = channel_line journal m c

-- a line for each channel that the journal made, in order of number
abbrev pub channel_lines : List EventView → State → List ℕ
channel_lines journal s = flat_map (λ m. line_where journal m (s.channels m.port)) (channels_made journal)

abbrev pub owner_text : Option ℕ → List ℕ
owner_text None = codes "-"
owner_text (Some t) = task_text t

-- who waits, and on what, as in its Park line
abbrev pub wait_line : Wait → List ℕ
wait_line w = ((wait_text w.number ⋅ owner_text w.owner) ++ 58 ∷ []) ⋅ (branches_text w.branches ++ 10 ∷ [])

-- what is told of a journal and the state that it leads to
abbrev pub report_text : List EventView → State → List ℕ
report_text journal s = head_line journal ++ channel_lines journal s ++ flat_map wait_line s.waits
