-- A tally of all events of a legal journal makes the report on it.
use Rattle.std.proofs.Common.{◌≡◌, zero, suc, List, [], ◌∷◌, ◌++◌, flat_map, length, map, refl, sym, ap, ◌∙◌, subst, Bool, Option, Some, None, codes, decimal}
use Rattle.ca_term.specs.Operation.{WhatView, unbuffered, fixed, dropping, sliding, promise, timeout, mult, mix, publication}
use Rattle.ca_term.specs.Program.{ProgramView}
use Rattle.ca_term.specs.Event.{EventView}
use Rattle.ca_meaning.specs.Channel.{Channel, channel_made, is_promise as is_promise_by}
use Rattle.ca_meaning.specs.Legal.{Reaches}
use Rattle.ca_meaning.specs.Sound.{Each}
use Rattle.ca_meaning.specs.State.{State}
use Rattle.ca_meaning.specs.Texts.{◌⋅◌}
use Rattle.ca_report.specs.declared.tally.Tally.{Tally}
use Rattle.ca_report.specs.Counts.{accepted, passed, given_out, lost}
use Rattle.ca_report.specs.Made.{Made, channels_made}
use Rattle.ca_report.specs.Report.{word_and_count, closed_text, made_text, counts_text, line_where, wait_line, report_text}
use Rattle.ca_report.specs.Tallied.{IsTally, makes_promise, row_of, row_text, row_where, row_line, rows, tally_text}
use Rattle.ca_report.proofs.Telling.{There, facts}

-- a promise is made as one
abbrev Promises : Bool → Option Channel → Type 0
Promises b None = Unit {0}
Promises b (Some d) = b ≡ is_promise_by d.policy

promises : (what : WhatView) → Promises (makes_promise what) (channel_made what)
promises unbuffered = refl
promises (fixed zero) = refl
promises (fixed (suc n)) = refl
promises (dropping zero) = refl
promises (dropping (suc n)) = refl
promises (sliding zero) = refl
promises (sliding (suc n)) = refl
promises promise = refl
promises (timeout n) = refl
promises (mult source) = tt
promises (mix out changes) = tt
promises (publication source) = tt

module _ (journal : List EventView) (s : State) where
  row_is : (m : Made) → There s m → row_line s (row_of journal m) ≡ line_where journal m (s.channels m.port)
  row_is m (c, d, at, is, same) = ap (row_where m.port (row_of journal m).1) at ∙ middle ∙ ap (line_where journal m) (sym at) where
    kind : makes_promise m.what ≡ is_promise_by c.policy
    kind = subst (Promises (makes_promise m.what)) is (promises m.what) ∙ ap is_promise_by (sym same)

    middle : row_text m.port (row_of journal m).1 (length c.held) c.closed ≡ line_where journal m (Some c)
    middle = ap (λ (b : Bool). made_text m ++ counts_text (accepted m.port journal) (passed m.port journal) (given_out m.port journal) (lost b (accepted m.port journal) (given_out m.port journal) (length c.held)) (length c.held)
        ++ closed_text c.closed ++ 10 ∷ []) kind

  rows_are : (ms : List Made) → Each (There s) ms → flat_map (row_line s) (map (row_of journal) ms) ≡ flat_map (λ m. line_where journal m (s.channels m.port)) ms
  rows_are [] all = refl
  rows_are (m ∷ ms) all = λ i. row_is m all.0 i ++ rows_are ms all.1 i

pub reported : (program : ProgramView) (journal : List EventView) (s : State) (t : Tally) → Reaches program journal s → IsTally t journal → tally_text s t ≡ report_text journal s
reported program journal s t reaches saw = λ i. ((codes "events" ⋅ decimal (saw.events i)) ++ word_and_count (codes "cost") (saw.cost i) ++ 10 ∷ []) ++ lines i ++ flat_map wait_line s.waits where
  lines : flat_map (row_line s) (rows t) ≡ flat_map (λ m. line_where journal m (s.channels m.port)) (channels_made journal)
  lines = ap (flat_map (row_line s)) saw.rows ∙ rows_are journal s (channels_made journal) (facts program journal s reaches).there
