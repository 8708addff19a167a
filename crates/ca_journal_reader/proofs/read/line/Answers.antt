use Rattle.std.proofs.Common.{◌≡◌, ◌∷◌, ◌++◌, [], List, rules, Some, Err, ap, ◌∙◌}
use Rattle.std.proofs.lemmas.Result.{IfOk-weaker}
use Rattle.ca_term.specs.Event.{event_view}
use Rattle.ca_meaning.specs.Journal.{event_line}
use Rattle.ca_journal.specs.Merge.{Numbered, entries}
use Rattle.ca_journal_reader.specs.declared.refused.Refused.{Refused}
use Rattle.ca_journal_reader.specs.declared.refused.Refused.TheVariants.{Bad}
use Rattle.ca_journal_reader.specs.EventText.{entry_in}
use Rattle.ca_journal_reader.specs.Front.{HasLine}
use Rattle.ca_journal_reader.proofs.Lines.{err_is, line_none, line_other, line_there}
use Rattle.ca_journal_reader.proofs.read.line.Goals as goal

pub returns-in_err-event-clause-bad : goal.returns-in_err-event-clause-bad
returns-in_err-event-clause-bad c = λ e.
    let refused = c.in_err-event.field-0.0 in
    let same : c.from_residual-in_err-event.result ≡ Err refused = search rules in
    let is : refused ≡ Bad = err_is c.from_residual-in_err-event.result refused Bad same e in
    line_none c.args.number c.args.bytes.now c.ranges.number.fits (c.in_err-event.ensures.bad (ap (λ (x : Refused). Err x) is))

pub returns-clause-line : goal.returns-clause-line
returns-clause-line c =
    let event = event_view c.in_ok-event.event in
    let is : entry_in c.args.bytes.now ≡ Some event = c.in_ok-event.ensures.there in
    let line : c.as_slice.result.now ≡ event_line c.args.number event = c.as_slice.ensures ∙ c.in_ok-note.ensures.printed in
    let added : entries c.note.new.noted ≡ entries c.args.noted.now ++ record { number = c.args.number; event = event } ∷ [] =
    c.note.ensures.added ∙ ap (λ (z : List Numbered). z ++ record { number = c.args.number; event = event } ∷ []) c.reserve.ensures.same in
    IfOk-weaker c.behind.result _ (λ r. HasLine c.args.number c.args.bytes.now r.now (entries c.args.noted.now) (entries c.note.new.noted))
    (λ r passed. line_there c.args.number c.args.bytes.now event c.as_slice.result.now r.now (entries c.args.noted.now) (entries c.note.new.noted) is line passed added) c.behind.ensures.there

pub returns-clause-bad : goal.returns-clause-bad
returns-clause-bad c = λ e.
    let event = event_view c.in_ok-event.event in
    let is : entry_in c.args.bytes.now ≡ Some event = c.in_ok-event.ensures.there in
    let line : c.as_slice.result.now ≡ event_line c.args.number event = c.as_slice.ensures ∙ c.in_ok-note.ensures.printed in
    line_other c.args.number c.args.bytes.now event c.as_slice.result.now c.ranges.number.fits is line (c.behind.ensures.bad e)
