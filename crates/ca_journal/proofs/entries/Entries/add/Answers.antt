use Rattle.std.proofs.Common.{◌≡◌, ◌+◌, ◌≤◌, List, ◌∷◌, ◌++◌, [], length, cond, refl, sym, ◌∙◌, ap, ap₂, arith}
use Rattle.ca_term.specs.Cost.{cost_of}
use Rattle.ca_meaning.specs.Cost.{cost}
use Rattle.ca_journal.specs.Note.{note_view}
use Rattle.ca_journal.specs.Numbered.{Numbered, entry_view, events_of, laid}
use Rattle.ca_journal.specs.Said.{is_said}
use Rattle.ca_journal.specs.declared.entry.Spot.{Spot}
use Rattle.ca_journal.specs.Mains.{mains}
use Rattle.ca_journal.proofs.Pieces.{laid_push}
use Rattle.ca_journal.proofs.Saying.{said_push, spot_of}
use Rattle.ca_journal.proofs.Spending.{cost_push, events_append, mains_append}
use Rattle.ca_journal.proofs.entries.Entries.add.Goals as goal

pub invariant_of-self : goal.invariant_of-self
invariant_of-self c =
    let now = c.args.self.now in
    let new = c.push_reserved.new.self in
    let pieces : c.len.result ≡ length now.full.items = omega (arith, c.len.ensures, now.full.ok) in
    let place : c.len-2.result ≡ length now.last.items = omega (arith, c.len-2.ensures, now.last.ok) in
    let is : c.is_said.result ≡ is_said (note_view c.args.entry.note) = c.is_said.ensures in
    let spot : cond c.is_said.result (record { piece = c.len.result; place = c.len-2.result } ∷ []) [] ≡ spot_of (length now.full.items) (length now.last.items) (entry_view c.args.entry) = rw (is, pieces, place) refl in
    let pushed : laid now.full.items new ≡ laid now.full.items now.last ++ entry_view c.args.entry ∷ [] = laid_push now.full.items now.last new c.args.entry c.push_reserved.ensures.items in
    record {
      told = c.note_spot.ensures ∙ ap₂ (λ (xs ys : List Spot). xs ++ ys) now.told spot ∙ sym (said_push now.full.items now.last new c.args.entry c.push_reserved.ensures.items);
      counted = λ lt.
          let more : now.spent + cost_of (note_view c.args.entry.note) ≤ c.spent_with-self.result = c.spent_with-self.ensures lt in
          let before : cost (events_of (laid now.full.items now.last)) ≤ now.spent = now.counted (omega (arith, more, lt)) in
          omega (arith, more, before, ap (λ (es : List Numbered). cost (events_of es)) pushed, cost_push (laid now.full.items now.last) (entry_view c.args.entry));
      ended = λ lt.
          let more : now.ends + mains (note_view c.args.entry.note ∷ []) ≡ c.ends_with-self.result = c.ends_with-self.ensures lt in
          let before : mains (events_of (laid now.full.items now.last)) ≡ now.ends = now.ended (omega (arith, more, lt)) in
          let all : mains (events_of (laid now.full.items now.last) ++ note_view c.args.entry.note ∷ []) ≡ mains (events_of (laid now.full.items now.last)) + mains (note_view c.args.entry.note ∷ []) = mains_append (events_of (laid now.full.items now.last)) (note_view c.args.entry.note ∷ []) in
          ap mains (ap events_of pushed ∙ events_append (laid now.full.items now.last) (entry_view c.args.entry ∷ [])) ∙ omega (arith, all, before, more);
    }
