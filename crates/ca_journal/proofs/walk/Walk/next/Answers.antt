use Rattle.std.proofs.Common.{◌≡◌, ◌∷◌, map, List, ◌∙◌, ap}
use Rattle.ca_journal.specs.Kept.{upto}
use Rattle.ca_journal.specs.Left.{entries_waiting}
use Rattle.ca_journal.specs.Merge.{Numbered, entry_view, events_of, in_order, joined}
use Rattle.ca_journal.specs.Note.{note_view}
use Rattle.ca_journal.proofs.walk.Walk.next.Goals as goal

pub returns-clause-order : goal.returns-clause-order
returns-clause-order c =
    let left = c.args.self.now.left in
    let rest = in_order (joined (map (entries_waiting c.args.self.now.lists.now) c.next.new.fronts.items)) in
    let order : in_order (joined (map (entries_waiting c.args.self.now.lists.now) c.args.self.now.fronts.items)) ≡ entry_view c.in_ok-entry.entry.now ∷ rest = c.in_ok-entry.ensures.order in
    ap (λ (es : List Numbered). upto left (events_of es)) order ∙ c.in_ok-left.ensures.behind (note_view c.in_ok-entry.entry.now.note) (events_of rest)
