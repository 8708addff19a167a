use Rattle.std.proofs.Common.{◌≡◌, Some, None, ◌∙◌}
use Rattle.ca_journal.specs.Events.{events}
use Rattle.ca_journal.specs.Latest.{last_listed}
use Rattle.ca_journal.specs.Note.{note_view}
use Rattle.ca_run.proofs.Ends.{told_by}
use Rattle.ca_run.proofs.run.last_fault.Goals as goal

pub returns : goal.returns
returns c = λ f p r ends.
    let last : Some (note_view c.in-Some.note.now) ≡ last_listed (events c.args.journal.now) = rw c.in-Some.is at c.in_ok-note.ensures in
    c.fault_of.ensures ∙ told_by (events c.args.journal.now) (Some (note_view c.in-Some.note.now)) last f p r ends

pub returns-in_default : goal.returns-in_default
returns-in_default c = λ f p r ends.
    let last : None ≡ last_listed (events c.args.journal.now) = rw c.in_default.is at c.in_ok-note.ensures in
    told_by (events c.args.journal.now) None last f p r ends
