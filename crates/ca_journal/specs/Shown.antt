-- The event that is shown of a note.
use Rattle.ca_term.specs.Event.{EventView, event_view}
use Rattle.ca_journal.specs.declared.note.Note.{Note}
use Rattle.ca_journal.specs.declared.shown.Shown.{Shown}

abbrev pub shown_view : Shown → EventView
shown_view (Shown.Kept event) = event_view event.now
shown_view (Shown.Made event) = event_view event

-- a take or a put is done at once
abbrev pub IsDoneNote : Note → Type 0
IsDoneNote (Note.Took branch task port answer) = Unit {0}
IsDoneNote (Note.Gave branch accepted task port value) = Unit {0}
IsDoneNote note = ⊥

-- a task waits on one branch
abbrev pub IsParked : Note → Type 0
IsParked (Note.TakeParked task wait port) = Unit {0}
IsParked (Note.PutParked task wait port value) = Unit {0}
IsParked note = ⊥

-- a value passes to or from a wait
abbrev pub ValuePasses : Note → Type 0
ValuePasses (Note.Met side branch other task port wait value) = Unit {0}
ValuePasses (Note.Settled side branch wait port value) = Unit {0}
ValuePasses note = ⊥
