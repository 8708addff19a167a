-- Where a task stands, but for the value of one that ended.
use Rattle.std.specs.Prelude.{ℕ}
use Rattle.ca_term.specs.declared.place.Place.{Place}
use Rattle.ca_term.specs.declared.fault.Fault.{Fault}
use Rattle.ca_term.specs.Operation.{want_view, WantView}
use Rattle.ca_meaning.specs.Body.{At, local, at_op, ended, faulted, nowhere}
use Rattle.ca_scene.specs.declared.task.Standing.{Standing}

pub data Shown : Type 0 where
  shown_op : WantView → Shown
  shown_end : Shown
  shown_fault : Fault → Place → Shown
  elsewhere : Shown

abbrev pub shown_at : At → Shown
shown_at local = elsewhere
shown_at (at_op w) = shown_op w
shown_at (ended v) = shown_end
shown_at (faulted f p) = shown_fault f p
shown_at nowhere = elsewhere

abbrev pub standing_view : Standing → Shown
standing_view (Standing.AtOp w) = shown_op (want_view w)
standing_view Standing.Ended = shown_end
standing_view (Standing.Faulted f p) = shown_fault f p
