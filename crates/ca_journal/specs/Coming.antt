-- The events that a walk comes to.
use Rattle.std.specs.Prelude.{List, map}
use Rattle.ca_term.specs.Event.{EventView}
use Rattle.ca_journal.specs.declared.walk.Walk.{Walk}
use Rattle.ca_journal.specs.Kept.{upto}
use Rattle.ca_journal.specs.Left.{entries_waiting}
use Rattle.ca_journal.specs.Merge.{events_of, in_order, joined}

abbrev pub coming : Walk → List EventView
coming w = upto w.left (events_of (in_order (joined (map (entries_waiting w.lists.now) w.fronts.items))))
