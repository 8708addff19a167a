use Rattle.std.proofs.Common.{◌≡◌, drop}
use Rattle.ca_states.specs.Valid.{each, begins_well}
use Rattle.ca_states.specs.Views.{texts_view}
use Rattle.ca_states.proofs.range.Texts.begin_well.Given as goal

abbrev pub invariant-loop-entry : goal.invariant-loop-entry
invariant-loop-entry l = each (begins_well (texts_view l.self)) l.entries ≡ each (begins_well (texts_view l.self)) (drop l.entry-index l.entries)
