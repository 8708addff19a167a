use Rattle.std.proofs.Common.{◌≡◌, ◌++◌, drop}
use Rattle.ca_value.specs.Seq.{list}
use Rattle.ca_lower.specs.Implements.{in_slots}
use Rattle.ca_lower.specs.Views.{scope_view}
use Rattle.ca_lower.proofs.text.parameters_in_slots.Given as goal

abbrev pub invariant-loop-name : goal.invariant-loop-name
invariant-loop-name l = scope_view (list l.names) ++ in_slots (drop l.name-index l.parameters) l.slot ≡ in_slots l.parameters 0
