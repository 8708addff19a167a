use Rattle.std.proofs.Common.{◌≡◌, drop}
use Rattle.ca_lower.specs.Implements.{slot_of}
use Rattle.ca_lower.specs.Views.{scope_view}
use Rattle.ca_lower.proofs.builder.slot_of.Given as goal

abbrev pub invariant-loop-known : goal.invariant-loop-known
invariant-loop-known l = slot_of (scope_view l.names) l.name ≡ slot_of (scope_view (drop l.known-index l.names)) l.name
