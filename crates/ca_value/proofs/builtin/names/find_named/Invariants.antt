use Rattle.std.proofs.Common.{◌<◌, ℕ, get_or, ◌≢◌}
use Rattle.ca_value.specs.declared.builtin.Builtin.{Builtin}
use Rattle.ca_value.specs.Names.{name_of}
use Rattle.ca_value.proofs.builtin.names.find_named.Given as goal

abbrev pub invariant-loop-builtin : goal.invariant-loop-builtin
invariant-loop-builtin l = (k : ℕ) (d : Builtin) → k < l.builtin-index → name_of (get_or l.among k d) ≢ l.name
