use Rattle.std.proofs.Common.{◌≡◌, drop}
use Rattle.ca_value.specs.View.{trees}
use Rattle.ca_meaning.specs.Applied.{has_nil}
use Rattle.ca_jobs.proofs.outputs.has_nil.Given as goal

abbrev pub invariant-loop-value : goal.invariant-loop-value
invariant-loop-value l = has_nil (trees (drop l.value-index l.values)) ≡ has_nil (trees l.values)
