use Rattle.std.proofs.Common.{◌≡◌, ◌≤◌, ◌+◌, take, length}
use Rattle.ca_value.specs.Seq.{list, spare}
use Rattle.ca_term.specs.View.{founds}
use Rattle.ca_meaning.specs.Started.{names_found}
use Rattle.ca_meaning.proofs.started.names_of.Given as goal

abbrev pub invariant-loop-found : goal.invariant-loop-found
invariant-loop-found l = record {
  same : list l.names ≡ names_found (founds (take l.found-index l.found-items));
  room : length l.found-items ≤ spare l.names + l.found-index;
}
