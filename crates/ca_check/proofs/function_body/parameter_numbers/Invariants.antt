use Rattle.std.proofs.Common.{◌≡◌, ◌≤◌, ◌+◌, ◌++◌, length}
use Rattle.ca_value.specs.Seq.{list, spare}
use Rattle.ca_forms.specs.Tops.{numbers}
use Rattle.ca_check.proofs.DefnLaws.{names_from}
use Rattle.ca_check.proofs.function_body.parameter_numbers.Given as goal

abbrev pub invariant-loop-i : goal.invariant-loop-i
invariant-loop-i l = record {
  same : list l.numbers ++ numbers (l.first + l.i) (names_from l.parameters l.i) ≡ numbers (l.first + 0) (names_from l.parameters 0);
  room : length l.parameters ≤ spare l.numbers + l.i;
}
