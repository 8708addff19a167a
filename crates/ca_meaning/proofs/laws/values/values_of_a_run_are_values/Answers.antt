use Rattle.ca_value.specs.IsValue.{any}
use Rattle.ca_meaning.proofs.ValueRuns.{run_holds}
use Rattle.ca_meaning.proofs.ValuesWritten.{written_of, any_program}
use Rattle.ca_meaning.proofs.ValueCosts.{shown_weighs, all_light, costs_little}
use Rattle.ca_meaning.proofs.laws.values.values_of_a_run_are_values.Goals as goal

pub returns : goal.returns
returns c = record {
  state = λ scalars program checked constants journal s r. (run_holds scalars program (written_of scalars program checked constants) journal s r).0;
  events = λ scalars program checked constants journal s r. (run_holds scalars program (written_of scalars program checked constants) journal s r).1;
  any_constants = any_program;
  light = λ program journal s checked r. all_light any journal (run_holds any program (written_of any program checked (any_program program)) journal s r).1;
  shown = shown_weighs;
  costs = costs_little;
}
