use Rattle.std.proofs.Common.{◌≡◌, ◌++◌}
use Rattle.ca_forms.specs.WalkView.{gathered}
use Rattle.ca_check.proofs.DefnLaws.{names_from}
use Rattle.ca_check.proofs.walk.Walker.bind_parameters.Given as goal

abbrev pub invariant-loop-parameter : goal.invariant-loop-parameter
invariant-loop-parameter l = record {
  names : l.self.scope ++ names_from l.parameters l.parameter-index ≡ l.fn.self.scope ++ names_from l.parameters 0;
  same : gathered l.self.gathered ≡ gathered l.fn.self.gathered;
}
