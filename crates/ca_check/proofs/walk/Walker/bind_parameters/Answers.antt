use Rattle.std.proofs.Common.{◌+◌, ◌++◌, ap, sym, ◌∙◌, arith, List, ℕ}
use Rattle.ca_check.proofs.DefnLaws.{names_bound, names_from, names_over}
use Rattle.ca_check.proofs.walk.Walker.bind_parameters.Goals as goal

pub loop-parameter-preserved : goal.loop-parameter-preserved
loop-parameter-preserved c = record {
  names = ap (λ (sc : List (List ℕ)). sc ++ names_from c.args.parameters.now (c.loop-parameter.parameter-index + 1)) c.in_ok-bind_name.ensures.ok
      ∙ names_bound c.loop-parameter.self.scope c.args.parameters.now c.loop-parameter.parameter-index c.parameter-item.result (omega arith) c.parameter-item.is ∙ c.loop-parameter.invariant.names;
  same = c.in_ok-bind_name.ensures.gathered ∙ c.loop-parameter.invariant.same;
}

pub returns-clause-ok : goal.returns-clause-ok
returns-clause-ok c = sym (names_over c.loop-parameter.self.scope c.args.parameters.now c.loop-parameter.parameter-index (omega arith)) ∙ c.loop-parameter.invariant.names
