use Rattle.std.proofs.Common.{◌++◌, List, ℕ, ap, ◌∙◌}
use Rattle.ca_check.proofs.function_body.all_parameters.Goals as goal

pub returns : goal.returns
returns c = record {
  ok = c.from_vec.ensures ∙ c.in_ok-extend_from_slice.ensures.items ∙ ap (λ (l : List ℕ). l ++ c.args.hidden.now) (c.into_vec-all.ensures ∙ c.in_ok-numbers.ensures.ok);
}
