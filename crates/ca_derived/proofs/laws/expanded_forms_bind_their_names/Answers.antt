use Rattle.ca_derived.proofs.HiddenWalk.{expanded_bound}
use Rattle.ca_derived.proofs.laws.expanded_forms_bind_their_names.Goals as goal

pub returns : goal.returns
returns c = expanded_bound
