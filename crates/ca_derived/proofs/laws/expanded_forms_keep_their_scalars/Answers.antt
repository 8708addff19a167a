use Rattle.ca_derived.proofs.ScalarRows.{expanded_have}
use Rattle.ca_derived.proofs.laws.expanded_forms_keep_their_scalars.Goals as goal

pub returns : goal.returns
returns c = expanded_have
