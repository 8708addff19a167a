use Rattle.ca_derived_laws.proofs.Splitting.{splits_keep}
use Rattle.ca_derived_laws.proofs.laws.splits_pass_on_by_their_test.Goals as goal

pub returns : goal.returns
returns c = splits_keep
