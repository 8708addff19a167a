use Rattle.ca_derived_laws.proofs.Reducing.{reduces_keep}
use Rattle.ca_derived_laws.proofs.laws.reduces_post_the_fold.Goals as goal

pub returns : goal.returns
returns c = reduces_keep
