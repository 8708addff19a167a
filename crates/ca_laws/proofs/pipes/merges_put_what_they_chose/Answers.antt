use Rattle.ca_laws.proofs.Merging.{merges_keep_to}
use Rattle.ca_laws.proofs.pipes.merges_put_what_they_chose.Goals as goal

pub returns : goal.returns
returns c = merges_keep_to
