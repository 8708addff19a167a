use Rattle.ca_commit.proofs.Just.{plain_just}
use Rattle.ca_commit.proofs.decisions.plain_touch_just.Goals as goal

pub returns : goal.returns
returns g c = plain_just
