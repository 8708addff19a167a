use Rattle.std.proofs.Common.{refl}
use Rattle.ca_commit.specs.Opening.{unasked}
use Rattle.ca_commit.proofs.Opens.{opens}
use Rattle.ca_commit.proofs.laws.runs_open.Goals as goal

pub returns : goal.returns
returns g c program n main body least faults readings some st = opens g.A.Agent.place g.A.Agent.stands n program main body (unasked least faults readings) some st refl refl
