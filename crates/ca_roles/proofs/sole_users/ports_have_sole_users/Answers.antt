use Rattle.ca_roles.proofs.SoleLaw.{users_are_sole, users_come_first}
use Rattle.ca_roles.proofs.sole_users.ports_have_sole_users.Goals as goal

pub returns : goal.returns
returns c = record { sole = users_are_sole; first = users_come_first }
