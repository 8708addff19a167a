use Rattle.std.proofs.Common.{rules}
use Rattle.ca_commit.proofs.InPlace.{within_ports}
use Rattle.ca_commit.proofs.standing.branch_of.Goals as goal

pub port_branch-requires : goal.port_branch-requires
port_branch-requires g c = within_ports c.as_slice.result.now c.args.number (search rules)
