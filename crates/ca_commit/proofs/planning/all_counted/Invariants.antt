use Rattle.std.proofs.Common.{◌≡◌, drop}
use Rattle.ca_commit.specs.Branching.{branches_in}
use Rattle.ca_commit.specs.Planning.{Planned, all_counted}
use Rattle.ca_commit.specs.Showing.{seen}
use Rattle.ca_commit.proofs.planning.all_counted.Given as goal

abbrev pub invariant-loop-place : goal.invariant-loop-place
invariant-loop-place g l = (rest : Planned) → all_counted (seen l.banks l.shards) (branches_in (drop l.place l.ports)) rest ≡ all_counted (seen l.banks l.shards) (branches_in l.ports) rest
