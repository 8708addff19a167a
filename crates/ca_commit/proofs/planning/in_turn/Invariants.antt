use Rattle.std.proofs.Common.{◌≡◌, ◌+◌, drop, true}
use Rattle.ca_commit.specs.Branching.{branches_in}
use Rattle.ca_commit.specs.Planning.{Planned, in_turn}
use Rattle.ca_commit.specs.Showing.{seen}
use Rattle.ca_commit.proofs.planning.in_turn.Given as goal

abbrev pub invariant-loop-place : goal.invariant-loop-place
invariant-loop-place g l = (rest : Planned) → in_turn (seen l.banks l.shards) true (l.base + l.place) (branches_in (drop l.place l.ports)) rest ≡ in_turn (seen l.banks l.shards) true l.base (branches_in l.ports) rest
