use Rattle.std.proofs.Common.{◌≡◌, ℕ, drop, true}
use Rattle.ca_commit.specs.Branching.{branches_in}
use Rattle.ca_commit.specs.Finding.{Glance}
use Rattle.ca_commit.specs.Planning.{Planned, in_turn}
use Rattle.ca_commit.specs.Showing.{seen_by}
use Rattle.ca_commit.proofs.choosing.in_turn.Given as goal

abbrev pub invariant-loop-place : goal.invariant-loop-place
invariant-loop-place l = (see : ℕ → Glance) (rest : Planned) → in_turn (seen_by l.banks see) true l.place (branches_in (drop l.place l.ports)) rest ≡ in_turn (seen_by l.banks see) true l.from (branches_in (drop l.from l.ports)) rest
