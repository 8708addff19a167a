use Rattle.std.proofs.Common.{◌≡◌, ◌+◌, ◌≤◌, length, take, map}
use Rattle.ca_value.specs.Seq.{list, spare}
use Rattle.ca_value.specs.Tree.{port}
use Rattle.ca_value.specs.View.{views}
use Rattle.ca_mix.proofs.mix.branches.Given as goal

abbrev pub invariant-loop-port : goal.invariant-loop-port
invariant-loop-port l = record {
  same : views (list l.ports) ≡ map (λ n. port n) (map (λ p. p.n) (take l.port-index l.reads));
  room : length l.reads + 1 ≤ spare l.ports + l.port-index;
}
