use Rattle.std.proofs.Common.{◌≡◌, ◌+◌, ◌≤◌, drop, length}
use Rattle.ca_value.specs.View.{tree_pairs}
use Rattle.ca_meaning.specs.Registry.{a_mix, toggled}
use Rattle.ca_registry.specs.Mixes.{mix_sources, mix_spare}
use Rattle.ca_registry.proofs.mix.Mix.toggle_all.Given as goal

abbrev pub invariant-loop-pair : goal.invariant-loop-pair
invariant-loop-pair l = record {
  done : a_mix l.self.out l.self.changes l.self.pausing (toggled (tree_pairs (drop l.pair-index l.pairs)) (mix_sources l.self)) ≡ a_mix l.fn.self.out l.fn.self.changes l.fn.self.pausing (toggled (tree_pairs l.pairs) (mix_sources l.fn.self));
  room : length l.pairs ≤ mix_spare l.self + l.pair-index;
}
