use Rattle.std.proofs.Common.{◌≡◌, ◌+◌, ◌≤◌, drop}
use Rattle.ca_value.specs.View.{tree_pairs}
use Rattle.ca_registry.specs.Mixes.{mix_sources, new_in}
use Rattle.ca_registry.proofs.mix.Mix.count_new.Given as goal

abbrev pub invariant-loop-pair : goal.invariant-loop-pair
invariant-loop-pair l = record {
  counted : l.count + new_in (tree_pairs (drop l.pair-index l.pairs)) (mix_sources l.self) ≡ new_in (tree_pairs l.pairs) (mix_sources l.self);
  few : l.count ≤ l.pair-index;
}
