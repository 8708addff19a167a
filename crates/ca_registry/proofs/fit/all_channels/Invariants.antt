use Rattle.std.proofs.Common.{◌≡◌, drop}
use Rattle.ca_value.specs.View.{tree_pairs}
use Rattle.ca_meaning.specs.Refusal.{is_channel}
use Rattle.ca_meaning.specs.Registry.{all_channels}
use Rattle.ca_registry.proofs.fit.all_channels.Given as goal

abbrev pub invariant-loop-pair : goal.invariant-loop-pair
invariant-loop-pair g l = all_channels (is_channel (g.P.Ports.state l.ports)) (tree_pairs (drop l.pair-index l.pairs)) ≡ all_channels (is_channel (g.P.Ports.state l.ports)) (tree_pairs l.pairs)
