use Rattle.std.proofs.Common.{◌≡◌, ◌+◌, ◌≤◌, length, drop, map}
use Rattle.ca_value.specs.Seq.{list, spare}
use Rattle.ca_value.specs.View.{trees}
use Rattle.ca_meaning.specs.Asks.{ports_of}
use Rattle.ca_pubsub.proofs.AnswerLaws.{behind}
use Rattle.ca_pubsub.proofs.answers.ports_of.Given as goal

abbrev pub invariant-loop-item : goal.invariant-loop-item
invariant-loop-item l = record {
  same : behind (map (λ p. p.n) (list l.ports)) (ports_of (trees (drop l.item-index l.items))) ≡ ports_of (trees l.items);
  room : length l.items ≤ spare l.ports + l.item-index;
}
