use Rattle.std.proofs.Common.{◌≡◌, ◌+◌, ◌<◌, ◌^◌, length}
use Rattle.ca_value.specs.Seq.{list}
use Rattle.ca_term.specs.View.{kernel}
use Rattle.ca_forms.specs.Judged.{chain_of}
use Rattle.ca_forms.specs.Meaning.{numbered}
use Rattle.ca_forms.specs.WalkView.{gathered, terms_of}
use Rattle.ca_forms.proofs.gathered.Bodies.chain.Given as goal

abbrev pub invariant-loop-value : goal.invariant-loop-value
invariant-loop-value l = record {
  same : chain_of l.both (numbered l.first (terms_of (list l.values))) (kernel l.made) (gathered l.self) ≡ chain_of l.both (numbered l.first (terms_of (list l.fn.values))) (kernel l.fn.last) (gathered l.fn.self);
  small : l.first + length (list l.values) < 2 ^ 64;
}

abbrev pub decreases-loop-value : goal.decreases-loop-value
decreases-loop-value l = length (list l.values)
