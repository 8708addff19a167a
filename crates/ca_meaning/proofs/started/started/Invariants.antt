use Rattle.std.proofs.Common.{◌≡◌, drop}
use Rattle.ca_value.specs.Seq.{list}
use Rattle.ca_value.specs.View.{views}
use Rattle.ca_term.specs.Kernel.{puts}
use Rattle.ca_term.specs.View.{kernel}
use Rattle.ca_meaning.specs.Started.{named}
use Rattle.ca_meaning.proofs.started.started.Given as goal

abbrev pub invariant-loop-name : goal.invariant-loop-name
invariant-loop-name l = record {
  at : l.place ≡ l.name-index;
  rest : puts (named (drop l.name-index l.name-items) (views (drop l.name-index (list l.values)))) (kernel l.now) ≡ puts (named (list l.text.parameters) (views (list l.values))) (kernel l.text.body);
}
