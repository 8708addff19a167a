use Rattle.std.proofs.Common.{◌≡◌, ◌+◌, drop}
use Rattle.ca_value.specs.Seq.{list}
use Rattle.ca_term.specs.View.{kernels}
use Rattle.ca_meaning.specs.Parts.{first_open}
use Rattle.ca_meaning.proofs.replace.first_open.Given as goal

abbrev pub invariant-loop-term : goal.invariant-loop-term
invariant-loop-term l = record {
  at : l.place ≡ l.term-index;
  rest : l.place + first_open (kernels (drop l.term-index l.term-items)) ≡ first_open (kernels (list l.terms));
}
