use Rattle.std.proofs.Common.{◌≡◌, ◌++◌, drop}
use Rattle.ca_value.specs.Seq.{list}
use Rattle.ca_value.specs.View.{views}
use Rattle.ca_value.specs.Texts.{joined_text}
use Rattle.ca_value.proofs.builtin.text.join.Given as goal

abbrev pub invariant-loop-value : goal.invariant-loop-value
invariant-loop-value l = list l.text ++ joined_text (views (drop l.value-index l.args)) ≡ list l.initial.text ++ joined_text (views l.args)
