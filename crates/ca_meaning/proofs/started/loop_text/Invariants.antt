use Rattle.std.proofs.Common.{◌≡◌, drop}
use Rattle.ca_value.specs.Seq.{list}
use Rattle.ca_term.specs.Kernel.{puts}
use Rattle.ca_term.specs.View.{kernel, founds}
use Rattle.ca_meaning.proofs.started.loop_text.Given as goal

abbrev pub invariant-loop-found : goal.invariant-loop-found
invariant-loop-found l = puts (founds (drop l.found-index l.found-items)) (kernel l.now) ≡ puts (founds (list l.known)) (kernel l.text)
