use Rattle.std.proofs.Common.{drop, map}
use Rattle.ca_meaning.specs.Sound.{Each}
use Rattle.ca_meaning.specs.Shown.{IsNumber}
use Rattle.ca_term.specs.Event.{port_number}
use Rattle.ca_journal.proofs.numbered.ports_numbered.Given as goal

abbrev pub invariant-loop-port : goal.invariant-loop-port
invariant-loop-port l = Each IsNumber (map port_number (drop l.port-index l.ports)) → Each IsNumber (map port_number l.ports)
