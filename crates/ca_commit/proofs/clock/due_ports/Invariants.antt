use Rattle.std.proofs.Common.{◌≡◌, ◌++◌, drop, length, map}
use Rattle.ca_value.specs.Deadlines.{due}
use Rattle.ca_value.specs.Seq.{list}
use Rattle.ca_term.specs.Event.{port_number}
use Rattle.ca_commit.proofs.clock.due_ports.Given as goal

abbrev pub invariant-loop-port : goal.invariant-loop-port
invariant-loop-port l = map port_number (list l.ports) ++ drop (length (list l.ports)) (due l.now l.timers.deadlines) ≡ due l.now l.timers.deadlines

abbrev pub decreases-loop-port : goal.decreases-loop-port
decreases-loop-port l = length (drop (length (list l.ports)) (due l.now l.timers.deadlines))
