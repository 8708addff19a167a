use Rattle.std.proofs.Common.{◌≡◌, drop, map}
use Rattle.ca_term.specs.Event.{port_number}
use Rattle.ca_scene.specs.Same.{same_numbers}
use Rattle.ca_scene.proofs.same_event.same_ports.Given as goal

abbrev pub invariant-loop-i : goal.invariant-loop-i
invariant-loop-i l = same_numbers (map port_number (drop l.i l.a)) (map port_number (drop l.i l.b)) ≡ same_numbers (map port_number l.a) (map port_number l.b)
