use Rattle.std.proofs.Common.{◌≡◌, drop, map}
use Rattle.ca_term.specs.Event.{port_number}
use Rattle.ca_value.specs.Deadlines.{due}
use Rattle.ca_scene.specs.Same.{same_numbers}
use Rattle.ca_scene.proofs.ticking.are_due.Given as goal

abbrev pub invariant-loop-place : goal.invariant-loop-place
invariant-loop-place l = same_numbers (drop l.place (due l.moment l.timers.deadlines)) (map port_number (drop l.place l.ports)) ≡ same_numbers (due l.moment l.timers.deadlines) (map port_number l.ports)
