use Rattle.std.proofs.Common.{◌≡◌, suc, ◌-◌, ◌+◌, [], ◌∷◌, ◌++◌, length, map, rules, Some, false, ◌∙◌, arith}
use Rattle.ca_value.specs.Seq.{list}
use Rattle.ca_term.specs.Event.{port_number}
use Rattle.ca_journal_reader.specs.Words.{numbered_in}
use Rattle.ca_journal_reader.specs.Words.{is_first}
use Rattle.ca_journal_reader.proofs.Loops.{list_step}
use Rattle.ca_journal_reader.proofs.cursor.Cursor.ports.Goals as goal

pub loop-preserved : goal.loop-preserved
loop-preserved c =
    let n = length c.args.self.now.rest.now in
    let count : n - c.loop.counter ≡ suc (n - (c.loop.counter + 1)) = omega (arith, c.loop-test.true) in
    let at : is_first 10 c.loop.self.rest.now ≡ false = search rules in
    let is : (numbered_in 112) c.loop.self.rest.now ≡ Some (port_number c.in_ok-port.port, c.port.new.self.rest.now) = search rules in
    let more : map port_number (list c.add_port.new.ports) ≡ map port_number (list c.loop.ports) ++ port_number c.in_ok-port.port ∷ [] = search rules in
    list_step (numbered_in 112) (n - c.loop.counter) (n - (c.loop.counter + 1)) (map port_number (list c.loop.ports)) (map port_number (list c.add_port.new.ports)) c.loop.self.rest.now c.port.new.self.rest.now (port_number c.in_ok-port.port) count at is more
    ∙ c.loop.invariant
