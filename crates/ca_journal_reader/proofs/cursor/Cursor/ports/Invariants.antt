use Rattle.std.proofs.Common.{◌≡◌, [], length, map, ◌-◌}
use Rattle.ca_value.specs.Seq.{list}
use Rattle.ca_term.specs.Event.{port_number}
use Rattle.ca_journal_reader.specs.Words.{numbered_in}
use Rattle.ca_journal_reader.specs.FieldText.{list_in}
use Rattle.ca_journal_reader.proofs.cursor.Cursor.ports.Given as goal

abbrev pub invariant-loop : goal.invariant-loop
invariant-loop l = list_in (numbered_in 112) (l.end - l.counter) (map port_number (list l.ports)) l.self.rest.now ≡ list_in (numbered_in 112) (length l.initial.self.rest.now) [] l.initial.self.rest.now
