use Rattle.std.proofs.Common.{◌≡◌, [], length, ◌-◌}
use Rattle.ca_value.specs.Seq.{list}
use Rattle.ca_value.specs.View.{views}
use Rattle.ca_journal_reader.specs.ValueText.{value_field}
use Rattle.ca_journal_reader.specs.FieldText.{list_in}
use Rattle.ca_journal_reader.proofs.cursor.Cursor.values.Given as goal

abbrev pub invariant-loop : goal.invariant-loop
invariant-loop l = list_in value_field (l.end - l.counter) (views (list l.items)) l.self.rest.now ≡ list_in value_field (length l.initial.self.rest.now) [] l.initial.self.rest.now
