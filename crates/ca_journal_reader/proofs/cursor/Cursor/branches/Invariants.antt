use Rattle.std.proofs.Common.{◌≡◌, [], length, map, ◌-◌}
use Rattle.ca_value.specs.Seq.{list}
use Rattle.ca_term.specs.Event.{branch_view}
use Rattle.ca_journal_reader.specs.ValueText.{uncomma}
use Rattle.ca_journal_reader.specs.FieldText.{branch_in, list_in}
use Rattle.ca_journal_reader.proofs.cursor.Cursor.branches.Given as goal

abbrev pub invariant-loop : goal.invariant-loop
invariant-loop l = list_in (λ s. branch_in (uncomma s)) (l.end - l.counter) (map branch_view (list l.branches)) l.self.rest.now ≡ list_in (λ s. branch_in (uncomma s)) (length l.initial.self.rest.now) [] l.initial.self.rest.now
