use Rattle.ca_term.specs.Operation.{what_view}
use Rattle.ca_report.proofs.Entries.{entries_new}
use Rattle.ca_report.proofs.tally.Tally.add.Goals as goal

pub returns-clause-rows : goal.returns-clause-rows
returns-clause-rows c = entries_new c.args.self.now.channels.entries c.insert.new.self.entries c.args.port.n c.in-Some.what c.args.moment (what_view c.args.what.now) c.in-Some.ensures c.in_ok-insert.ensures.entries
