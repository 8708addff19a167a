use Rattle.std.proofs.Common.{eqb-true, length, sym}
use Rattle.ca_journal.specs.Events.{events}
use Rattle.ca_journal.specs.Merge.{entries}
use Rattle.ca_journal_reader.proofs.Lines.{none_left, read_more, read_ascends, read_all}
use Rattle.ca_journal_reader.proofs.read.read_journal.Goals as goal

pub lines-preserved : goal.lines-preserved
lines-preserved c = read_more c.args.bytes.now (entries c.lines.noted) (entries c.line.new.noted) c.lines.number c.lines.rest.now c.in-Ok.behind.now c.lines.invariant c.in-Ok.ensures.line

pub of-requires : goal.of-requires
of-requires c = read_ascends c.args.bytes.now (entries c.lines.noted) c.lines.number c.lines.rest.now c.lines.invariant

pub returns-clause-reads : goal.returns-clause-reads
returns-clause-reads c =
    let over = none_left c.lines.rest.now (eqb-true (length c.lines.rest.now) 0 (sym c.lines-test.ensures)) in
    read_all c.args.bytes.now (entries c.lines.noted) c.lines.number c.lines.rest.now (events c.in_ok-of.field-0) c.lines.invariant over c.in_ok-of.ensures
