use Rattle.std.proofs.Common.{◌≡◌, None, map, sym, ap, ◌∙◌, rules, nat_cmp}
use Rattle.std.specs.Map.{lookup}
use Rattle.std.specs.BTreeMap.{is_at}
use Rattle.ca_term.specs.Operation.{what_view}
use Rattle.ca_report.specs.declared.passage.Counts.{Counts}
use Rattle.ca_report.specs.declared.tally.Record.{Record}
use Rattle.ca_report.specs.Tallied.{row_entry}
use Rattle.ca_report.proofs.Entries.{entries_set, entries_kept, entries_few}
use Rattle.ca_report.proofs.tally.Tally.count.Goals as goal

pub with-record-requires : goal.with-record-requires
with-record-requires c = entries_few c.args.self.now.channels.entries c.args.port.n c.in-Some.record.now (sym c.in-Some.ensures.value) c.requires

pub returns-in-Some-clause-rows : goal.returns-in-Some-clause-rows
returns-in-Some-clause-rows c =
    let r = c.in-Some.record.now in
    let w : Record = record { what = r.what; moment = r.moment; counts = c.with-record.result } in
    ap (map row_entry) (c.get_mut.follows.holds w).0
    ∙ entries_set c.args.self.now.channels.entries c.args.port.n c.args.passage r w (sym c.in-Some.ensures.value) (ap (λ (k : Counts). record { what = what_view r.what; moment = r.moment; counts = k }) c.with-record.ensures)

pub returns-in_default-clause-rows : goal.returns-in_default-clause-rows
returns-in_default-clause-rows c =
    let none : lookup (is_at (nat_cmp c.args.port.n)) c.args.self.now.channels.entries ≡ None = sym c.in_default.ensures.value in
    let same : c.get_mut.follows.lender-at-none.entries ≡ c.args.self.now.channels.entries = search rules in
    ap (map row_entry) same ∙ entries_kept c.args.self.now.channels.entries c.args.port.n c.args.passage none
