use Rattle.std.proofs.Common.{◌≡◌, ap, sym, subst, ◌∙◌, refl}
use Rattle.ca_journal.specs.Events.{events}
use Rattle.ca_pool.specs.PoolEnds.{end_view}
use Rattle.ca_run.specs.Answers.{end_shown, line_of_end}
use Rattle.ca_run.specs.Top.{EndLine}
use Rattle.ca_run.proofs.Ends.{is_told, fault_line}
use Rattle.ca_run.proofs.run.told.Goals as goal
use Rattle.ca_run.proofs.run.told.Goals.{in-Ended, in-Limit, in-Stuck, in-Faulted+in_ok-fault-in-Faulted+in-Some}

pub unreachable-requires : goal.unreachable-requires
unreachable-requires c =
    let r = c.requires.end in
    is_told r.0 r.1 (events c.args.journal) (end_view c.args.end) c.in_ok-fault-in-Faulted.fault r.2 (ap end_view c.in-Faulted.is) c.in_ok-fault-in-Faulted.ensures c.in-None.is

pub returns-clause-line : goal.returns-clause-line
returns-clause-line c =
    let r = c.requires.end in
    elim c.match-end.branch [
      | in-Ended w ↦ subst (λ y. EndLine (events c.args.journal) (end_shown y) (line_of_end y)) (sym w.end-is) refl
      | in-Limit w ↦ subst (λ y. EndLine (events c.args.journal) (end_shown y) (line_of_end y)) (sym w.end-is) refl
      | in-Stuck w ↦ subst (λ y. EndLine (events c.args.journal) (end_shown y) (line_of_end y)) (sym w.end-is) refl
      | in-Faulted+in_ok-fault-in-Faulted+in-Some w ↦ subst (λ y. EndLine (events c.args.journal) (end_shown y) (line_of_end y)) (sym w.end-is) (fault_line r.0 r.1 (events c.args.journal) (end_view c.args.end) w.in-Some.fault w.in-Some.place w.in_ok-fault-in-Faulted.fault r.2 (ap end_view w.in-Faulted.is) w.in_ok-fault-in-Faulted.ensures w.in-Some.is)
    ]
