use Rattle.std.proofs.Common.{List, sym, subst}
use Rattle.ca_term.specs.Event.{EventView}
use Rattle.ca_term.specs.Program.{program_view}
use Rattle.ca_meaning.proofs.ChannelLaws.{channel_law}
use Rattle.ca_meaning.proofs.WaitLaws.{wait_law}
use Rattle.ca_derived_laws.proofs.Reducing.{reduces_keep}
use Rattle.ca_derived_laws.proofs.Splitting.{splits_keep}
use Rattle.ca_derived_laws.proofs.Taking.{takes_keep}
use Rattle.ca_journal.specs.Events.{events}
use Rattle.ca_journal.proofs.Fitting.{little_fits}
use Rattle.ca_pool.specs.PoolEnds.{IsSolo}
use Rattle.ca_pool.proofs.pool_run.run_pool.Goals as goal

pub end_run-journal-requires-clause-fit : goal.end_run-journal-requires-clause-fit
end_run-journal-requires-clause-fit g c = let r = c.in_ok-worked.ensures.run in
    little_fits (events c.in_ok-worked.worked.0) (c.values_of_a_run_are_values.ensures.light (program_view c.args.program.now) (events c.in_ok-worked.worked.0) r.0 c.checked.ensures r.1)

pub returns-clause-legal : goal.returns-clause-legal
returns-clause-legal g c = let r = c.in_ok-worked.ensures.run in (c.end_run-journal.ensures.ends (program_view c.args.program.now) r.0 r.1 r.2).0

pub returns-clause-end : goal.returns-clause-end
returns-clause-end g c = let r = c.in_ok-worked.ensures.run in (c.end_run-journal.ensures.ends (program_view c.args.program.now) r.0 r.1 r.2).1

pub returns-clause-channels : goal.returns-clause-channels
returns-clause-channels g c = let r = c.in_ok-worked.ensures.run in let P = program_view c.args.program.now in
    channel_law P (events c.end_run-journal.result.0) (c.end_run-journal.ensures.ends P r.0 r.1 r.2).0

pub returns-clause-waits : goal.returns-clause-waits
returns-clause-waits g c = let r = c.in_ok-worked.ensures.run in let P = program_view c.args.program.now in
    wait_law P (events c.end_run-journal.result.0) (c.end_run-journal.ensures.ends P r.0 r.1 r.2).0

pub returns-clause-takes : goal.returns-clause-takes
returns-clause-takes g c = let r = c.in_ok-worked.ensures.run in let P = program_view c.args.program.now in
    let legal = (c.end_run-journal.ensures.ends P r.0 r.1 r.2).0 in
    takes_keep P (events c.end_run-journal.result.0) legal.state legal.reaches

pub returns-clause-reduces : goal.returns-clause-reduces
returns-clause-reduces g c = let r = c.in_ok-worked.ensures.run in let P = program_view c.args.program.now in
    let legal = (c.end_run-journal.ensures.ends P r.0 r.1 r.2).0 in
    reduces_keep P (events c.end_run-journal.result.0) legal.state legal.reaches

pub returns-clause-splits : goal.returns-clause-splits
returns-clause-splits g c = let r = c.in_ok-worked.ensures.run in let P = program_view c.args.program.now in
    let legal = (c.end_run-journal.ensures.ends P r.0 r.1 r.2).0 in
    splits_keep P (events c.end_run-journal.result.0) legal.state legal.reaches

pub returns-clause-moments : goal.returns-clause-moments
returns-clause-moments g c = let K = g.C.Clock in
    c.end_run-journal.ensures.moments (K.least c.args.clock) (K.readings c.args.clock) (K.readings c.in_ok-worked.worked.1) c.in_ok-worked.ensures.moments

pub returns-clause-solo : goal.returns-clause-solo
returns-clause-solo g c = λ one. let K = g.C.Clock in let r = c.in_ok-worked.ensures in let whole = r.whole one in
    subst (λ (es : List EventView). IsSolo (program_view c.args.program.now) es (K.least c.args.clock) (K.readings c.args.clock) (K.readings c.in_ok-worked.worked.1)) (sym (c.end_run-journal.ensures.whole whole.0 whole.1)) (r.solo one)
