use denote.Param.Send.{sendable}
use Rattle.std.proofs.Common.{sym, subst}
use Rattle.ca_term.specs.Program.{program_view}
use Rattle.ca_meaning.specs.Body.{new_body}
use Rattle.ca_meaning.specs.Ends.{HasEnd}
use Rattle.ca_meaning.specs.Task.{script}
use Rattle.ca_meaning.proofs.Possible.{body_rests}
use Rattle.ca_journal.specs.Events.{events}
use Rattle.ca_table.specs.Moments.{KeepsTime}
use Rattle.ca_pool.specs.PoolEnds.{IsSolo}
use Rattle.ca_sealed.specs.KeepsLaws.{KeepsLaws}
use Rattle.ca_run.specs.Answers.{end_shown}
use Rattle.ca_tasks.proofs.Sending.{task_send}
use Rattle.ca_run.proofs.run.run_script.Goals as goal

pub run_pool-requires-send-A : goal.run_pool-requires-send-A
run_pool-requires-send-A g c κs within = search (sendable, task_send) depth 20

pub run_pool-requires-clause-main : goal.run_pool-requires-clause-main
run_pool-requires-clause-main g c κs within =
    let program = program_view c.args.program.now in
    let rest = body_rests program (script (new_body program.main)) in
    (rest.0, rest.1, c.in_ok-main.ensures.stands program rest.0 c.in_ok-code.ensures.lowered rest.1)

pub returns-clause-end : goal.returns-clause-end
returns-clause-end g c =
    let run = c.in_ok-run.run' in
    let told = c.in_ok-told.field-0 in
    let P = program_view c.args.program.now in
    subst (λ j. HasEnd P c.args.budget (events j) (end_shown told.end)) (sym c.in_ok-told.ensures.journal)
    (subst (HasEnd P c.args.budget (events run.journal)) (sym c.in_ok-told.ensures.end) c.in_ok-run.ensures.end)

pub returns-clause-moments : goal.returns-clause-moments
returns-clause-moments g c = let K = g.C.Clock in
    subst (λ j. KeepsTime (events j) (K.least c.args.clock) (K.readings c.args.clock) (K.readings c.in_ok-run.run'.clock)) (sym c.in_ok-told.ensures.journal) c.in_ok-run.ensures.moments

pub returns-clause-solo : goal.returns-clause-solo
returns-clause-solo g c = λ one. let K = g.C.Clock in
    subst (λ j. IsSolo (program_view c.args.program.now) (events j) (K.least c.args.clock) (K.readings c.args.clock) (K.readings c.in_ok-run.run'.clock)) (sym c.in_ok-told.ensures.journal) (c.in_ok-run.ensures.solo one)

pub returns-clause-laws : goal.returns-clause-laws
returns-clause-laws g c = λ input is_program.
    let P = program_view c.args.program.now in
    subst (λ j. KeepsLaws P (events j)) (sym c.in_ok-told.ensures.journal)
    (c.journals_of_a_text_keep_the_laws.ensures input P is_program (events c.in_ok-run.run'.journal) c.in_ok-run.ensures.legal)

pub told-requires : goal.told-requires
told-requires g c = record { end = (program_view c.args.program.now, c.args.budget, c.in_ok-run.ensures.end) }
