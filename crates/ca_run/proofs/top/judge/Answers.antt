use Rattle.std.proofs.Common.{◌≡◌, ◌∙◌, rules, ap, sym, subst, Some, false, true}
use Rattle.ca_words.specs.declared.command.Command.TheVariants.{Load}
use Rattle.ca_run.specs.Answers.{AnswersTo}
use Rattle.ca_run.specs.Top.{RunsScript, reads_source, span_between}
use Rattle.ca_run.proofs.top.judge.Goals as goal

pub judge_load-requires-clause-fit : goal.judge_load-requires-clause-fit
judge_load-requires-clause-fit g c κs within = c.requires.fit (Load c.in-Load.n c.in-Load.workers) (c.in-Some.is ∙ ap Some c.in-Load.is)

pub returns-in-Load-clause-answers : goal.returns-in-Load-clause-answers
returns-in-Load-clause-answers g c = λ j e.
    let left = g.S.Source.left c.args.source.now in
    subst (λ o. AnswersTo o (span_between g.C.Clock.least g.C.Clock.readings c.args.clock j.1) left left j.0) (sym (c.in-Some.is ∙ ap Some c.in-Load.is)) (c.judge_load.ensures.answers left j e)

pub returns-in-Load-clause-idle : goal.returns-in-Load-clause-idle
returns-in-Load-clause-idle g c = λ h. absurd (let z : true ≡ false = h (Load c.in-Load.n c.in-Load.workers) (c.in-Some.is ∙ ap Some c.in-Load.is) in cc)

pub returns-in-Load-clause-ran : goal.returns-in-Load-clause-ran
returns-in-Load-clause-ran g c = λ x e.
    let left = g.S.Source.left c.args.source.now in
    subst (λ o. RunsScript o left left) (sym (c.in-Some.is ∙ ap Some c.in-Load.is)) (c.judge_load.ensures.ran left x e)

pub returns-in-Run-clause-unread : goal.returns-in-Run-clause-unread
returns-in-Run-clause-unread g c = λ silent. absurd (
    let yes : reads_source c.in-Some.command ≡ true = search rules in
    let z : true ≡ false = sym yes ∙ silent c.in-Some.command c.in-Some.is in cc)

pub returns-in-Run-clause-broken : goal.returns-in-Run-clause-broken
returns-in-Run-clause-broken g c = λ x e.
    let yes : reads_source c.in-Some.command ≡ true = search rules in
    let broken = c.judge_source.ensures.broken x e in
    ((c.in-Some.command, c.in-Some.is, yes), broken.0, broken.1)

pub returns-in-Run-clause-ran : goal.returns-in-Run-clause-ran
returns-in-Run-clause-ran g c = λ x e.
    subst (λ o. RunsScript o (g.S.Source.left c.args.source.now) (g.S.Source.left c.judge_source.new.source)) (sym c.in-Some.is) (c.judge_source.ensures.ran x e)

pub returns-in-Replay-clause-unread : goal.returns-in-Replay-clause-unread
returns-in-Replay-clause-unread g c = λ silent. absurd (
    let yes : reads_source c.in-Some.command ≡ true = search rules in
    let z : true ≡ false = sym yes ∙ silent c.in-Some.command c.in-Some.is in cc)

pub returns-in-Replay-clause-answers : goal.returns-in-Replay-clause-answers
returns-in-Replay-clause-answers g c = λ j e.
    let span = span_between g.C.Clock.least g.C.Clock.readings c.args.clock j.1 in
    subst (λ o. AnswersTo o span (g.S.Source.left c.args.source.now) (g.S.Source.left c.judge_input.new.source) j.0) (sym c.in-Some.is) (c.judge_input.ensures.answers span j e)
