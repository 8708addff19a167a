use Rattle.std.proofs.Common.{◌≡◌, refl, rules, subst}
use Rattle.ca_value.specs.Seq.{list}
use Rattle.ca_words.specs.declared.command.Command.TheVariants.{Load}
use Rattle.ca_run.specs.Answers.{Judged}
use Rattle.ca_run.specs.Inputs.{HasProgram}
use Rattle.ca_run.specs.Top.{span_between}
use Rattle.ca_run.proofs.Judgements.{answers_by_load}
use Rattle.ca_run.proofs.top.judge_load.Goals as goal

pub returns-clause-answers : goal.returns-clause-answers
returns-clause-answers g c = λ left j e.
    let span = span_between g.C.Clock.least g.C.Clock.readings c.args.clock j.1 in
    let judged : Judged (Load c.args.n c.args.workers) span (list c.in-Ok.script) j.0 = search rules in
    answers_by_load c.args.n c.args.workers span left (list c.in-Ok.script) j.0 c.in-Ok.ensures judged

pub returns-clause-ran : goal.returns-clause-ran
returns-clause-ran g c = λ left x e.
    let ran = c.judge_text.ensures.ran x e in
    let same : c.as_slice.result.now ≡ list c.in-Ok.script = search rules in
    (Load c.args.n c.args.workers, list c.in-Ok.script, refl, refl, (refl, c.in-Ok.ensures), subst HasProgram same ran.1)
