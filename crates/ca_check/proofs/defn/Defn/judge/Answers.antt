use Rattle.std.proofs.Common.{rules, Err, ◌≡◌, sym, ◌∙◌}
use Rattle.ca_reader.specs.View.{form_trees}
use Rattle.ca_forms.specs.Meaning.{Meaning, Env}
use Rattle.ca_forms.specs.Outcome.{Gathered}
use Rattle.ca_forms.specs.Tops.{counted_patterns, judged_body}
use Rattle.ca_check.specs.TopsView.{total_binders, written_as}
use Rattle.ca_forms.specs.WalkView.{Fails}
use Rattle.ca_check.proofs.DefnLaws.{fails_same, err_is}
use Rattle.ca_check.proofs.defn.Defn.judge.Goals as goal

pub returns-clause-ok : goal.returns-clause-ok
returns-clause-ok c m e s = c.in_ok-judge_note.ensures.ok (counted_patterns (total_binders (form_trees c.args.self.now.parameters.now)) m) e s ∙ c.in_ok-judge_patterns.ensures.ok m e s

pub returns-in_err-judge_note-clause-err : goal.returns-in_err-judge_note-clause-err
returns-in_err-judge_note-clause-err c =
    let h : (m : Meaning) (e : Env) (s : Gathered) → Fails c.in_err-judge_note.field-0.0 (judged_body (written_as c.args.self.now) m e s)
    = λ m e s. c.in_err-judge_note.ensures.err (counted_patterns (total_binders (form_trees c.args.self.now.parameters.now)) m) e s in
    search rules

pub returns-in_err-judge_patterns-clause-err : goal.returns-in_err-judge_patterns-clause-err
returns-in_err-judge_patterns-clause-err c =
    let h : (m : Meaning) (e : Env) (s : Gathered) → Fails c.in_err-judge_patterns.field-0.0 (judged_body (written_as c.args.self.now) m e s)
    = λ m e s. fails_same c.in_err-judge_patterns.field-0.0 _ _ (sym (c.in_ok-judge_note.ensures.ok (counted_patterns (total_binders (form_trees c.args.self.now.parameters.now)) m) e s)) (c.in_err-judge_patterns.ensures.err m e s) in
    let same : c.from_residual-in_err-judge_patterns.result ≡ Err c.in_err-judge_patterns.field-0.0 = search rules in
    err_is c.from_residual-in_err-judge_patterns.result c.in_err-judge_patterns.field-0.0 _ same h
