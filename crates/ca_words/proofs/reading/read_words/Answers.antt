use Rattle.std.proofs.Common.{◌≡◌, ◌∙◌, Option, Some, None, Result, Err, IfOk, map, string_bytes, sym, ap}
use Rattle.std.specs.Prelude.{ok_or}
use Rattle.ca_words.specs.declared.command.Command.{Command}
use Rattle.ca_words.specs.declared.command.WordsError.{WordsError}
use Rattle.ca_words.specs.declared.command.WordsError.TheVariants.{Usage}
use Rattle.ca_words.proofs.LongWords.{some≢none}
use Rattle.ca_words.proofs.Whole.{whole_fault, whole_none, whole_told}
use Rattle.ca_words.proofs.reading.read_words.Goals as goal

given : (o : Option Command) (r : Result Command WordsError) (w : Option Command) → r ≡ ok_or o Usage → w ≡ o → IfOk r (λ c. w ≡ Some c)
given (Some c) r w is same = rw is same
given None r w is same = rw is tt

refused : (o : Option Command) (r : Result Command WordsError) (w : Option Command) → r ≡ ok_or o Usage → w ≡ o → r ≡ Err Usage → w ≡ None
refused None r w is same e = same
refused (Some c) r w is same e = absurd (some≢none c (ap (λ x. Rattle.std.specs.Result.result_ok x) (sym e ∙ is)))

pub returns-in_default-clause-usage : goal.returns-in_default-clause-usage
returns-in_default-clause-usage c e = whole_none (map string_bytes c.args.words.now) (sym c.name_in.ensures ∙ c.in_default.is)

pub returns-in_err-matches-clause-usage : goal.returns-in_err-matches-clause-usage
returns-in_err-matches-clause-usage c e =
    let passed : Usage ≡ c.in_err-matches.field-0.0 = rw e at c.from_residual.ensures.1 in
    whole_fault (map string_bytes c.args.words.now) c.in-Some.name (sym c.name_in.ensures ∙ c.in-Some.is) (c.in_err-matches.ensures.usage (ap Err (sym passed)))

pub returns-clause-command : goal.returns-clause-command
returns-clause-command c =
    let same = whole_told (map string_bytes c.args.words.now) c.in-Some.name c.answer.result (sym c.name_in.ensures ∙ c.in-Some.is) c.in_ok-matches.ensures.ok.0
    (λ t rows is. c.answer.ensures t rows (c.in_ok-matches.ensures.ok.1 ∙ is)) in
    given c.answer.result c.ok_or.result _ c.ok_or.ensures.value same

pub returns-clause-usage : goal.returns-clause-usage
returns-clause-usage c =
    let same = whole_told (map string_bytes c.args.words.now) c.in-Some.name c.answer.result (sym c.name_in.ensures ∙ c.in-Some.is) c.in_ok-matches.ensures.ok.0
    (λ t rows is. c.answer.ensures t rows (c.in_ok-matches.ensures.ok.1 ∙ is)) in
    refused c.answer.result c.ok_or.result _ c.ok_or.ensures.value same
