use Rattle.std.proofs.Common.{rules, arith, sym, ◌∙◌}
use Rattle.ca_check.proofs.ScriptLaws.{script_whole, script_behind, script_many}
use Rattle.ca_check.proofs.TopLaws.{place_is}
use Rattle.ca_check.proofs.check.passed_over.Goals as goal

pub returns-then-not-has_namespace-clause-ok : goal.returns-then-not-has_namespace-clause-ok
returns-then-not-has_namespace-clause-ok c t s = script_whole c.args.forms.now t s (sym c.has_namespace.ensures.is ∙ search rules)

pub returns-then-list_items-gt4096-clause-err : goal.returns-then-list_items-gt4096-clause-err
returns-then-list_items-gt4096-clause-err c t s = script_many c.args.forms.now c.index-forms-0.result c.list_items.result.now t s (omega arith) c.index-forms-0.is (sym c.has_namespace.ensures.is ∙ search rules) c.list_items.ensures (omega arith) (place_is c.index-forms-0.result)

pub returns-clause-ok : goal.returns-clause-ok
returns-clause-ok c t s = script_behind c.args.forms.now c.index-forms-0.result c.list_items.result.now t s (omega arith) c.index-forms-0.is (sym c.has_namespace.ensures.is ∙ search rules) c.list_items.ensures (omega arith)
