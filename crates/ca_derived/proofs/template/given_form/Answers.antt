use Rattle.std.proofs.Common.{rules, arith, ap, sym, ◌∙◌, map}
use Rattle.ca_value.specs.Seq.{list}
use Rattle.ca_reader.specs.View.{form_tree}
use Rattle.ca_derived.specs.Forms.{nil_form}
use Rattle.ca_derived.proofs.FillLaws.{set_of, past}
use Rattle.ca_derived.proofs.template.given_form.Goals as goal

pub returns-then-number-len-clause-rest : goal.returns-then-number-len-clause-rest
returns-then-number-len-clause-rest c = ap (map form_tree) c.replace.ensures.set ∙ set_of (list c.args.given.now) c.args.number c.nothing-nil.result (nil_form c.args.place) c.nothing-nil.ensures

pub returns-else-number-len-clause-form : goal.returns-else-number-len-clause-form
returns-else-number-len-clause-form c = c.nothing-nil.ensures ∙ sym (past (list c.args.given.now) c.args.number (nil_form c.args.place) (search (rules, arith)))
