use Rattle.std.proofs.Common.{rules, ◌≡◌, arith}
use Rattle.ca_value.specs.Seq.{list}
use Rattle.ca_reader.specs.declared.form.Form.{the_lemmas as form_lemmas}
use Rattle.ca_reader.specs.declared.form.Shape.{the_lemmas as shape_lemmas}
use Rattle.ca_reader.specs.View.{form_tree, form_trees}
use Rattle.ca_forms.specs.Binders.{many}
use Rattle.ca_forms.specs.Judged.{total_binder, total_names}
use Rattle.ca_check.proofs.DefnLaws.{pattern_long, pattern_short, pattern_counted}
use Rattle.ca_check.proofs.defn.judge_pattern.Goals as goal

pub returns-then-len-gt4096-clause-err : goal.returns-then-len-gt4096-clause-err
returns-then-len-gt4096-clause-err c bs m e s =
    let tree : total_binder (form_tree c.args.form.now) ≡ many (total_names (form_trees (list c.in-Vector.names))) c.args.form.now.place = search (rules, form_lemmas, shape_lemmas) in
    pattern_long c.args.form.now (list c.in-Vector.names) c.args.form.now.place bs m e s tree (omega arith)

pub returns-else-len-gt4096-clause-ok : goal.returns-else-len-gt4096-clause-ok
returns-else-len-gt4096-clause-ok c bs m e s =
    let tree : total_binder (form_tree c.args.form.now) ≡ many (total_names (form_trees (list c.in-Vector.names))) c.args.form.now.place = search (rules, form_lemmas, shape_lemmas) in
    pattern_short c.args.form.now (list c.in-Vector.names) c.args.form.now.place bs m e s tree (omega arith)

pub returns-else-len-gt4096-clause-short : goal.returns-else-len-gt4096-clause-short
returns-else-len-gt4096-clause-short c bs k =
    let tree : total_binder (form_tree c.args.form.now) ≡ many (total_names (form_trees (list c.in-Vector.names))) c.args.form.now.place = search (rules, form_lemmas, shape_lemmas) in
    pattern_counted c.args.form.now (list c.in-Vector.names) c.args.form.now.place bs tree (omega arith) k
