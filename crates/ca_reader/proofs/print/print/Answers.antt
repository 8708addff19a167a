use Rattle.std.proofs.Common.{List, ℕ, ◌++◌, ◌∙◌, ap, sym, subst}
use Rattle.ca_value.specs.Seq.{list}
use Rattle.ca_reader.specs.View.{form_trees}
use Rattle.ca_reader.specs.Printed.{forms_text, ReadsAside}
use Rattle.ca_reader.proofs.Printing.{print_reads}
use Rattle.ca_reader.proofs.print.print.Goals as goal

pub returns-clause-reads : goal.returns-clause-reads
returns-clause-reads c =
    let fs = form_trees (list c.args.forms.now) in
    let e = c.in_ok-append_forms.ensures ∙ ap (λ (x : List ℕ). x ++ forms_text fs) c.new-text.ensures in
    subst (λ (bytes : List ℕ). ReadsAside bytes fs) (sym e) (print_reads fs c.requires)
