use Rattle.std.proofs.Common.{◌≡◌, ◌++◌, drop}
use Rattle.ca_value.specs.Seq.{list}
use Rattle.ca_reader.specs.View.{form_trees}
use Rattle.ca_reader.specs.Printed.{more_text}
use Rattle.ca_reader.proofs.print.+print.Given as goal

abbrev pub invariant-append_forms-loop-form : goal.invariant-append_forms-loop-form
invariant-append_forms-loop-form l =
    list l.into ++ more_text (form_trees (drop l.form-index l.rest)) ≡ list l.initial.into ++ more_text (form_trees l.rest)
