-- What a draft of the code stands for.
use Rattle.std.specs.Prelude.{List, map}
use Rattle.ca_reader.specs.Form.{FormTree}
use Rattle.ca_reader.specs.View.{form_tree}
use Rattle.ca_derived.specs.declared.template.Draft.{Draft}

abbrev pub drafted : Draft → List FormTree
drafted d = map form_tree d.forms.items
