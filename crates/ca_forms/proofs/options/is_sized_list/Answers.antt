use Rattle.std.proofs.Common.{Option, sym, ap, ◌∙◌}
use Rattle.ca_term.specs.declared.head.MakeKind.{MakeKind}
use Rattle.ca_forms.specs.Channels.{buffer_named, is_sized}
use Rattle.ca_forms.specs.WalkView.{form_pairs}
use Rattle.ca_forms.proofs.OptionLaws.{sized_is}
use Rattle.ca_forms.proofs.options.is_sized_list.Goals as goal

pub returns-in-Some : goal.returns-in-Some
returns-in-Some c = sym (ap (λ (k : Option MakeKind). is_sized k (form_pairs c.args.forms.now)) (ap buffer_named (sym c.word_of.ensures) ∙ sym c.in-Some.ensures)
    ∙ sized_is c.in-Some.field-0 c.args.forms.now)
