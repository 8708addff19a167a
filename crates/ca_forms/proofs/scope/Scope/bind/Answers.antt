use Rattle.std.proofs.Common.{sym, ◌∙◌}
use Rattle.ca_value.specs.Seq.{list}
use Rattle.ca_forms.proofs.ScopeLaws.{bound_stands}
use Rattle.ca_forms.proofs.scope.Scope.bind.Goals as goal

pub invariant_of-self-2 : goal.invariant_of-self-2
invariant_of-self-2 c = bound_stands (λ v. v.items) c.self.inside.numbers.entries c.insert.new.self.entries (list c.self.inside.names) (list c.push.new.self) _ c.in_ok-key.key c.len-number.result c.in_ok-insert.field-0
    c.self.invariant c.in_ok-insert.ensures.entries c.len-number.ensures (c.in_ok-key.ensures.items ∙ sym c.in_ok-text.ensures) c.in_ok-insert.ensures.old c.unwrap_or-hides.ensures (rw c.in_ok-reserve.ensures.same at c.push.ensures.added)
