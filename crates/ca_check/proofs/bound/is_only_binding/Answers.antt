use Rattle.std.proofs.Common.{◌≡◌, List, length, get_or, ap, sym, ◌∙◌}
use Rattle.ca_reader.specs.declared.form.Form.{Form}
use Rattle.ca_value.specs.Seq.{list}
use Rattle.ca_check.proofs.DoseqLaws.{only_binding, only_binding_off}
use Rattle.ca_check.proofs.bound.is_only_binding.Goals as goal

pub returns-then-items-eq2 : goal.returns-then-items-eq2
returns-then-items-eq2 c =
    let h : length (list c.in-Vector.items) ≡ 2 = ap (λ (xs : List Form). length xs) (sym c.as_slice-items.ensures) ∙ c.if-items-eq2.true in
    let x : c.index-items-0.result ≡ get_or (list c.in-Vector.items) 0 c.index-items-0.result = c.index-items-0.is ∙ ap (λ (xs : List Form). get_or xs 0 c.index-items-0.result) c.as_slice-items.ensures in
    c.is_binder.ensures ∙ only_binding c.args.bindings.now c.in-Vector.items c.index-items-0.result c.in-Vector.is h x

pub returns-else-items-eq2 : goal.returns-else-items-eq2
returns-else-items-eq2 c = only_binding_off c.args.bindings.now c.in-Vector.items c.in-Vector.is (λ h. c.if-items-eq2.false (ap (λ (xs : List Form). length xs) c.as_slice-items.ensures ∙ h))
