use Rattle.std.proofs.Common.{List, ℕ, ap, sym, ◌∙◌}
use Rattle.ca_value.specs.Seq.{list}
use Rattle.ca_forms.specs.Tops.{signature}
use Rattle.ca_check.specs.TopsView.{written_as}
use Rattle.ca_check.proofs.DefnLaws.{binders_length}
use Rattle.ca_check.proofs.definitions.signature.Goals as goal

pub returns : goal.returns
returns c = record {
  ok = ap (λ n. record { name = c.args.defn.now.name.now; arity = n; hidden = list c.from_vec.result; plain = c.args.plain }) (sym (binders_length c.args.defn.now.parameters.now))
      ∙ ap (λ (l : List ℕ). signature (written_as c.args.defn.now) l c.args.plain) (c.from_vec.ensures ∙ c.in_ok-numbers.ensures.items);
}
