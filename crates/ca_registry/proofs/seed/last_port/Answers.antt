use Rattle.std.proofs.Common.{◌≡◌, ◌-◌, sym, ap, ◌∙◌, rules, slice_get, length, Some}
use Rattle.ca_registry.proofs.FitLaws.{last_some}
use Rattle.ca_registry.proofs.seed.last_port.Goals as goal

pub returns-in-Some : goal.returns-in-Some
returns-in-Some c = let e : slice_get c.args.values.now (length c.args.values.now - 1) ≡ Some c.in-Some.value.now = search rules in ap Some c.port_of.ensures ∙ sym (last_some c.args.values.now c.in-Some.value.now e)
