use Rattle.std.proofs.Common.{◌≡◌, drop}
use Rattle.ca_term.specs.View.{kernels, bindings}
use Rattle.ca_forms.specs.Uses.{are_plain, are_plain_bindings}
use Rattle.ca_forms.specs.Tops.{plain_with}
use Rattle.ca_forms.proofs.uses.+plain.Given as goal

abbrev pub invariant-are_plain-loop-term : goal.invariant-are_plain-loop-term
invariant-are_plain-loop-term l = are_plain (plain_with l.own l.functions) (kernels (drop l.term-index l.terms)) ≡ are_plain (plain_with l.own l.functions) (kernels l.terms)

abbrev pub invariant-are_plain_bindings-loop-binding : goal.invariant-are_plain_bindings-loop-binding
invariant-are_plain_bindings-loop-binding l = are_plain_bindings (plain_with l.own l.functions) (bindings (drop l.binding-index l.rest)) ≡ are_plain_bindings (plain_with l.own l.functions) (bindings l.rest)
