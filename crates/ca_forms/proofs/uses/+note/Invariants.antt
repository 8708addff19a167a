use Rattle.std.proofs.Common.{◌≡◌, drop}
use Rattle.ca_term.specs.View.{kernels, bindings}
use Rattle.ca_forms.specs.Uses.{uses_items, uses_bindings}
use Rattle.ca_forms.proofs.uses.+note.Given as goal

abbrev pub invariant-note_bindings-loop-binding : goal.invariant-note_bindings-loop-binding
invariant-note_bindings-loop-binding l = uses_bindings l.size (bindings (drop l.binding-index l.rest)) l.seen.keys ≡ uses_bindings l.size (bindings l.rest) l.fn.seen.keys

abbrev pub invariant-note_terms-loop-term : goal.invariant-note_terms-loop-term
invariant-note_terms-loop-term l = uses_items l.size (kernels (drop l.term-index l.terms)) l.seen.keys ≡ uses_items l.size (kernels l.terms) l.fn.seen.keys
