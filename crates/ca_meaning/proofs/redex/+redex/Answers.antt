use Rattle.std.proofs.Common.{◌≡◌, sym, ap, ◌∙◌, true}
use Rattle.ca_value.specs.Seq.{list}
use Rattle.ca_term.specs.Kernel.{seq}
use Rattle.ca_term.specs.View.{kernel, kernels}
use Rattle.ca_meaning.specs.Redex.{redex}
use Rattle.ca_meaning.specs.Parts.{is_open_sequence, is_whole}
use Rattle.ca_meaning.proofs.Redexes.{redex-open_sequence, kernel-Do, not-false, redex-whole}
use Rattle.ca_meaning.proofs.redex.+redex.Goals as goal

pub redex_inside-returns-in-Do : goal.redex_inside-returns-in-Do
redex_inside-returns-in-Do t c =
    let here : kernel c.args.term.now ≡ seq (kernels (list c.in-Do.terms)) = ap kernel c.in-Do.is ∙ kernel-Do c.in-Do.terms in
    let several : is_open_sequence (kernels (list c.in-Do.terms)) ≡ true = not-false (is_open_sequence (kernels (list c.in-Do.terms))) (sym (ap is_whole here) ∙ c.requires) in
    c.redex_of_terms.ensures ∙ sym (ap redex here ∙ redex-open_sequence (kernels (list c.in-Do.terms)) (kernel c.args.term.now) several)

pub redex-returns-then-is_whole : goal.redex-returns-then-is_whole
redex-returns-then-is_whole t c = sym (redex-whole (kernel c.args.term.now) (sym c.is_whole.ensures ∙ c.if-is_whole.true))
