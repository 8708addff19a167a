use Rattle.std.proofs.Common.{rules, ◌≡◌, sym, ap, ◌∙◌, true, get_or, List}
use Rattle.std.specs.Prelude.{slice_set}
use Rattle.ca_term.specs.declared.term.Term.{Term}
use Rattle.ca_value.specs.Seq.{list}
use Rattle.ca_term.specs.Kernel.{seq}
use Rattle.ca_term.specs.View.{kernel, kernels}
use Rattle.ca_meaning.specs.Redex.{replace}
use Rattle.ca_meaning.specs.Parts.{is_open_sequence, is_whole}
use Rattle.ca_meaning.proofs.Redexes.{replace-open_sequence, kernel-Do, not-false}
use Rattle.ca_meaning.proofs.OpenTerms.{replaced_at_open}
use Rattle.ca_meaning.proofs.replace.+replaced.Goals as goal

pub replaced_inside-returns-in-Do : goal.replaced_inside-returns-in-Do
replaced_inside-returns-in-Do t c =
    let here : kernel c.args.term ≡ seq (kernels (list c.in-Do.terms)) = ap kernel c.in-Do.is ∙ kernel-Do c.in-Do.terms in
    let several : is_open_sequence (kernels (list c.in-Do.terms)) ≡ true = not-false (is_open_sequence (kernels (list c.in-Do.terms))) (sym (ap is_whole here) ∙ c.requires) in
    kernel-Do c.replaced_in_terms.result ∙ ap seq c.replaced_in_terms.ensures
    ∙ sym (ap (replace (kernel c.args.new)) here ∙ replace-open_sequence (kernel c.args.new) (kernels (list c.in-Do.terms)) several)

pub replaced_in_terms-returns : goal.replaced_in_terms-returns
replaced_in_terms-returns t c =
    let ts = list c.args.terms in
    let is : c.replace-old.result ≡ get_or ts c.first_open-open.result c.replace-old.result = search rules in
    ap kernels (c.from_vec.ensures ∙ ap (λ (l : List Term). slice_set (slice_set l c.first_open-open.result c.replace-old.new.dest) c.first_open-open.result c.replaced.result) c.into_vec-items.ensures)
    ∙ replaced_at_open ts c.first_open-open.result (kernel c.args.new) c.replace-old.result c.replace-old.new.dest c.replaced.result c.first_open-open.ensures.place c.requires is c.replaced.ensures
