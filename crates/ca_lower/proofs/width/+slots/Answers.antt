use Rattle.std.proofs.Common.{◌≡◌, ◌+◌, sym, ap, ap₂, ◌∙◌, rules}
use Rattle.ca_value.specs.Seq.{list}
use Rattle.ca_term.specs.declared.term.Term.{the_lemmas}
use Rattle.ca_term.specs.Kernel.{bind, loop}
use Rattle.ca_term.specs.View.{bindings, founds, kernel}
use Rattle.ca_lower.specs.Emit.{greater, slots_for}
use Rattle.ca_lower.proofs.BuilderLaws.{count_bindings_length}
use Rattle.ca_lower.proofs.width.+slots.Goals as goal

pub slots_for-returns-in_ok-slots_for-in-Let : goal.slots_for-returns-in_ok-slots_for-in-Let
slots_for-returns-in_ok-slots_for-in-Let t c =
    let h = c.args.slot in
    let bs = bindings (list c.in-Let.bindings) in
    let body = kernel c.deref-in-Let.result.now in
    let k : kernel c.args.term.now ≡ bind bs body = search (rules, the_lemmas) in
    let inner = c.in_ok-inner-in-Let.ensures ∙ ap (λ n. h + n) (c.len.ensures ∙ sym (count_bindings_length (list c.in-Let.bindings))) in
    c.greater-in-Let.ensures
    ∙ ap₂ greater c.in_ok-bound-in-Let.ensures (c.in_ok-slots_for-in-Let.ensures ∙ ap (λ n. slots_for n body) inner)
    ∙ ap (slots_for h) (sym k)

pub slots_for-returns-in_ok-slots_for-in-Loop : goal.slots_for-returns-in_ok-slots_for-in-Loop
slots_for-returns-in_ok-slots_for-in-Loop t c =
    let h = c.args.slot in
    let gs = founds (list c.in-Loop.field-0) in
    let bs = bindings (list c.in-Loop.bindings) in
    let body = kernel c.deref-in-Loop.result.now in
    let k : kernel c.args.term.now ≡ loop gs bs body = search (rules, the_lemmas) in
    let inner = c.in_ok-inner-in-Loop.ensures ∙ ap (λ n. h + n) (c.len-in-Loop.ensures ∙ sym (count_bindings_length (list c.in-Loop.bindings))) in
    c.greater-in-Loop.ensures
    ∙ ap₂ greater c.in_ok-bound-in-Loop.ensures (c.in_ok-slots_for-in-Loop.ensures ∙ ap (λ n. slots_for n body) inner)
    ∙ ap (slots_for h) (sym k)
