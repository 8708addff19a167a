use Rattle.std.proofs.Common.{◌≡◌, ◌<◌, ◌+◌, ◌*◌, ◌++◌, ◌∷◌, [], List, ℕ, length, ap, sym, ◌∙◌, arith, length-append}
use Rattle.ca_value.specs.Seq.{list}
use Rattle.ca_term.specs.declared.term.Term.{Term}
use Rattle.ca_reader.specs.View.{form_tree}
use Rattle.ca_check.specs.Again.{again_terms, whole_names}
use Rattle.ca_forms.specs.Binders.{width}
use Rattle.ca_forms.specs.Judged.{total_binder, total_name}
use Rattle.ca_forms.specs.WalkView.{terms_of}
use Rattle.ca_check.proofs.AgainLaws.{again_step, whole_step, widths_step, again_over, whole_over}
use Rattle.ca_forms.proofs.LoopLaws.{binders_from}
use Rattle.ca_check.proofs.walk.Walker.bind_again.Goals as goal

pub overflow_add-number : goal.overflow_add-number
overflow_add-number c =
    let h : 2 * c.loop-i.i + 1 < length c.args.items.now = omega (arith, c.loop-i-test.true) in
    let w = widths_step c.args.items.now c.loop-i.i c.index-items-i.result h c.index-items-i.is in
    omega (arith, w, c.further_names.ensures, c.loop-i.invariant.room, c.len-size.ensures)

pub overflow_add-number-in-loop-i : goal.overflow_add-number-in-loop-i
overflow_add-number-in-loop-i c =
    let h : 2 * c.loop-i.i + 1 < length c.args.items.now = omega (arith, c.loop-i-test.true) in
    let w = widths_step c.args.items.now c.loop-i.i c.index-items-i.result h c.index-items-i.is in
    omega (arith, w, c.further_names.ensures, c.loop-i.invariant.room, c.len-size.ensures)

pub loop-i-preserved : goal.loop-i-preserved
loop-i-preserved c =
    let h : 2 * c.loop-i.i + 1 < length c.args.items.now = omega (arith, c.loop-i-test.true) in
    let w = widths_step c.args.items.now c.loop-i.i c.index-items-i.result h c.index-items-i.is in
    let added : list c.push.new.self ≡ list c.loop-i.values ++ c.local.result ∷ [] = c.push.ensures.added ∙ ap (λ (xs : List Term). xs ++ c.local.result ∷ []) c.in_ok-reserve.ensures.same in
    let wide : c.loop-i.number + (1 + c.further_names.result) ≡ c.loop-i.number + width (total_binder (form_tree c.index-items-i.result)) = omega (arith, c.further_names.ensures) in
    let scope = c.in_ok-bind_name.ensures.ok in
    record {
      same = ap (λ (xs : List Term). terms_of xs ++ again_terms (c.loop-i.number + (1 + c.further_names.result)) (binders_from c.args.items.now (c.loop-i.i + 1))) added
          ∙ ap (λ n. terms_of (list c.loop-i.values ++ c.local.result ∷ []) ++ again_terms n (binders_from c.args.items.now (c.loop-i.i + 1))) wide
          ∙ again_step c.args.items.now c.loop-i.i c.loop-i.number c.index-items-i.result (list c.loop-i.values) c.local.result h c.index-items-i.is c.local.ensures ∙ c.loop-i.invariant.same;
      names = ap (λ (sc : List (List ℕ)). sc ++ whole_names (binders_from c.args.items.now (c.loop-i.i + 1))) scope
          ∙ whole_step c.args.items.now c.loop-i.i c.index-items-i.result c.loop-i.self.scope h c.index-items-i.is ∙ c.loop-i.invariant.names;
      longer = omega (arith, ap (λ (sc : List (List ℕ)). length sc) scope, length-append c.loop-i.self.scope (total_name (form_tree c.index-items-i.result) ∷ []), ap (λ (xs : List Term). length xs) added, length-append (list c.loop-i.values) (c.local.result ∷ []), c.loop-i.invariant.longer);
      kept = c.in_ok-bind_name.ensures.gathered ∙ c.loop-i.invariant.kept;
      room = omega (arith, w, c.further_names.ensures, c.loop-i.invariant.room);
    }

pub returns-clause-ok : goal.returns-clause-ok
returns-clause-ok c = sym (again_over c.args.items.now c.loop-i.i c.loop-i.number (terms_of (list c.loop-i.values)) (omega (arith, c.loop-i-test.false))) ∙ c.loop-i.invariant.same

pub returns-clause-names : goal.returns-clause-names
returns-clause-names c = sym (whole_over c.args.items.now c.loop-i.i c.loop-i.self.scope (omega (arith, c.loop-i-test.false))) ∙ c.loop-i.invariant.names
