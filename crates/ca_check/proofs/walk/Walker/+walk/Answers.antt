use Rattle.std.proofs.Common.{rules, ◌≡◌, ◌∷◌, [], length, ℕ, ◌+◌, ◌-◌, ◌<◌, ◌≤◌, List, ◌++◌, arith, refl, true, false, ◌∙◌, ap, sym, drop, inl, inr, take, length-drop, ap₂, ◌*◌, ◌/◌, length-append}
use Rattle.ca_value.specs.Seq.{list}
use Rattle.ca_term.specs.View.{kernel, kernels}
use Rattle.ca_reader.specs.View.{form_tree}
use Rattle.ca_forms.specs.Outcome.{done, refused, limited}
use Rattle.ca_forms.specs.declared.context.At.{At}
use Rattle.ca_value.specs.Tree.{text, key}
use Rattle.ca_value.specs.declared.builtin.Builtin.TheVariants.{Vector, HashMap}
use Rattle.ca_term.specs.declared.head.Head.TheVariants.{Builtin}
use Rattle.ca_term.specs.Kernel.{const, branch, Kernel, none as no_terms, item as term}
use Rattle.ca_forms.specs.FunctionsView.{named_function}
use Rattle.ca_forms.specs.Meaning.{Env, means_in_order, binds, before_others, inner, constant_value, operation, behind_name, local_name, name_as, Meaning, block, lets, numbered}
use Rattle.ca_forms.specs.Names.{function_call, builtin_call, row_keyword, row_symbol, written_text, given}
use Rattle.ca_forms.specs.Operands.{with_second, with_vars}
use Rattle.ca_term.specs.declared.term.Term.{Term}
use Rattle.ca_reader.specs.Form.{form_place, FormTree}
use Rattle.ca_forms.specs.declared.error.CheckError.TheVariants.{Fault}
use Rattle.ca_forms.specs.declared.error.CheckErrorKind.TheVariants.{TooMany}
use Rattle.ca_forms.proofs.ChainLaws.{chain_parts, firsts, after_second, second_of_three}
use Rattle.ca_forms.specs.Plain.{meanings, row_let, row_if, row_if_not, row_cond, row_while, row_dotimes, row_doseq, binders}
use Rattle.ca_forms.specs.Walk.{walk, row_list}
use Rattle.ca_forms.specs.WalkView.{gathered, env, part, form_parts, form_pairs, terms_of, Fails}
use Rattle.ca_forms.proofs.PartLaws.{three_parts, in_order_step, in_order_over, in_order_fails, block_some, if_off, if_not_off, recur_fits, recur_off, builtin_fits, builtin_off, function_fits, function_off, after_fails, parts_second, keyword_on, keyword_off, written_short, written_fails, counted_past, counted_within, ok_at, err_at, ok_for, err_for}
use Rattle.ca_forms.specs.Binders.{spread, Bound, patterns}
use Rattle.std.proofs.lemmas.List.{length-map}
use Rattle.ca_forms.specs.Judged.{total_bounds, total_binder, over_long, let_parts, more_of, chain_of, bound_names, binder_names, binder_parts, total_name}
use Rattle.ca_forms.proofs.BindLaws.{bound_step2, names_step2, bound_over, names_over, bound_fails, one_fails, one_names, bound_longer, hidden_over, one_long, hidden_step, hidden_names, terms_append}
use Rattle.ca_forms.proofs.ShapeLaws.{row_let_right, row_let_wrong, tree_is, tree_text, tree_key, tree_symbol}
use Rattle.ca_check.proofs.walk.Walker.+walk.Goals.{if_form-in_default-via-then-parts-lt3, if_form-in_default-via-else-parts-lt3+else-parts-lt4+else-parts-lt5, if_not_form-in_default-via-then-parts-lt3, if_not_form-in_default-via-else-parts-lt3+else-parts-lt4+else-parts-lt5}
use Rattle.ca_check.specs.Choices.{tested, first_in, only_means, row_bound, bound_body, bound_other}
use Rattle.ca_check.specs.declared.choices.Choice.{Choice}
use Rattle.ca_check.proofs.ChoiceLaws.{cond_fits, cond_off, tested_step, tested_over, test_fails}
use Rattle.ca_forms.proofs.LoopLaws.{loop_right, loop_wrong, while_walked, while_body_fails}
use Rattle.ca_forms.specs.Channels.{row_chan, workers}
use Rattle.ca_forms.specs.Planned.{hidden_row, and_yes, pub_over, pipeline_by}
use Rattle.ca_forms.proofs.PlanLaws.{row_planned}
use Rattle.ca_check.proofs.HideLaws.{sized_on, sized_off, chan_off, hidden_row_done, hidden_row_fails, merge_done, alts_three, alts_two, alts_one, kernels_listed, operation_yes, operation_yes_fails, published_done, published_fails, pub_off, pub_on, pub_wrong, Hides}
use Rattle.ca_check.proofs.PipeLaws.{worker_done, count_fails, target_fails, source_fails, piped_done, left_again, held, pipeline_off, pipeline_on, by_any, by_wrong}
use Rattle.ca_forms.specs.GivenView.{given_view, keyword_terms, IsWrong}
use Rattle.ca_forms.specs.Rounds.{counted_rounds, items_call, item_of, nth_term, loop_parts}
use Rattle.ca_check.proofs.BoundLaws.{other_less, bound_right, bound_off, shape_less, bound_value_fails, bound_body_fails, bound_other_fails, bound_walked, then_fails, then_walked}
use Rattle.ca_check.proofs.CountLaws.{dotimes_off, dotimes_value_fails, dotimes_body_fails, dotimes_walked}
use Rattle.ca_check.proofs.DoseqLaws.{doseq_off, doseq_row, items_fail, round_fails, round_walked, item_long, item_fails, item_walked}
use Rattle.ca_check.proofs.AgainLaws.{bounds_in, text_in, all_within, counted_done, lets_walked, lets_fail, again_walked, again_fails, patterns_walked, patterns_fail, values_fail}
use Rattle.ca_check.proofs.DefnLaws.{if_ok_by}
use Rattle.ca_check.specs.Again.{widths, again_terms, again_row, binders_of}
use Rattle.ca_check.specs.TopsView.{AreCounted}
use Rattle.ca_check.proofs.walk.Walker.+walk.Goals as goal

pub in_order-loop-i-preserved : goal.in_order-loop-i-preserved
in_order-loop-i-preserved t c =
    let here : env c.loop-i.self.scope c.args.functions.now c.standing.result ≡ before_others (length c.args.parts.now - (c.loop-i.i + 1)) (env c.args.self.now.scope c.args.functions.now c.args.at)
    = c.standing.ensures c.loop-i.self.scope c.args.functions.now ∙ ap (λ sc. before_others (length c.args.parts.now - (c.loop-i.i + 1)) (env sc c.args.functions.now c.args.at)) c.loop-i.invariant.names in
    record {
      same = rw c.push.ensures.added (c.loop-i.invariant.same ∙ in_order_step c.args.parts.now c.loop-i.i c.index-parts-i.result _ _ c.in_ok-term.term _ _ (omega arith) c.index-parts-i.is (rw here at c.in_ok-term.ensures.ok));
      names = c.in_ok-term.ensures.scope ∙ c.loop-i.invariant.names;
      room = search rules;
    }

pub in_order-returns-clause-ok : goal.in_order-returns-clause-ok
in_order-returns-clause-ok t c = c.loop-i.invariant.same ∙ in_order_over c.args.parts.now c.loop-i.i _ _ _ (omega arith)

pub in_order-returns-in_err-term-clause-err : goal.in_order-returns-in_err-term-clause-err
in_order-returns-in_err-term-clause-err t c =
    let here : env c.loop-i.self.scope c.args.functions.now c.standing.result ≡ before_others (length c.args.parts.now - (c.loop-i.i + 1)) (env c.args.self.now.scope c.args.functions.now c.args.at)
    = c.standing.ensures c.loop-i.self.scope c.args.functions.now ∙ ap (λ sc. before_others (length c.args.parts.now - (c.loop-i.i + 1)) (env sc c.args.functions.now c.args.at)) c.loop-i.invariant.names in
    let e : Fails c.in_err-term.field-0.0 (means_in_order (meanings (form_parts (drop c.args.from c.args.parts.now))) (env c.args.self.now.scope c.args.functions.now c.args.at) (gathered c.args.self.now.gathered))
    = in_order_fails c.in_err-term.field-0.0 c.args.parts.now c.loop-i.i c.index-parts-i.result _ _ _ _ c.loop-i.invariant.same (omega arith) c.index-parts-i.is (rw here at c.in_err-term.ensures.err) in
    search rules

pub block-returns-clause-ok : goal.block-returns-clause-ok
block-returns-clause-ok t c = rw (block_some c.args.parts.now c.args.from (env c.args.self.now.scope c.args.functions.now c.args.at) (gathered c.args.self.now.gathered) (grind arith), c.in_ok-terms.ensures.ok) c.seq.ensures.ok

pub builtin_form-returns-then-admits-clause-ok : goal.builtin_form-returns-then-admits-clause-ok
builtin_form-returns-then-admits-clause-ok t c = rw (builtin_fits c.args.builtin c.args.parts.now c.args.from c.args.place (search rules)) c.operation.ensures.ok

pub builtin_form-returns-then-admits-clause-err : goal.builtin_form-returns-then-admits-clause-err
builtin_form-returns-then-admits-clause-err t c = rw (builtin_fits c.args.builtin c.args.parts.now c.args.from c.args.place (search rules)) c.operation.ensures.err

pub builtin_form-returns-else-admits-clause-err : goal.builtin_form-returns-else-admits-clause-err
builtin_form-returns-else-admits-clause-err t c = rw (builtin_off c.args.builtin c.args.parts.now c.args.from c.args.place (search rules)) refl

pub function_form-returns-in_err-terms-clause-err : goal.function_form-returns-in_err-terms-clause-err
function_form-returns-in_err-terms-clause-err t c =
    let e : Fails c.in_err-terms.field-0.0 (function_call c.args.number (named_function (list c.args.name.now) c.args.function.now) (meanings (form_parts (drop 1 c.args.parts.now))) c.args.place (env c.args.self.now.scope c.args.functions.now c.args.at) (gathered c.args.self.now.gathered))
    = rw (function_fits c.args.number (named_function (list c.args.name.now) c.args.function.now) c.args.parts.now c.args.place (env c.args.self.now.scope c.args.functions.now c.args.at) (gathered c.args.self.now.gathered) (search rules))
    (after_fails c.in_err-terms.field-0.0 _ _ (rw c.inner.ensures at c.in_err-terms.ensures.err)) in
    search rules

pub function_form-returns-in_ok-terms-2-clause-ok : goal.function_form-returns-in_ok-terms-2-clause-ok
function_form-returns-in_ok-terms-2-clause-ok t c =
    let inside : means_in_order (meanings (form_parts (drop 1 c.args.parts.now))) (inner (env c.args.self.now.scope c.args.functions.now c.args.at)) (gathered c.args.self.now.gathered) ≡ done (kernels (list c.in_ok-terms.terms)) (gathered c.in_order.new.self.gathered) = rw c.inner.ensures at c.in_ok-terms.ensures.ok in
    let vars : with_vars (kernels (list c.in_ok-terms.terms)) (list c.args.function.now.hidden) ≡ kernels (list c.in_ok-terms-2.terms)
    = sym (c.in_ok-terms-2.ensures.ok ∙ ap (with_vars (kernels (list c.in_ok-terms.terms))) c.as_slice.ensures) in
    rw (function_fits c.args.number (named_function (list c.args.name.now) c.args.function.now) c.args.parts.now c.args.place (env c.args.self.now.scope c.args.functions.now c.args.at) (gathered c.args.self.now.gathered) (search rules), inside, vars) c.apply.ensures.ok

pub function_form-returns-else-parts-function-clause-err : goal.function_form-returns-else-parts-function-clause-err
function_form-returns-else-parts-function-clause-err t c = function_off c.args.number (named_function (list c.args.name.now) c.args.function.now) c.args.parts.now c.args.place (env c.args.self.now.scope c.args.functions.now c.args.at) (gathered c.args.self.now.gathered) (search rules)

pub group-returns-then-parts-gt4096-clause-err : goal.group-returns-then-parts-gt4096-clause-err
group-returns-then-parts-gt4096-clause-err t c = counted_past c.args.parts.now c.args.place _ _ _ (omega arith)

pub group-returns-in-Round-clause-ok : goal.group-returns-in-Round-clause-ok
group-returns-in-Round-clause-ok t c = rw (c.in-Round.is, counted_within c.args.parts.now c.args.place (row_list (form_parts c.args.parts.now) c.args.place) (omega arith)) c.list_form.ensures.ok

pub group-returns-in-Round-clause-err : goal.group-returns-in-Round-clause-err
group-returns-in-Round-clause-err t c = rw (c.in-Round.is, counted_within c.args.parts.now c.args.place (row_list (form_parts c.args.parts.now) c.args.place) (omega arith)) c.list_form.ensures.err

pub group-returns-in-Square-clause-ok : goal.group-returns-in-Square-clause-ok
group-returns-in-Square-clause-ok t c = rw (c.in-Square.is, counted_within c.args.parts.now c.args.place (operation (Builtin Vector) (meanings (form_parts c.args.parts.now)) c.args.place) (omega arith)) c.operation.ensures.ok

pub group-returns-in-Square-clause-err : goal.group-returns-in-Square-clause-err
group-returns-in-Square-clause-err t c = rw (c.in-Square.is, counted_within c.args.parts.now c.args.place (operation (Builtin Vector) (meanings (form_parts c.args.parts.now)) c.args.place) (omega arith)) c.operation.ensures.err

pub group-returns-in-Curly-clause-ok : goal.group-returns-in-Curly-clause-ok
group-returns-in-Curly-clause-ok t c = rw (c.in-Curly.is, counted_within c.args.parts.now c.args.place (builtin_call HashMap (meanings (form_parts c.args.parts.now)) c.args.place) (omega arith)) c.builtin_form.ensures.ok

pub group-returns-in-Curly-clause-err : goal.group-returns-in-Curly-clause-err
group-returns-in-Curly-clause-err t c = rw (c.in-Curly.is, counted_within c.args.parts.now c.args.place (builtin_call HashMap (meanings (form_parts c.args.parts.now)) c.args.place) (omega arith)) c.builtin_form.ensures.err

pub if_form-returns-in_default-clause-err : goal.if_form-returns-in_default-clause-err
if_form-returns-in_default-clause-err t c = if_off c.args.parts.now c.args.place _ _ (elim c.in_default.branch [ if_form-in_default-via-then-parts-lt3 w ↦ inl (search rules) | if_form-in_default-via-else-parts-lt3+else-parts-lt4+else-parts-lt5 w ↦ inr (search rules) ])

pub if_not_form-returns-in_default-clause-err : goal.if_not_form-returns-in_default-clause-err
if_not_form-returns-in_default-clause-err t c = if_not_off c.args.parts.now c.args.place _ _ (elim c.in_default.branch [ if_not_form-in_default-via-then-parts-lt3 w ↦ inl (search rules) | if_not_form-in_default-via-else-parts-lt3+else-parts-lt4+else-parts-lt5 w ↦ inr (search rules) ])

pub recur_form-returns-then-parts-arity-clause-ok : goal.recur_form-returns-then-parts-arity-clause-ok
recur_form-returns-then-parts-arity-clause-ok t c =
    let same = recur_fits c.args.parts.now c.in-Some.arity c.args.place (env c.args.self.now.scope c.args.functions.now c.args.at) (search rules) (search rules) in
    rw same c.operation.ensures.ok

pub recur_form-returns-then-parts-arity-clause-err : goal.recur_form-returns-then-parts-arity-clause-err
recur_form-returns-then-parts-arity-clause-err t c =
    let same = recur_fits c.args.parts.now c.in-Some.arity c.args.place (env c.args.self.now.scope c.args.functions.now c.args.at) (search rules) (search rules) in
    rw same c.operation.ensures.err

pub recur_form-returns-else-parts-arity-clause-err : goal.recur_form-returns-else-parts-arity-clause-err
recur_form-returns-else-parts-arity-clause-err t c = recur_off c.args.parts.now c.in-Some.arity c.args.place _ _ (search rules) (search rules)

pub form-returns-in-Text-clause-ok : goal.form-returns-in-Text-clause-ok
form-returns-in-Text-clause-ok t c = rw (tree_text c.args.form.now c.in-Text.text c.in-Text.is)
    (ok_at (λ e s t. written_text (list c.in-Text.text) c.args.form.now.place (constant_value (text (list c.in-Text.text))) e s ≡ done (kernel t) s) c.text_constant.result (env c.args.self.now.scope c.args.functions.now c.args.at) (gathered c.args.self.now.gathered) c.text_constant.ensures.ok)

pub form-returns-in-Text-clause-err : goal.form-returns-in-Text-clause-err
form-returns-in-Text-clause-err t c = rw (tree_text c.args.form.now c.in-Text.text c.in-Text.is)
    (err_at (λ e s x. Fails x (written_text (list c.in-Text.text) c.args.form.now.place (constant_value (text (list c.in-Text.text))) e s)) c.text_constant.result (env c.args.self.now.scope c.args.functions.now c.args.at) (gathered c.args.self.now.gathered) c.text_constant.ensures.err)

pub form-returns-in-Key-clause-err : goal.form-returns-in-Key-clause-err
form-returns-in-Key-clause-err t c = rw (tree_key c.args.form.now c.in-Key.name c.in-Key.is)
    (err_at (λ e s x. Fails x (written_text (list c.in-Key.name) c.args.form.now.place (constant_value (key (list c.in-Key.name))) e s)) c.key_constant.result (env c.args.self.now.scope c.args.functions.now c.args.at) (gathered c.args.self.now.gathered) c.key_constant.ensures.err)

pub form-returns-in-Symbol-clause-ok : goal.form-returns-in-Symbol-clause-ok
form-returns-in-Symbol-clause-ok t c = rw (tree_symbol c.args.form.now c.in-Symbol.name c.in-Symbol.is)
    (ok_for (λ (at : At) t. row_symbol (list c.in-Symbol.name) c.args.form.now.place (env c.args.self.now.scope c.args.functions.now at) (gathered c.args.self.now.gathered) ≡ done (kernel t) (gathered c.args.self.now.gathered)) c.symbol.result c.args.at c.symbol.ensures.ok)

pub form-returns-in-Symbol-clause-err : goal.form-returns-in-Symbol-clause-err
form-returns-in-Symbol-clause-err t c = rw (tree_symbol c.args.form.now c.in-Symbol.name c.in-Symbol.is)
    (err_for (λ (at : At) x. Fails x (row_symbol (list c.in-Symbol.name) c.args.form.now.place (env c.args.self.now.scope c.args.functions.now at) (gathered c.args.self.now.gathered))) c.symbol.result c.args.at c.symbol.ensures.err)

pub keyword_form-returns-in_err-key-clause-err : goal.keyword_form-returns-in_err-key-clause-err
keyword_form-returns-in_err-key-clause-err t c =
    let e : Fails c.in_err-key.field-0.0 (row_keyword (list c.args.name.now) c.args.head (meanings (form_parts (drop 1 c.args.parts.now))) c.args.place (env c.args.self.now.scope c.args.functions.now c.args.at) (gathered c.args.self.now.gathered))
    = rw (keyword_on (list c.args.name.now) c.args.head c.args.place c.args.parts.now (env c.args.self.now.scope c.args.functions.now c.args.at) (gathered c.args.self.now.gathered) (omega arith) (omega arith)) (written_fails c.in_err-key.field-0.0 (list c.args.name.now) c.args.head (key (list c.args.name.now)) _ (env c.args.self.now.scope c.args.functions.now c.args.at) (gathered c.args.self.now.gathered) (c.in_err-key.ensures.err (env c.args.self.now.scope c.args.functions.now c.args.at) (gathered c.args.self.now.gathered))) in
    search rules

pub keyword_form-returns-in_err-terms-clause-err : goal.keyword_form-returns-in_err-terms-clause-err
keyword_form-returns-in_err-terms-clause-err t c =
    let short : length (list c.args.name.now) ≤ 65535 = c.in_ok-key.ensures.short in
    let e : Fails c.in_err-terms.field-0.0 (row_keyword (list c.args.name.now) c.args.head (meanings (form_parts (drop 1 c.args.parts.now))) c.args.place (env c.args.self.now.scope c.args.functions.now c.args.at) (gathered c.args.self.now.gathered))
    = rw (keyword_on (list c.args.name.now) c.args.head c.args.place c.args.parts.now (env c.args.self.now.scope c.args.functions.now c.args.at) (gathered c.args.self.now.gathered) (omega arith) (omega arith), written_short (list c.args.name.now) c.args.head _ short)
    (after_fails c.in_err-terms.field-0.0 _ _ (rw c.inner.ensures at c.in_err-terms.ensures.err)) in
    search rules

pub keyword_form-returns-clause-ok : goal.keyword_form-returns-clause-ok
keyword_form-returns-clause-ok t c =
    let short : length (list c.args.name.now) ≤ 65535 = c.in_ok-key.ensures.short in
    let inside : means_in_order (meanings (form_parts (drop 1 c.args.parts.now))) (inner (env c.args.self.now.scope c.args.functions.now c.args.at)) (gathered c.args.self.now.gathered) ≡ done (kernels (list c.in_ok-terms.terms)) (gathered c.in_order.new.self.gathered) = rw c.inner.ensures at c.in_ok-terms.ensures.ok in
    let whole : with_second (kernels (list c.in_ok-terms.terms)) (const (key (list c.args.name.now))) ≡ kernels (list c.in_ok-terms-2.terms)
    = ap (with_second (kernels (list c.in_ok-terms.terms))) (sym c.in_ok-key.ensures.is) ∙ sym c.in_ok-terms-2.ensures.ok in
    rw (keyword_on (list c.args.name.now) c.args.head c.args.place c.args.parts.now (env c.args.self.now.scope c.args.functions.now c.args.at) (gathered c.args.self.now.gathered) (omega arith) (omega arith), written_short (list c.args.name.now) c.args.head _ short, inside, whole) c.apply.ensures.ok

pub keyword_form-returns-then-parts-gt3-clause-err : goal.keyword_form-returns-then-parts-gt3-clause-err
keyword_form-returns-then-parts-gt3-clause-err t c = keyword_off (list c.args.name.now) c.args.head c.args.place c.args.parts.now _ _ (inr (omega arith))

pub bound_values-loop-i-preserved : goal.bound_values-loop-i-preserved
bound_values-loop-i-preserved t c =
    let h : 2 * c.loop-i.i + 1 < length c.args.items.now = omega (arith, c.loop-i.invariant.half, c.loop-i-test.true) in
    let short : over_long (total_binder (form_tree c.index-items-i.result)) ≡ false = search rules in
    let inside : walk (form_tree c.index-items-i-in-loop-i.result) (inner (env c.loop-i.self.scope c.args.functions.now c.args.at)) (gathered c.loop-i.self.gathered) ≡ done (kernel c.in_ok-term.term) (gathered c.form.new.self.gathered) = rw c.inner.ensures at c.in_ok-term.ensures.ok in
    let many : length (terms_of (list c.loop-i.values)) ≡ length (list c.loop-i.values) = length-map (list c.loop-i.values) kernel in
    let start : length c.loop-i.self.scope ≡ length c.args.self.now.scope + length (terms_of (list c.loop-i.values)) = omega (arith, many, c.loop-i.invariant.longer) in
    let scope : c.bind_value.new.self.scope ≡ c.loop-i.self.scope ++ binder_names (total_binder (form_tree c.index-items-i.result))
    = c.in_ok-values.ensures.names ∙ ap (λ (z : List (List ℕ)). z ++ binder_names (total_binder (form_tree c.index-items-i.result))) c.in_ok-term.ensures.scope in
    let whole : terms_of (list c.in_ok-values.values) ≡ terms_of (list c.loop-i.values) ++ kernel c.in_ok-term.term ∷ binder_parts c.args.place (length c.loop-i.self.scope) (total_binder (form_tree c.index-items-i.result))
    = c.in_ok-values.ensures.ok ∙ ap (λ (z : List (List ℕ)). terms_of (list c.loop-i.values) ++ kernel c.in_ok-term.term ∷ binder_parts c.args.place (length z) (total_binder (form_tree c.index-items-i.result))) c.in_ok-term.ensures.scope in
    record {
      same = rw (whole, c.in_ok-values.ensures.gathered) (c.loop-i.invariant.same
          ∙ bound_step2 (env c.args.self.now.scope c.args.functions.now c.args.at) c.args.place c.args.items.now c.loop-i.i c.index-items-i.result c.index-items-i-in-loop-i.result _ (terms_of (list c.loop-i.values)) (kernel c.in_ok-term.term) c.loop-i.self.scope c.bind_value.new.self.scope _ _ h
          c.index-items-i.is c.index-items-i-in-loop-i.is short inside scope start);
      names = names_step2 c.args.place c.args.items.now c.loop-i.i c.index-items-i.result c.index-items-i-in-loop-i.result c.loop-i.self.scope c.bind_value.new.self.scope h c.index-items-i.is c.index-items-i-in-loop-i.is
          (scope ∙ ap (λ (z : List (List ℕ)). c.loop-i.self.scope ++ z) (sym (one_names c.args.place (length c.loop-i.self.scope) (total_binder (form_tree c.index-items-i.result)) (walk (form_tree c.index-items-i-in-loop-i.result))))) ∙ c.loop-i.invariant.names;
      longer = bound_longer c.loop-i.self.scope c.bind_value.new.self.scope (list c.loop-i.values) (list c.in_ok-values.values) (kernel c.in_ok-term.term) _ c.args.place _ _ scope whole c.loop-i.invariant.longer;
      half = c.loop-i.invariant.half;
    }

pub bound_values-returns-clause-ok : goal.bound_values-returns-clause-ok
bound_values-returns-clause-ok t c = c.loop-i.invariant.same ∙ bound_over _ c.args.place c.args.items.now c.loop-i.i _ _ _ (grind arith)

pub bound_values-returns-clause-names : goal.bound_values-returns-clause-names
bound_values-returns-clause-names t c = sym (names_over c.args.place c.args.items.now c.loop-i.i _ _ (grind arith)) ∙ c.loop-i.invariant.names

pub bound_values-returns-in_err-term-clause-err : goal.bound_values-returns-in_err-term-clause-err
bound_values-returns-in_err-term-clause-err t c =
    let h : 2 * c.loop-i.i + 1 < length c.args.items.now = omega (arith, c.loop-i.invariant.half, c.loop-i-test.true) in
    let short : over_long (total_binder (form_tree c.index-items-i.result)) ≡ false = search rules in
    let e : Fails c.in_err-term.field-0.0 (binds (spread c.args.place (length c.args.self.now.scope) (total_bounds (form_pairs c.args.items.now))) (env c.args.self.now.scope c.args.functions.now c.args.at) (gathered c.args.self.now.gathered))
    = bound_fails c.in_err-term.field-0.0 (env c.args.self.now.scope c.args.functions.now c.args.at) c.args.place c.args.items.now c.loop-i.i c.index-items-i.result c.index-items-i-in-loop-i.result c.loop-i.self.scope _ _ _ c.loop-i.invariant.same h c.index-items-i.is c.index-items-i-in-loop-i.is
    (one_fails c.in_err-term.field-0.0 (env c.args.self.now.scope c.args.functions.now c.args.at) c.args.place (total_binder (form_tree c.index-items-i.result)) (walk (form_tree c.index-items-i-in-loop-i.result)) c.loop-i.self.scope _ short (rw c.inner.ensures at c.in_err-term.ensures.err)) in
    search rules

pub hidden-returns-clause-ok : goal.hidden-returns-clause-ok
hidden-returns-clause-ok t c = c.loop-i.invariant.same ∙ hidden_over _ c.args.parts.now c.loop-i.i c.args.to _ _ (omega arith)

pub bound_values-returns-then-is_over_long-clause-err : goal.bound_values-returns-then-is_over_long-clause-err
bound_values-returns-then-is_over_long-clause-err t c =
    let h : 2 * c.loop-i.i + 1 < length c.args.items.now = omega (arith, c.loop-i.invariant.half, c.loop-i-test.true) in
    let long : over_long (total_binder (form_tree c.index-items-i.result)) ≡ true = search rules in
    let e : Fails (Fault TooMany c.index-items-i.result.place) (binds (spread c.args.place (length c.args.self.now.scope) (total_bounds (form_pairs c.args.items.now))) (env c.args.self.now.scope c.args.functions.now c.args.at) (gathered c.args.self.now.gathered))
    = bound_fails (Fault TooMany c.index-items-i.result.place) (env c.args.self.now.scope c.args.functions.now c.args.at) c.args.place c.args.items.now c.loop-i.i c.index-items-i.result c.index-items-i-in-loop-i.result c.loop-i.self.scope _ _ _ c.loop-i.invariant.same h c.index-items-i.is c.index-items-i-in-loop-i.is
    (one_long (env c.args.self.now.scope c.args.functions.now c.args.at) c.args.place (form_tree c.index-items-i.result) (walk (form_tree c.index-items-i-in-loop-i.result)) c.loop-i.self.scope (gathered c.loop-i.self.gathered) long ∙ ap (λ q. refused TooMany q) (ap form_place (tree_is c.index-items-i.result))) in
    e

pub let_form-returns-in-None-clause-ok : goal.let_form-returns-in-None-clause-ok
let_form-returns-in-None-clause-ok t c =
    let cut : form_parts (drop 1 c.args.parts.now) ≡ part c.index-parts-1.result ∷ form_parts (drop 2 c.args.parts.now) = parts_second c.args.parts.now c.index-parts-1.result (omega arith) c.index-parts-1.is in
    let same : row_let c.args.place (form_parts (drop 1 c.args.parts.now)) (env c.args.self.now.scope c.args.functions.now c.args.at) ≡ let_parts c.args.place (form_parts (drop 1 c.args.parts.now)) (env c.args.self.now.scope c.args.functions.now c.args.at)
    = rw cut (row_let_right c.args.place (part c.index-parts-1.result) (form_parts (drop 2 c.args.parts.now)) (env c.args.self.now.scope c.args.functions.now c.args.at) (sym c.bounds_error.ensures ∙ c.in-None.is)) in
    rw same c.let_parts.ensures.ok

pub let_form-returns-in-None-clause-err : goal.let_form-returns-in-None-clause-err
let_form-returns-in-None-clause-err t c =
    let cut : form_parts (drop 1 c.args.parts.now) ≡ part c.index-parts-1.result ∷ form_parts (drop 2 c.args.parts.now) = parts_second c.args.parts.now c.index-parts-1.result (omega arith) c.index-parts-1.is in
    let same : row_let c.args.place (form_parts (drop 1 c.args.parts.now)) (env c.args.self.now.scope c.args.functions.now c.args.at) ≡ let_parts c.args.place (form_parts (drop 1 c.args.parts.now)) (env c.args.self.now.scope c.args.functions.now c.args.at)
    = rw cut (row_let_right c.args.place (part c.index-parts-1.result) (form_parts (drop 2 c.args.parts.now)) (env c.args.self.now.scope c.args.functions.now c.args.at) (sym c.bounds_error.ensures ∙ c.in-None.is)) in
    rw same c.let_parts.ensures.err

pub let_form-returns-in-Some-clause-err : goal.let_form-returns-in-Some-clause-err
let_form-returns-in-Some-clause-err t c =
    let cut : form_parts (drop 1 c.args.parts.now) ≡ part c.index-parts-1.result ∷ form_parts (drop 2 c.args.parts.now) = parts_second c.args.parts.now c.index-parts-1.result (omega arith) c.index-parts-1.is in
    let e : row_let c.args.place (form_parts (drop 1 c.args.parts.now)) (env c.args.self.now.scope c.args.functions.now c.args.at) (gathered c.args.self.now.gathered) ≡ refused c.in-Some.kind c.args.place
    = rw cut (row_let_wrong c.args.place (part c.index-parts-1.result) (form_parts (drop 2 c.args.parts.now)) (env c.args.self.now.scope c.args.functions.now c.args.at) (gathered c.args.self.now.gathered) c.in-Some.kind (sym c.bounds_error.ensures ∙ c.in-Some.is)) in
    e

pub chain_form-returns-clause-ok : goal.chain_form-returns-clause-ok
chain_form-returns-clause-ok t c =
    let two : 2 ≤ length c.args.parts.now = omega arith in
    let whole = chain_parts c.args.both (env c.args.self.now.scope c.args.functions.now c.args.at) c.args.parts.now c.index-parts-end.result c.args.self.now.scope (gathered c.args.self.now.gathered) two c.index-parts-end.is in
    let last : walk (form_tree c.index-parts-end.result) (env (c.args.self.now.scope ++ bound_names (firsts c.args.parts.now)) c.args.functions.now c.args.at) (gathered c.hidden.new.self.gathered) ≡ done (kernel c.in_ok-last.last) (gathered c.form.new.self.gathered)
    = rw c.in_ok-values.ensures.names at c.in_ok-last.ensures.ok in
    let made = rw c.len-first.ensures at c.chain.ensures.ok in
    rw (whole, c.in_ok-values.ensures.ok, last) made

pub chain_form-returns-in_err-values-clause-err : goal.chain_form-returns-in_err-values-clause-err
chain_form-returns-in_err-values-clause-err t c =
    let two : 2 ≤ length c.args.parts.now = omega arith in
    let whole = chain_parts c.args.both (env c.args.self.now.scope c.args.functions.now c.args.at) c.args.parts.now c.index-parts-end.result c.args.self.now.scope (gathered c.args.self.now.gathered) two c.index-parts-end.is in
    let e : Fails c.in_err-values.field-0.0 (more_of c.args.both (meanings (form_parts (drop 1 c.args.parts.now))) (env c.args.self.now.scope c.args.functions.now c.args.at) (gathered c.args.self.now.gathered))
    = rw whole (after_fails c.in_err-values.field-0.0 (binds (firsts c.args.parts.now) (env c.args.self.now.scope c.args.functions.now c.args.at) (gathered c.args.self.now.gathered)) _ c.in_err-values.ensures.err) in
    search rules

pub chain_form-returns-in_err-last-clause-err : goal.chain_form-returns-in_err-last-clause-err
chain_form-returns-in_err-last-clause-err t c =
    let two : 2 ≤ length c.args.parts.now = omega arith in
    let whole = chain_parts c.args.both (env c.args.self.now.scope c.args.functions.now c.args.at) c.args.parts.now c.index-parts-end.result c.args.self.now.scope (gathered c.args.self.now.gathered) two c.index-parts-end.is in
    let e : Fails c.in_err-last.field-0.0 (more_of c.args.both (meanings (form_parts (drop 1 c.args.parts.now))) (env c.args.self.now.scope c.args.functions.now c.args.at) (gathered c.args.self.now.gathered))
    = rw whole (after_second c.in_err-last.field-0.0 (binds (firsts c.args.parts.now) (env c.args.self.now.scope c.args.functions.now c.args.at) (gathered c.args.self.now.gathered)) (λ bs s. walk (form_tree c.index-parts-end.result) (env (c.args.self.now.scope ++ bound_names (firsts c.args.parts.now)) c.args.functions.now c.args.at) s) (λ bs t s. chain_of c.args.both bs t s)
    _ _ c.in_ok-values.ensures.ok (rw c.in_ok-values.ensures.names at c.in_err-last.ensures.err)) in
    search rules

pub hidden-loop-i-preserved : goal.hidden-loop-i-preserved
hidden-loop-i-preserved t c =
    let within : c.loop-i.i < c.args.to = omega arith in
    let most : c.args.to ≤ length c.args.parts.now = omega arith in
    let inside : walk (form_tree c.index-parts-i.result) (inner (env c.loop-i.self.scope c.args.functions.now c.args.at)) (gathered c.loop-i.self.gathered) ≡ done (kernel c.in_ok-term.term) (gathered c.form.new.self.gathered) = rw c.inner.ensures at c.in_ok-term.ensures.ok in
    let many : length (terms_of (list c.loop-i.values)) ≡ length (list c.loop-i.values) = length-map (list c.loop-i.values) kernel in
    let start : length c.loop-i.self.scope ≡ length c.args.self.now.scope + length (terms_of (list c.loop-i.values)) = omega (arith, many, c.loop-i.invariant.longer) in
    let scope : c.hide.new.self ≡ c.loop-i.self.scope ++ [] ∷ [] = c.in_ok-hide.ensures.ok ∙ ap (λ (z : List (List ℕ)). z ++ [] ∷ []) c.in_ok-term.ensures.scope in
    let added : list c.push.new.self ≡ list c.loop-i.values ++ c.in_ok-term.term ∷ [] = c.push.ensures.added ∙ ap (λ (xs : List Term). xs ++ c.in_ok-term.term ∷ []) c.in_ok-reserve.ensures.same in
    let whole : terms_of (list c.push.new.self) ≡ terms_of (list c.loop-i.values) ++ kernel c.in_ok-term.term ∷ [] = ap terms_of added ∙ terms_append (list c.loop-i.values) (c.in_ok-term.term ∷ []) in
    record {
      same = rw whole (c.loop-i.invariant.same ∙ hidden_step (env c.args.self.now.scope c.args.functions.now c.args.at) c.args.parts.now c.loop-i.i c.args.to (length c.args.self.now.scope) c.index-parts-i.result (terms_of (list c.loop-i.values)) (kernel c.in_ok-term.term) c.loop-i.self.scope c.hide.new.self _ _ within most c.index-parts-i.is inside scope start);
      names = hidden_names c.args.parts.now c.loop-i.i c.args.to c.index-parts-i.result c.loop-i.self.scope c.hide.new.self within most c.index-parts-i.is scope ∙ c.loop-i.invariant.names;
      longer = ap (λ (z : List (List ℕ)). length z) scope ∙ length-append c.loop-i.self.scope ([] ∷ []) ∙ omega (arith, c.loop-i.invariant.longer, ap (λ (xs : List Term). length xs) added, length-append (list c.loop-i.values) (c.in_ok-term.term ∷ []));
    }

pub if_form-returns-in_err-then-in-len4-clause-err : goal.if_form-returns-in_err-then-in-len4-clause-err
if_form-returns-in_err-then-in-len4-clause-err t c =
    let at : Env = env c.args.self.now.scope c.args.functions.now c.args.at in
    let e : Fails c.in_err-then-in-len4.field-0.0 (row_if c.args.place (form_parts (drop 1 c.args.parts.now)) at (gathered c.args.self.now.gathered))
    = rw (three_parts c.args.parts.now c.test-item-then-parts-lt5.result c.then-item-then-parts-lt5.result c.otherwise-item.result (omega arith) c.test-item-then-parts-lt5.is c.then-item-then-parts-lt5.is c.otherwise-item.is)
    (second_of_three c.in_err-then-in-len4.field-0.0 (walk (form_tree c.test-item-then-parts-lt5.result)) (walk (form_tree c.then-item-then-parts-lt5.result)) (walk (form_tree c.otherwise-item.result)) branch at (gathered c.args.self.now.gathered) _ _
    (rw c.inner-in-len4.ensures at c.in_ok-test-in-len4.ensures.ok) (search rules)) in
    search rules

pub if_not_form-returns-in_err-then-in-len4-clause-err : goal.if_not_form-returns-in_err-then-in-len4-clause-err
if_not_form-returns-in_err-then-in-len4-clause-err t c =
    let at : Env = env c.args.self.now.scope c.args.functions.now c.args.at in
    let e : Fails c.in_err-then-in-len4.field-0.0 (row_if_not c.args.place (form_parts (drop 1 c.args.parts.now)) at (gathered c.args.self.now.gathered))
    = rw (three_parts c.args.parts.now c.test-item-then-parts-lt5.result c.then-item-then-parts-lt5.result c.otherwise-item.result (omega arith) c.test-item-then-parts-lt5.is c.then-item-then-parts-lt5.is c.otherwise-item.is)
    (second_of_three c.in_err-then-in-len4.field-0.0 (walk (form_tree c.test-item-then-parts-lt5.result)) (walk (form_tree c.then-item-then-parts-lt5.result)) (walk (form_tree c.otherwise-item.result)) (λ x y z. branch x z y) at (gathered c.args.self.now.gathered) _ _
    (rw c.inner-in-len4.ensures at c.in_ok-test-in-len4.ensures.ok) (search rules)) in
    search rules

pub cond_form-returns-in_err-choices-clause-err : goal.cond_form-returns-in_err-choices-clause-err
cond_form-returns-in_err-choices-clause-err t c =
    let at : Env = env c.args.self.now.scope c.args.functions.now c.args.at in
    let e : Fails c.in_err-choices.field-0.0 (row_cond c.args.place (form_parts (drop 1 c.args.parts.now)) at (gathered c.args.self.now.gathered))
    = rw (cond_fits c.args.parts.now ((length c.args.parts.now - 1) / 2) c.args.place at (gathered c.args.self.now.gathered) c.if-pairs-parts.true)
    (after_fails c.in_err-choices.field-0.0 _ _ c.in_err-choices.ensures.err) in
    search rules

pub cond_form-returns-in_ok-choices-clause-ok : goal.cond_form-returns-in_ok-choices-clause-ok
cond_form-returns-in_ok-choices-clause-ok t c =
    rw (cond_fits c.args.parts.now ((length c.args.parts.now - 1) / 2) c.args.place (env c.args.self.now.scope c.args.functions.now c.args.at) (gathered c.args.self.now.gathered) c.if-pairs-parts.true, c.in_ok-choices.ensures.ok) c.choose.ensures.ok

pub cond_form-returns-else-pairs-parts-clause-err : goal.cond_form-returns-else-pairs-parts-clause-err
cond_form-returns-else-pairs-parts-clause-err t c = cond_off c.args.parts.now c.args.place _ _ (search rules) (search rules)

pub tested-returns-in_err-test-clause-err : goal.tested-returns-in_err-test-clause-err
tested-returns-in_err-test-clause-err t c =
    let at : Env = env c.args.self.now.scope c.args.functions.now c.args.at in
    let h : 2 * c.loop-i.i + 2 < length c.args.parts.now = omega (arith, c.loop-i.invariant.half, c.loop-i-test.true) in
    let here : inner (env c.loop-i.self.scope c.args.functions.now c.args.at) ≡ inner at = ap (λ sc. inner (env sc c.args.functions.now c.args.at)) c.loop-i.invariant.names in
    let e : Fails c.in_err-test.field-0.0 (tested (meanings (form_parts (drop 1 c.args.parts.now))) at (gathered c.args.self.now.gathered))
    = test_fails c.in_err-test.field-0.0 at c.args.parts.now c.loop-i.i c.index-parts-i.result _ _ (gathered c.loop-i.self.gathered) c.loop-i.invariant.same h c.index-parts-i.is
    (rw here at (rw c.inner.ensures at c.in_err-test.ensures.err)) in
    search rules

pub tested-loop-i-preserved : goal.tested-loop-i-preserved
tested-loop-i-preserved t c =
    let at : Env = env c.args.self.now.scope c.args.functions.now c.args.at in
    let h : 2 * c.loop-i.i + 2 < length c.args.parts.now = omega (arith, c.loop-i.invariant.half, c.loop-i-test.true) in
    let test : walk (form_tree c.index-parts-i.result) (inner at) (gathered c.loop-i.self.gathered) ≡ done (kernel c.in_ok-test.test) (gathered c.form.new.self.gathered)
    = ap (λ sc. walk (form_tree c.index-parts-i.result) (inner (env sc c.args.functions.now c.args.at)) (gathered c.loop-i.self.gathered)) (sym c.loop-i.invariant.names) ∙ rw c.inner.ensures at c.in_ok-test.ensures.ok in
    let scope : c.form.new.self.scope ≡ c.args.self.now.scope = c.in_ok-test.ensures.scope ∙ c.loop-i.invariant.names in
    let term : walk (form_tree c.index-parts-i-in-loop-i.result) at (gathered c.form.new.self.gathered) ≡ done (kernel c.in_ok-term.term) (gathered c.form-in-loop-i.new.self.gathered)
    = ap (λ sc. walk (form_tree c.index-parts-i-in-loop-i.result) (env sc c.args.functions.now c.args.at) (gathered c.form.new.self.gathered)) (sym scope) ∙ c.in_ok-term.ensures.ok in
    let added : list c.push.new.self ≡ list c.loop-i.choices ++ record { test = c.in_ok-test.test; term = c.in_ok-term.term } ∷ [] = c.push.ensures.added ∙ ap (λ (xs : List Choice). xs ++ record { test = c.in_ok-test.test; term = c.in_ok-term.term } ∷ []) c.in_ok-reserve.ensures.same in
    record {
      same = rw added (c.loop-i.invariant.same ∙ tested_step at c.args.parts.now c.loop-i.i c.index-parts-i.result c.index-parts-i-in-loop-i.result (list c.loop-i.choices) (record { test = c.in_ok-test.test; term = c.in_ok-term.term }) _ _ _ h c.index-parts-i.is c.index-parts-i-in-loop-i.is test term);
      names = c.in_ok-term.ensures.scope ∙ scope;
      half = c.loop-i.invariant.half;
      whole = c.loop-i.invariant.whole;
    }

pub tested-returns-clause-ok : goal.tested-returns-clause-ok
tested-returns-clause-ok t c = c.loop-i.invariant.same ∙ tested_over _ c.args.parts.now c.loop-i.i (list c.loop-i.choices) _ (omega (arith, c.loop-i.invariant.whole, c.loop-i-test.false))

pub loop_form-returns-in-Some-clause-err : goal.loop_form-returns-in-Some-clause-err
loop_form-returns-in-Some-clause-err t c =
    loop_wrong c.args.place c.args.parts.now c.index-parts-1.result _ _ c.in-Some.kind (omega arith) c.index-parts-1.is (sym c.bounds_error.ensures ∙ c.in-Some.is)

pub loop_form-returns-in-None-clause-ok : goal.loop_form-returns-in-None-clause-ok
loop_form-returns-in-None-clause-ok t c =
    let same = loop_right c.args.place c.args.parts.now c.index-parts-1.result (env c.args.self.now.scope c.args.functions.now c.args.at) (omega arith) c.index-parts-1.is (sym c.bounds_error.ensures ∙ c.in-None.is) in
    rw same c.loop_parts.ensures.ok

pub loop_form-returns-in-None-clause-err : goal.loop_form-returns-in-None-clause-err
loop_form-returns-in-None-clause-err t c =
    let same = loop_right c.args.place c.args.parts.now c.index-parts-1.result (env c.args.self.now.scope c.args.functions.now c.args.at) (omega arith) c.index-parts-1.is (sym c.bounds_error.ensures ∙ c.in-None.is) in
    rw same c.loop_parts.ensures.err

pub while_form-returns-in_err-terms-clause-err : goal.while_form-returns-in_err-terms-clause-err
while_form-returns-in_err-terms-clause-err t c =
    let at : Env = env c.args.self.now.scope c.args.functions.now c.args.at in
    let test : walk (form_tree c.index-parts-1.result) (inner at) (gathered c.args.self.now.gathered) ≡ done (kernel c.in_ok-test.test) (gathered c.form.new.self.gathered) = rw c.inner.ensures at c.in_ok-test.ensures.ok in
    let e : Fails c.in_err-terms.field-0.0 (row_while c.args.place (form_parts (drop 1 c.args.parts.now)) at (gathered c.args.self.now.gathered))
    = while_body_fails c.args.place c.args.parts.now c.index-parts-1.result at (omega arith) c.index-parts-1.is c.in_err-terms.field-0.0 (kernel c.in_ok-test.test) (gathered c.args.self.now.gathered) (gathered c.form.new.self.gathered) test
    (rw (c.inner-2.ensures, c.in_ok-test.ensures.scope) at c.in_err-terms.ensures.err) in
    search rules

pub while_form-returns-clause-ok : goal.while_form-returns-clause-ok
while_form-returns-clause-ok t c =
    let at : Env = env c.args.self.now.scope c.args.functions.now c.args.at in
    let test : walk (form_tree c.index-parts-1.result) (inner at) (gathered c.args.self.now.gathered) ≡ done (kernel c.in_ok-test.test) (gathered c.form.new.self.gathered) = rw c.inner.ensures at c.in_ok-test.ensures.ok in
    let terms : means_in_order (meanings (form_parts (drop 2 c.args.parts.now))) (inner at) (gathered c.form.new.self.gathered) ≡ done (kernels (list c.in_ok-terms.terms)) (gathered c.in_order.new.self.gathered) = rw (c.inner-2.ensures, c.in_ok-test.ensures.scope) at c.in_ok-terms.ensures.ok in
    let made = rw (c.new.ensures, c.in_ok-next.ensures.ok) at c.rounds.ensures.ok in
    rw (while_walked c.args.place c.args.parts.now c.index-parts-1.result at (omega arith) c.index-parts-1.is c.len-first.result (kernel c.in_ok-test.test) (kernels (list c.in_ok-terms.terms)) (gathered c.args.self.now.gathered) (gathered c.form.new.self.gathered) (gathered c.in_order.new.self.gathered) test terms) made

pub planned_form-returns-clause-ok : goal.planned_form-returns-clause-ok
planned_form-returns-clause-ok t c =
    let here = rw c.plan_of-plan.ensures at c.follow.ensures.ok in
    rw (row_planned c.args.special c.args.place (form_parts (drop 1 c.args.parts.now)) (env c.args.self.now.scope c.args.functions.now c.args.at) (gathered c.args.self.now.gathered) c.requires.planned) here

pub planned_form-returns-clause-err : goal.planned_form-returns-clause-err
planned_form-returns-clause-err t c =
    let here = rw c.plan_of-plan.ensures at c.follow.ensures.err in
    rw (row_planned c.args.special c.args.place (form_parts (drop 1 c.args.parts.now)) (env c.args.self.now.scope c.args.functions.now c.args.at) (gathered c.args.self.now.gathered) c.requires.planned) here

pub operation_and_yes-returns-in_err-terms-clause-err : goal.operation_and_yes-returns-in_err-terms-clause-err
operation_and_yes-returns-in_err-terms-clause-err t c =
    let e : Fails c.in_err-terms.field-0.0 (operation c.args.head (and_yes true (meanings (form_parts (drop 1 c.args.parts.now)))) c.args.place (env c.args.self.now.scope c.args.functions.now c.args.at) (gathered c.args.self.now.gathered))
    = operation_yes_fails c.in_err-terms.field-0.0 c.args.head (meanings (form_parts (drop 1 c.args.parts.now))) c.args.place (env c.args.self.now.scope c.args.functions.now c.args.at) (gathered c.args.self.now.gathered) (rw c.inner.ensures at c.in_err-terms.ensures.err) in
    search rules

pub operation_and_yes-returns-clause-ok : goal.operation_and_yes-returns-clause-ok
operation_and_yes-returns-clause-ok t c =
    let inside : means_in_order (meanings (form_parts (drop 1 c.args.parts.now))) (inner (env c.args.self.now.scope c.args.functions.now c.args.at)) (gathered c.args.self.now.gathered) ≡ done (kernels (list c.in_ok-terms.terms)) (gathered c.in_order.new.self.gathered) = rw c.inner.ensures at c.in_ok-terms.ensures.ok in
    let here = rw c.in_ok-terms-2.ensures.ok at c.apply.ensures.ok in
    rw (operation_yes c.args.head (meanings (form_parts (drop 1 c.args.parts.now))) c.args.place (env c.args.self.now.scope c.args.functions.now c.args.at) (gathered c.args.self.now.gathered) (gathered c.in_order.new.self.gathered) (list c.in_ok-terms.terms) c.yes.result inside c.yes.ensures) here

pub alts_form-returns-in_ok-terms-3-clause-ok : goal.alts_form-returns-in_ok-terms-3-clause-ok
alts_form-returns-in_ok-terms-3-clause-ok t c =
    let second = rw c.in_ok-terms.ensures.scope at c.in_ok-terms-2.ensures.ok in
    let names : c.one_more-then-parts-ge6.new.self.scope ≡ c.args.self.now.scope = c.in_ok-terms-2.ensures.scope ∙ c.in_ok-terms.ensures.scope in
    let third = rw names at c.in_ok-terms-3.ensures.ok in
    let first = rw c.new.ensures at c.in_ok-terms.ensures.ok in
    let here = rw (sym (kernels_listed (list c.in_ok-terms-3.terms))) at c.apply.ensures.ok in
    rw (alts_three c.args.options c.args.place (env c.args.self.now.scope c.args.functions.now c.args.at) (gathered c.args.self.now.gathered) (gathered c.one_more.new.self.gathered) (gathered c.one_more-then-parts-ge6.new.self.gathered) (gathered c.one_more-then-parts-ge6-2.new.self.gathered) c.args.parts.now c.index-parts-1.result c.index-parts-3.result c.index-parts-5.result (terms_of (list c.in_ok-terms.terms)) (terms_of (list c.in_ok-terms-2.terms)) (terms_of (list c.in_ok-terms-3.terms)) (omega arith) c.index-parts-1.is c.index-parts-3.is c.index-parts-5.is first second third) here

pub alts_form-returns-in_ok-terms-5-clause-ok : goal.alts_form-returns-in_ok-terms-5-clause-ok
alts_form-returns-in_ok-terms-5-clause-ok t c =
    let second = rw c.in_ok-terms-4.ensures.scope at c.in_ok-terms-5.ensures.ok in
    let first = rw c.new-then-parts-ge4.ensures at c.in_ok-terms-4.ensures.ok in
    let here = rw (sym (kernels_listed (list c.in_ok-terms-5.terms))) at c.apply-then-parts-ge4.ensures.ok in
    rw (alts_two c.args.options c.args.place (env c.args.self.now.scope c.args.functions.now c.args.at) (gathered c.args.self.now.gathered) (gathered c.one_more-then-parts-ge4.new.self.gathered) (gathered c.one_more-then-parts-ge4-2.new.self.gathered) c.args.parts.now c.index-parts-1-then-parts-ge4.result c.index-parts-3-then-parts-ge4.result (terms_of (list c.in_ok-terms-4.terms)) (terms_of (list c.in_ok-terms-5.terms)) (omega arith) (omega arith) c.index-parts-1-then-parts-ge4.is c.index-parts-3-then-parts-ge4.is first second) here

pub alts_form-returns-else-parts-ge4-clause-ok : goal.alts_form-returns-else-parts-ge4-clause-ok
alts_form-returns-else-parts-ge4-clause-ok t c = rw (alts_one c.args.parts.now (omega arith)) c.operation.ensures.ok

pub alts_form-returns-else-parts-ge4-clause-err : goal.alts_form-returns-else-parts-ge4-clause-err
alts_form-returns-else-parts-ge4-clause-err t c = rw (alts_one c.args.parts.now (omega arith)) c.operation.ensures.err

pub chan_form-returns-then-count-gt1-clause-err : goal.chan_form-returns-then-count-gt1-clause-err
chan_form-returns-then-count-gt1-clause-err t c =
    let many : 1 < length (drop c.args.from c.args.parts.now) = rw (length-drop c.args.from c.args.parts.now) (omega arith) in
    chan_off (drop c.args.from c.args.parts.now) c.args.place (env c.args.self.now.scope c.args.functions.now c.args.at) (gathered c.args.self.now.gathered) many

pub buffer_of-returns-then-items-eq2-clause-ok : goal.buffer_of-returns-then-items-eq2-clause-ok
buffer_of-returns-then-items-eq2-clause-ok t c = rw (sized_on c.args.kind c.args.items.now c.args.place (search rules)) c.operation.ensures.ok

pub buffer_of-returns-then-items-eq2-clause-err : goal.buffer_of-returns-then-items-eq2-clause-err
buffer_of-returns-then-items-eq2-clause-err t c = rw (sized_on c.args.kind c.args.items.now c.args.place (search rules)) c.operation.ensures.err

pub buffer_of-returns-else-items-eq2-clause-err : goal.buffer_of-returns-else-items-eq2-clause-err
buffer_of-returns-else-items-eq2-clause-err t c = sized_off c.args.kind c.args.items.now c.args.place _ _ (search rules)

pub hidden_form-returns-in_err-operands-clause-err : goal.hidden_form-returns-in_err-operands-clause-err
hidden_form-returns-in_err-operands-clause-err t c =
    let e : Fails c.in_err-operands.field-0.0 (hidden_row c.args.form c.args.unwritten c.args.place (form_parts (drop 1 c.args.parts.now)) (env c.args.self.now.scope c.args.functions.now c.args.at) (gathered c.args.self.now.gathered))
    = hidden_row_fails c.in_err-operands.field-0.0 c.args.form c.args.unwritten c.args.place (env c.args.self.now.scope c.args.functions.now c.args.at) c.args.self.now.scope (gathered c.args.self.now.gathered) c.args.parts.now c.in_err-operands.ensures.err in
    search rules

pub hidden_form-returns-clause-ok : goal.hidden_form-returns-clause-ok
hidden_form-returns-clause-ok t c =
    let here = rw (c.next_number-first.ensures.is, c.in_ok-operands-2.ensures.ok) at c.hiding.ensures.ok in
    rw (hidden_row_done c.args.form c.args.unwritten c.args.place (env c.args.self.now.scope c.args.functions.now c.args.at) c.args.self.now.scope (gathered c.args.self.now.gathered) (gathered c.hidden.new.self.gathered) c.args.parts.now (terms_of (list c.in_ok-operands.operands)) c.in_ok-operands.ensures.ok) here

pub merge_form-returns-clause-ok : goal.merge_form-returns-clause-ok
merge_form-returns-clause-ok t c =
    let port : row_chan c.args.place (form_parts (drop 2 c.args.parts.now)) (inner (env c.hidden.new.self.scope c.args.functions.now c.args.at)) (gathered c.hidden.new.self.gathered) ≡ done (kernel c.in_ok-port.port) (gathered c.chan_form.new.self.gathered) = rw c.inner.ensures at c.in_ok-port.ensures.ok in
    let whole : terms_of (list c.in_ok-operands-2.operands) ≡ terms_of (list c.in_ok-operands.operands) ++ kernel c.in_ok-port.port ∷ [] = ap terms_of c.in_ok-operands-2.ensures.ok ∙ terms_append (list c.in_ok-operands.operands) (c.in_ok-port.port ∷ []) in
    let here = rw (c.next_number-first.ensures.is, whole) at c.merging.ensures.ok in
    rw (merge_done c.args.place (env c.args.self.now.scope c.args.functions.now c.args.at) c.args.self.now.scope c.hidden.new.self.scope (gathered c.args.self.now.gathered) (gathered c.hidden.new.self.gathered) (gathered c.chan_form.new.self.gathered) c.args.parts.now (terms_of (list c.in_ok-operands.operands)) (kernel c.in_ok-port.port) (omega arith) c.in_ok-operands.ensures.ok c.in_ok-operands.ensures.names port) here

pub published-returns-in_err-operands-clause-err : goal.published-returns-in_err-operands-clause-err
published-returns-in_err-operands-clause-err t c =
    let e : Fails c.in_err-operands.field-0.0 (pub_over (given_view c.args.given) c.args.place (form_parts (drop 1 c.args.parts.now)) (env c.args.self.now.scope c.args.functions.now c.args.at) (gathered c.args.self.now.gathered))
    = published_fails c.in_err-operands.field-0.0 c.args.given.function (keyword_terms c.args.given.keyword) c.args.place (env c.args.self.now.scope c.args.functions.now c.args.at) c.args.self.now.scope (gathered c.args.self.now.gathered) c.args.parts.now c.requires c.in_err-operands.ensures.err in
    search rules

pub published-returns-clause-ok : goal.published-returns-clause-ok
published-returns-clause-ok t c =
    let here = rw c.next_number-first.ensures.is at c.publishing.ensures.ok in
    rw (published_done c.args.given.function (keyword_terms c.args.given.keyword) c.args.place (env c.args.self.now.scope c.args.functions.now c.args.at) c.args.self.now.scope (gathered c.args.self.now.gathered) (gathered c.hidden.new.self.gathered) c.args.parts.now (terms_of (list c.in_ok-operands.operands)) c.requires c.in_ok-operands.ensures.ok) here

pub pub_form-returns-then-parts-ne3-clause-err : goal.pub_form-returns-then-parts-ne3-clause-err
pub_form-returns-then-parts-ne3-clause-err t c = pub_off c.args.place (env c.args.self.now.scope c.args.functions.now c.args.at) (gathered c.args.self.now.gathered) c.args.parts.now (search rules)

pub pub_form-returns-in-Ok-clause-ok : goal.pub_form-returns-in-Ok-clause-ok
pub_form-returns-in-Ok-clause-ok t c = rw (pub_on c.args.place (env c.args.self.now.scope c.args.functions.now c.args.at) (gathered c.args.self.now.gathered) c.args.parts.now c.index-parts-2.result (given_view c.in-Ok.given) (search rules) c.index-parts-2.is (c.in-Ok.ensures.ok c.args.at)) c.published.ensures.ok

pub pub_form-returns-in-Fault-clause-err : goal.pub_form-returns-in-Fault-clause-err
pub_form-returns-in-Fault-clause-err t c =
    let found : IsWrong (Fault c.in-Fault.kind c.in-Fault.wrong) (form_place (form_tree c.index-parts-2.result)) (given (form_tree c.index-parts-2.result) (env c.args.self.now.scope c.args.functions.now c.args.at)) = rw c.in-Fault.is at (c.in-Err.ensures.err c.args.at) in
    rw (pub_wrong c.args.place (env c.args.self.now.scope c.args.functions.now c.args.at) (gathered c.args.self.now.gathered) c.args.parts.now c.index-parts-2.result c.in-Fault.kind c.in-Fault.wrong (search rules) c.index-parts-2.is found) c.wrong_behind_one.ensures.err

pub piped-returns-in_err-count-clause-err : goal.piped-returns-in_err-count-clause-err
piped-returns-in_err-count-clause-err t c =
    let e : Fails c.in_err-count.field-0.0 (pipeline_by c.args.transform (given_view c.args.given) c.args.place c.args.place (form_parts (drop 1 c.args.parts.now)) (env c.args.self.now.scope c.args.functions.now c.args.at) (gathered c.args.self.now.gathered)) = count_fails c.args.transform c.args.given.function (keyword_terms c.args.given.keyword) c.args.place c.args.place (env c.args.self.now.scope c.args.functions.now c.args.at) c.args.self.now.scope c.args.parts.now c.index-parts-1.result (gathered c.args.self.now.gathered) c.requires.least c.requires.most c.index-parts-1.is c.in_err-count.field-0.0 c.in_err-count.ensures.err in
    search rules

pub piped-returns-in_err-target-clause-err : goal.piped-returns-in_err-target-clause-err
piped-returns-in_err-target-clause-err t c =
    let first = rw c.new.ensures at c.in_ok-count.ensures.ok in
    let count : Hides (env c.args.self.now.scope c.args.functions.now c.args.at) c.args.self.now.scope (gathered c.args.self.now.gathered) (workers (walk (form_tree c.index-parts-1.result)) c.args.place ∷ []) (kernel c.in_ok-apply.field-0 ∷ []) (gathered c.apply.new.self)
    = worker_done c.args.place (env c.args.self.now.scope c.args.functions.now c.args.at) c.args.self.now.scope (gathered c.args.self.now.gathered) (gathered c.one_more.new.self.gathered) (gathered c.apply.new.self) c.index-parts-1.result (list c.in_ok-count.count) (kernel c.in_ok-apply.field-0) first c.in_ok-apply.ensures.ok in
    let hid : c.hide.new.self ≡ c.args.self.now.scope ++ [] ∷ [] = c.in_ok-hide.ensures.ok ∙ ap (λ (z : List (List ℕ)). z ++ [] ∷ []) c.in_ok-count.ensures.scope in
    let e : Fails c.in_err-target.field-0.0 (pipeline_by c.args.transform (given_view c.args.given) c.args.place c.args.place (form_parts (drop 1 c.args.parts.now)) (env c.args.self.now.scope c.args.functions.now c.args.at) (gathered c.args.self.now.gathered)) = target_fails c.args.transform c.args.given.function (keyword_terms c.args.given.keyword) c.args.place c.args.place (env c.args.self.now.scope c.args.functions.now c.args.at) c.args.self.now.scope c.args.parts.now c.index-parts-1.result (gathered c.args.self.now.gathered) c.requires.least c.requires.most c.index-parts-1.is c.in_err-target.field-0.0 c.hide.new.self (gathered c.apply.new.self) (kernel c.in_ok-apply.field-0) count hid c.in_err-target.ensures.err in
    search rules

pub piped-returns-in_err-source-clause-err : goal.piped-returns-in_err-source-clause-err
piped-returns-in_err-source-clause-err t c =
    let first = rw c.new.ensures at c.in_ok-count.ensures.ok in
    let count : Hides (env c.args.self.now.scope c.args.functions.now c.args.at) c.args.self.now.scope (gathered c.args.self.now.gathered) (workers (walk (form_tree c.index-parts-1.result)) c.args.place ∷ []) (kernel c.in_ok-apply.field-0 ∷ []) (gathered c.apply.new.self)
    = worker_done c.args.place (env c.args.self.now.scope c.args.functions.now c.args.at) c.args.self.now.scope (gathered c.args.self.now.gathered) (gathered c.one_more.new.self.gathered) (gathered c.apply.new.self) c.index-parts-1.result (list c.in_ok-count.count) (kernel c.in_ok-apply.field-0) first c.in_ok-apply.ensures.ok in
    let hid : c.hide.new.self ≡ c.args.self.now.scope ++ [] ∷ [] = c.in_ok-hide.ensures.ok ∙ ap (λ (z : List (List ℕ)). z ++ [] ∷ []) c.in_ok-count.ensures.scope in
    let e : Fails c.in_err-source.field-0.0 (pipeline_by c.args.transform (given_view c.args.given) c.args.place c.args.place (form_parts (drop 1 c.args.parts.now)) (env c.args.self.now.scope c.args.functions.now c.args.at) (gathered c.args.self.now.gathered)) = source_fails c.args.transform c.args.given.function (keyword_terms c.args.given.keyword) c.args.place c.args.place (env c.args.self.now.scope c.args.functions.now c.args.at) c.args.self.now.scope c.args.parts.now c.index-parts-1.result (gathered c.args.self.now.gathered) c.requires.least c.requires.most c.index-parts-1.is c.in_err-source.field-0.0 c.hide.new.self c.hidden.new.self.scope (gathered c.apply.new.self) (gathered c.hidden.new.self.gathered) (kernel c.in_ok-apply.field-0) (terms_of (list c.in_ok-target.target)) count hid c.in_ok-target.ensures.ok c.in_ok-target.ensures.names c.in_err-source.ensures.err in
    search rules

pub piped-returns-clause-ok : goal.piped-returns-clause-ok
piped-returns-clause-ok t c =
    let first = rw c.new.ensures at c.in_ok-count.ensures.ok in
    let count : Hides (env c.args.self.now.scope c.args.functions.now c.args.at) c.args.self.now.scope (gathered c.args.self.now.gathered) (workers (walk (form_tree c.index-parts-1.result)) c.args.place ∷ []) (kernel c.in_ok-apply.field-0 ∷ []) (gathered c.apply.new.self)
    = worker_done c.args.place (env c.args.self.now.scope c.args.functions.now c.args.at) c.args.self.now.scope (gathered c.args.self.now.gathered) (gathered c.one_more.new.self.gathered) (gathered c.apply.new.self) c.index-parts-1.result (list c.in_ok-count.count) (kernel c.in_ok-apply.field-0) first c.in_ok-apply.ensures.ok in
    let hid : c.hide.new.self ≡ c.args.self.now.scope ++ [] ∷ [] = c.in_ok-hide.ensures.ok ∙ ap (λ (z : List (List ℕ)). z ++ [] ∷ []) c.in_ok-count.ensures.scope in
    let whole : terms_of (list c.in_ok-operands.operands) ≡ kernel c.in_ok-apply.field-0 ∷ (terms_of (list c.in_ok-target.target) ++ terms_of (list c.in_ok-source.source))
    = ap terms_of c.in_ok-operands.ensures.ok ∙ ap (λ (xs : List Term). terms_of (xs ++ list c.in_ok-ports.ports)) c.in_ok-workers.ensures.ok ∙ ap (λ (xs : List Term). kernel c.in_ok-apply.field-0 ∷ terms_of xs) c.in_ok-ports.ensures.ok
    ∙ ap (λ (ks : List Kernel). kernel c.in_ok-apply.field-0 ∷ ks) (terms_append (list c.in_ok-target.target) (list c.in_ok-source.source)) in
    let here = rw (c.next_number-first.ensures.is, c.in_ok-operands-2.ensures.ok, whole) at c.pipelining.ensures.ok in
    rw (piped_done c.args.transform c.args.given.function (keyword_terms c.args.given.keyword) c.args.place c.args.place (env c.args.self.now.scope c.args.functions.now c.args.at) c.args.self.now.scope c.args.parts.now c.index-parts-1.result (gathered c.args.self.now.gathered) c.requires.least c.requires.most c.index-parts-1.is c.hide.new.self c.hidden.new.self.scope (gathered c.apply.new.self) (gathered c.hidden.new.self.gathered) (gathered c.hidden-2.new.self.gathered) (kernel c.in_ok-apply.field-0) (terms_of (list c.in_ok-target.target)) (terms_of (list c.in_ok-source.source)) count hid c.in_ok-target.ensures.ok c.in_ok-target.ensures.names c.in_ok-source.ensures.ok) here

pub piped-returns-clause-scope : goal.piped-returns-clause-scope
piped-returns-clause-scope t c =
    let hid : c.hide.new.self ≡ c.args.self.now.scope ++ [] ∷ [] = c.in_ok-hide.ensures.ok ∙ ap (λ (z : List (List ℕ)). z ++ [] ∷ []) c.in_ok-count.ensures.scope in
    let same : c.leave.new.self ≡ c.args.self.now.scope = c.leave.ensures.left ∙ ap (λ n. take n c.hidden-2.new.self.scope) c.next_number-first.ensures.is ∙ left_again c.args.self.now.scope c.hide.new.self c.hidden.new.self.scope c.hidden-2.new.self.scope ([] ∷ []) _ _ hid c.in_ok-target.ensures.names c.in_ok-source.ensures.names in
    held c.pipelining.result _ same

pub pipeline_form-returns-then-parts-lt5-clause-err : goal.pipeline_form-returns-then-parts-lt5-clause-err
pipeline_form-returns-then-parts-lt5-clause-err t c = pipeline_off c.args.transform c.args.place (env c.args.self.now.scope c.args.functions.now c.args.at) (gathered c.args.self.now.gathered) c.args.parts.now (inl (omega arith))

pub pipeline_form-returns-then-parts-gt6-clause-err : goal.pipeline_form-returns-then-parts-gt6-clause-err
pipeline_form-returns-then-parts-gt6-clause-err t c = pipeline_off c.args.transform c.args.place (env c.args.self.now.scope c.args.functions.now c.args.at) (gathered c.args.self.now.gathered) c.args.parts.now (inr (omega arith))

pub pipeline_form-returns-in-Ok-clause-ok : goal.pipeline_form-returns-in-Ok-clause-ok
pipeline_form-returns-in-Ok-clause-ok t c = rw (pipeline_on c.args.transform c.args.place (env c.args.self.now.scope c.args.functions.now c.args.at) (gathered c.args.self.now.gathered) c.args.parts.now c.index-parts-3.result (form_tree c.in-Some.function.now) (omega arith) (omega arith) c.index-parts-3.is c.in-Some.ensures, c.in-Ok.ensures.ok c.args.at, by_any c.args.transform c.args.place (env c.args.self.now.scope c.args.functions.now c.args.at) (gathered c.args.self.now.gathered) c.args.parts.now c.in-Ok.given.function (keyword_terms c.in-Ok.given.keyword) (form_place (form_tree c.in-Some.function.now)) c.args.place (omega arith) (omega arith)) c.piped.ensures.ok

pub pipeline_form-returns-in-Ok-clause-err : goal.pipeline_form-returns-in-Ok-clause-err
pipeline_form-returns-in-Ok-clause-err t c = rw (pipeline_on c.args.transform c.args.place (env c.args.self.now.scope c.args.functions.now c.args.at) (gathered c.args.self.now.gathered) c.args.parts.now c.index-parts-3.result (form_tree c.in-Some.function.now) (omega arith) (omega arith) c.index-parts-3.is c.in-Some.ensures, c.in-Ok.ensures.ok c.args.at, by_any c.args.transform c.args.place (env c.args.self.now.scope c.args.functions.now c.args.at) (gathered c.args.self.now.gathered) c.args.parts.now c.in-Ok.given.function (keyword_terms c.in-Ok.given.keyword) (form_place (form_tree c.in-Some.function.now)) c.args.place (omega arith) (omega arith)) c.piped.ensures.err

pub pipeline_form-returns-in-Fault-clause-err : goal.pipeline_form-returns-in-Fault-clause-err
pipeline_form-returns-in-Fault-clause-err t c =
    let found : IsWrong (Fault c.in-Fault.kind c.in-Fault.wrong) (form_place (form_tree c.in-Some.function.now)) (given (form_tree c.in-Some.function.now) (env c.args.self.now.scope c.args.functions.now c.args.at)) = rw c.in-Fault.is at (c.in-Err.ensures.err c.args.at) in
    rw (pipeline_on c.args.transform c.args.place (env c.args.self.now.scope c.args.functions.now c.args.at) (gathered c.args.self.now.gathered) c.args.parts.now c.index-parts-3.result (form_tree c.in-Some.function.now) (omega arith) (omega arith) c.index-parts-3.is c.in-Some.ensures, found.1, by_wrong c.args.transform c.args.place (env c.args.self.now.scope c.args.functions.now c.args.at) (gathered c.args.self.now.gathered) c.args.parts.now c.in-Fault.kind c.in-Fault.wrong (form_place (form_tree c.in-Some.function.now)) (omega arith) (omega arith) found.0) c.wrong_behind_two.ensures.err

pub bound_form-returns-else-is_bound_shape-clause-err : goal.bound_form-returns-else-is_bound_shape-clause-err
bound_form-returns-else-is_bound_shape-clause-err t c =
    bound_off c.args.some c.args.branches c.args.place c.args.parts.now (env c.args.self.now.scope c.args.functions.now c.args.at) (gathered c.args.self.now.gathered) (sym c.is_bound_shape.ensures ∙ c.if-is_bound_shape.false)

pub bound_form-returns-then-parts-lt2-clause-err : goal.bound_form-returns-then-parts-lt2-clause-err
bound_form-returns-then-parts-lt2-clause-err t c =
    bound_off c.args.some c.args.branches c.args.place c.args.parts.now (env c.args.self.now.scope c.args.functions.now c.args.at) (gathered c.args.self.now.gathered) (shape_less c.args.branches c.args.parts.now (omega arith))

pub bound_tested-returns-in_err-value-clause-err : goal.bound_tested-returns-in_err-value-clause-err
bound_tested-returns-in_err-value-clause-err t c =
    let at : Env = env c.args.self.now.scope c.args.functions.now c.args.at in
    let e : Fails c.in_err-value.field-0.0 (row_bound c.args.some c.args.branches c.args.place (form_parts (drop 1 c.args.parts.now)) at (gathered c.args.self.now.gathered))
    = rw (bound_right c.args.some c.args.branches c.args.place c.args.parts.now c.index-parts-1.result at (gathered c.args.self.now.gathered) c.requires.more c.index-parts-1.is c.requires.shape)
    (bound_value_fails c.args.some c.args.place (form_tree c.index-parts-1.result) (bound_body c.args.branches (form_parts (drop 2 c.args.parts.now))) (bound_other c.args.branches (form_parts (drop 2 c.args.parts.now))) at (gathered c.args.self.now.gathered) c.in_err-value.field-0.0 (rw c.inner.ensures at c.in_err-value.ensures.err)) in
    search rules

pub bound_tested-returns-in_err-body-clause-err : goal.bound_tested-returns-in_err-body-clause-err
bound_tested-returns-in_err-body-clause-err t c =
    let at : Env = env c.args.self.now.scope c.args.functions.now c.args.at in
    let sc2 : c.hide.new.self ≡ c.args.self.now.scope ++ [] ∷ [] = c.in_ok-hide.ensures.ok ∙ ap (λ (z : List (List ℕ)). z ++ [] ∷ []) c.in_ok-value.ensures.scope in
    let value : only_means (form_tree c.index-parts-1.result) (inner at) (gathered c.args.self.now.gathered) ≡ done (kernel c.in_ok-value.value) (gathered c.only_value.new.self.gathered) = rw c.inner.ensures at c.in_ok-value.ensures.ok in
    let e : Fails c.in_err-body.field-0.0 (row_bound c.args.some c.args.branches c.args.place (form_parts (drop 1 c.args.parts.now)) at (gathered c.args.self.now.gathered))
    = rw (bound_right c.args.some c.args.branches c.args.place c.args.parts.now c.index-parts-1.result at (gathered c.args.self.now.gathered) c.requires.more c.index-parts-1.is c.requires.shape)
    (bound_body_fails c.args.some c.args.place (form_tree c.index-parts-1.result) (bound_body c.args.branches (form_parts (drop 2 c.args.parts.now))) (bound_other c.args.branches (form_parts (drop 2 c.args.parts.now))) at (gathered c.args.self.now.gathered)
    c.in_err-body.field-0.0 (kernel c.in_ok-value.value) (gathered c.only_value.new.self.gathered) value (rw (c.len-first.ensures, sc2) at c.in_err-body.ensures.err)) in
    search rules

pub bound_tested-returns-in_err-other-clause-err : goal.bound_tested-returns-in_err-other-clause-err
bound_tested-returns-in_err-other-clause-err t c =
    let at : Env = env c.args.self.now.scope c.args.functions.now c.args.at in
    let sc2 : c.hide.new.self ≡ c.args.self.now.scope ++ [] ∷ [] = c.in_ok-hide.ensures.ok ∙ ap (λ (z : List (List ℕ)). z ++ [] ∷ []) c.in_ok-value.ensures.scope in
    let value : only_means (form_tree c.index-parts-1.result) (inner at) (gathered c.args.self.now.gathered) ≡ done (kernel c.in_ok-value.value) (gathered c.only_value.new.self.gathered) = rw c.inner.ensures at c.in_ok-value.ensures.ok in
    let e : Fails c.in_err-other.field-0.0 (row_bound c.args.some c.args.branches c.args.place (form_parts (drop 1 c.args.parts.now)) at (gathered c.args.self.now.gathered))
    = rw (bound_right c.args.some c.args.branches c.args.place c.args.parts.now c.index-parts-1.result at (gathered c.args.self.now.gathered) c.requires.more c.index-parts-1.is c.requires.shape)
    (bound_other_fails c.args.some c.args.place (form_tree c.index-parts-1.result) (bound_body c.args.branches (form_parts (drop 2 c.args.parts.now))) (bound_other c.args.branches (form_parts (drop 2 c.args.parts.now))) at (gathered c.args.self.now.gathered)
    c.in_err-other.field-0.0 (kernel c.in_ok-value.value) (kernel c.in_ok-body.body) (gathered c.only_value.new.self.gathered) (gathered c.bound_then.new.self.gathered) value (rw (c.len-first.ensures, sc2) at c.in_ok-body.ensures.ok) (rw (c.in_ok-body.ensures.scope, sc2) at c.in_err-other.ensures.err)) in
    search rules

pub bound_tested-returns-clause-ok : goal.bound_tested-returns-clause-ok
bound_tested-returns-clause-ok t c =
    let at : Env = env c.args.self.now.scope c.args.functions.now c.args.at in
    let sc2 : c.hide.new.self ≡ c.args.self.now.scope ++ [] ∷ [] = c.in_ok-hide.ensures.ok ∙ ap (λ (z : List (List ℕ)). z ++ [] ∷ []) c.in_ok-value.ensures.scope in
    let value : only_means (form_tree c.index-parts-1.result) (inner at) (gathered c.args.self.now.gathered) ≡ done (kernel c.in_ok-value.value) (gathered c.only_value.new.self.gathered) = rw c.inner.ensures at c.in_ok-value.ensures.ok in
    let made = rw (c.len-first.ensures, c.in_ok-values.ensures.ok) at c.choice.ensures.ok in
    rw (bound_right c.args.some c.args.branches c.args.place c.args.parts.now c.index-parts-1.result at (gathered c.args.self.now.gathered) c.requires.more c.index-parts-1.is c.requires.shape
    ∙ bound_walked c.args.some c.args.place (form_tree c.index-parts-1.result) (bound_body c.args.branches (form_parts (drop 2 c.args.parts.now))) (bound_other c.args.branches (form_parts (drop 2 c.args.parts.now))) at (gathered c.args.self.now.gathered)
    (kernel c.in_ok-value.value) (kernel c.in_ok-body.body) (kernel c.in_ok-other.other) (gathered c.only_value.new.self.gathered) (gathered c.bound_then.new.self.gathered) (gathered c.bound_other.new.self.gathered)
    value (rw (c.len-first.ensures, sc2) at c.in_ok-body.ensures.ok) (rw (c.in_ok-body.ensures.scope, sc2) at c.in_ok-other.ensures.ok)) made

pub bound_then-returns-in_err-body-clause-err : goal.bound_then-returns-in_err-body-clause-err
bound_then-returns-in_err-body-clause-err t c =
    let at : Env = env c.args.self.now.scope c.args.functions.now c.args.at in
    let sc2 : c.bind_name.new.self.scope ≡ c.args.self.now.scope ++ total_name (first_in (form_tree c.args.bindings.now)) ∷ [] = c.in_ok-bind_name.ensures.ok ∙ ap (λ f. c.args.self.now.scope ++ total_name f ∷ []) c.binder_in.ensures in
    let e : Fails c.in_err-body.field-0.0 (name_as (total_name (first_in (form_tree c.args.bindings.now))) (local_name c.args.hidden) (bound_body c.args.branches (form_parts (drop 2 c.args.parts.now))) at (gathered c.args.self.now.gathered))
    = then_fails c.in_err-body.field-0.0 (total_name (first_in (form_tree c.args.bindings.now))) c.args.hidden (bound_body c.args.branches (form_parts (drop 2 c.args.parts.now))) at c.bind_name.new.self.scope (gathered c.args.self.now.gathered) sc2
    (rw c.in_ok-bind_name.ensures.gathered at c.in_err-body.ensures.err) in
    search rules

pub bound_then-returns-clause-ok : goal.bound_then-returns-clause-ok
bound_then-returns-clause-ok t c =
    let at : Env = env c.args.self.now.scope c.args.functions.now c.args.at in
    let sc2 : c.bind_name.new.self.scope ≡ c.args.self.now.scope ++ total_name (first_in (form_tree c.args.bindings.now)) ∷ [] = c.in_ok-bind_name.ensures.ok ∙ ap (λ f. c.args.self.now.scope ++ total_name f ∷ []) c.binder_in.ensures in
    let made = rw (c.len-first.ensures, c.in_ok-values.ensures.ok, c.local.ensures) at c.bind.ensures.ok in
    rw (then_walked (total_name (first_in (form_tree c.args.bindings.now))) c.args.hidden (bound_body c.args.branches (form_parts (drop 2 c.args.parts.now))) at c.bind_name.new.self.scope (kernel c.in_ok-body.body) (gathered c.args.self.now.gathered) (gathered c.bound_body.new.self.gathered) sc2
    (rw c.in_ok-bind_name.ensures.gathered at c.in_ok-body.ensures.ok)) made

pub dotimes_form-returns-else-is_bound_shape-clause-err : goal.dotimes_form-returns-else-is_bound_shape-clause-err
dotimes_form-returns-else-is_bound_shape-clause-err t c =
    dotimes_off c.args.place c.args.parts.now (env c.args.self.now.scope c.args.functions.now c.args.at) (gathered c.args.self.now.gathered) (sym c.is_bound_shape.ensures ∙ c.if-is_bound_shape.false)

pub dotimes_parts-returns-in_err-value-clause-err : goal.dotimes_parts-returns-in_err-value-clause-err
dotimes_parts-returns-in_err-value-clause-err t c =
    let at : Env = env c.args.self.now.scope c.args.functions.now c.args.at in
    let e : Fails c.in_err-value.field-0.0 (row_dotimes c.args.place (form_parts (drop 1 c.args.parts.now)) at (gathered c.args.self.now.gathered))
    = dotimes_value_fails c.args.place c.args.parts.now c.index-parts-1.result at (gathered c.args.self.now.gathered) c.requires.more c.index-parts-1.is c.requires.shape c.in_err-value.field-0.0 (rw c.inner.ensures at c.in_err-value.ensures.err) in
    search rules

pub dotimes_parts-returns-in_err-terms-clause-err : goal.dotimes_parts-returns-in_err-terms-clause-err
dotimes_parts-returns-in_err-terms-clause-err t c =
    let at : Env = env c.args.self.now.scope c.args.functions.now c.args.at in
    let sc2 : c.hide.new.self ≡ c.args.self.now.scope ++ [] ∷ [] = c.in_ok-hide.ensures.ok ∙ ap (λ (z : List (List ℕ)). z ++ [] ∷ []) c.in_ok-value.ensures.scope in
    let sc3 : c.bind_name.new.self.scope ≡ (c.args.self.now.scope ++ [] ∷ []) ++ total_name (first_in (form_tree c.index-parts-1.result)) ∷ []
    = c.in_ok-bind_name.ensures.ok ∙ ap₂ (λ (z : List (List ℕ)) f. z ++ total_name f ∷ []) sc2 c.binder_in.ensures in
    let value : only_means (form_tree c.index-parts-1.result) (inner at) (gathered c.args.self.now.gathered) ≡ done (kernel c.in_ok-value.value) (gathered c.only_value.new.self.gathered) = rw c.inner.ensures at c.in_ok-value.ensures.ok in
    let e : Fails c.in_err-terms.field-0.0 (row_dotimes c.args.place (form_parts (drop 1 c.args.parts.now)) at (gathered c.args.self.now.gathered))
    = dotimes_body_fails c.args.place c.args.parts.now c.index-parts-1.result at (gathered c.args.self.now.gathered) c.requires.more c.index-parts-1.is c.requires.shape c.in_err-terms.field-0.0 (kernel c.in_ok-value.value) (gathered c.only_value.new.self.gathered) value
    (rw (c.inner-2.ensures, sc3, c.in_ok-bind_name.ensures.gathered) at c.in_err-terms.ensures.err) in
    search rules

pub dotimes_parts-returns-clause-ok : goal.dotimes_parts-returns-clause-ok
dotimes_parts-returns-clause-ok t c =
    let at : Env = env c.args.self.now.scope c.args.functions.now c.args.at in
    let sc2 : c.hide.new.self ≡ c.args.self.now.scope ++ [] ∷ [] = c.in_ok-hide.ensures.ok ∙ ap (λ (z : List (List ℕ)). z ++ [] ∷ []) c.in_ok-value.ensures.scope in
    let sc3 : c.bind_name.new.self.scope ≡ (c.args.self.now.scope ++ [] ∷ []) ++ total_name (first_in (form_tree c.index-parts-1.result)) ∷ []
    = c.in_ok-bind_name.ensures.ok ∙ ap₂ (λ (z : List (List ℕ)) f. z ++ total_name f ∷ []) sc2 c.binder_in.ensures in
    let value : only_means (form_tree c.index-parts-1.result) (inner at) (gathered c.args.self.now.gathered) ≡ done (kernel c.in_ok-value.value) (gathered c.only_value.new.self.gathered) = rw c.inner.ensures at c.in_ok-value.ensures.ok in
    let terms : means_in_order (meanings (form_parts (drop 2 c.args.parts.now))) (inner (behind_name (total_name (first_in (form_tree c.index-parts-1.result))) (behind_name [] at))) (gathered c.only_value.new.self.gathered) ≡ done (kernels (list c.in_ok-terms.terms)) (gathered c.in_order.new.self.gathered)
    = rw (c.inner-2.ensures, sc3, c.in_ok-bind_name.ensures.gathered) at c.in_ok-terms.ensures.ok in
    let counted : counted_rounds (length c.args.self.now.scope + 1) (length c.args.self.now.scope) (kernels (list c.in_ok-terms.terms)) c.args.place (gathered c.in_order.new.self.gathered) ≡ done (kernel c.in_ok-counted.counted) (gathered c.count.new.self)
    = rw c.len-first.ensures at c.in_ok-counted.ensures.ok in
    let made = rw (c.len-first.ensures, c.in_ok-values.ensures.ok) at c.under.ensures.ok in
    rw (dotimes_walked c.args.place c.args.parts.now c.index-parts-1.result at (gathered c.args.self.now.gathered) c.requires.more c.index-parts-1.is c.requires.shape (kernel c.in_ok-value.value) (kernels (list c.in_ok-terms.terms)) (gathered c.only_value.new.self.gathered) (gathered c.in_order.new.self.gathered) value terms, counted) made

pub doseq_form-returns-else-is_only_shape-clause-err : goal.doseq_form-returns-else-is_only_shape-clause-err
doseq_form-returns-else-is_only_shape-clause-err t c =
    doseq_off c.args.place c.args.parts.now (env c.args.self.now.scope c.args.functions.now c.args.at) (gathered c.args.self.now.gathered) (sym c.is_only_shape.ensures ∙ c.if-is_only_shape.false)

pub doseq_parts-returns-in_err-value-clause-err : goal.doseq_parts-returns-in_err-value-clause-err
doseq_parts-returns-in_err-value-clause-err t c =
    let at : Env = env c.args.self.now.scope c.args.functions.now c.args.at in
    let bd : Bound = record { by = total_binder (first_in (form_tree c.index-parts-1.result)); means = only_means (form_tree c.index-parts-1.result) } in
    let e : Fails c.in_err-value.field-0.0 (row_doseq c.args.place (form_parts (drop 1 c.args.parts.now)) at (gathered c.args.self.now.gathered))
    = rw (doseq_row c.args.place c.args.parts.now c.index-parts-1.result at (gathered c.args.self.now.gathered) c.requires.more c.index-parts-1.is c.requires.shape)
    (items_fail c.args.place bd (block (meanings (form_parts (drop 2 c.args.parts.now)))) at (gathered c.args.self.now.gathered) c.in_err-value.field-0.0 (rw c.inner.ensures at c.in_err-value.ensures.err)) in
    search rules

pub doseq_parts-returns-in_err-body-clause-err : goal.doseq_parts-returns-in_err-body-clause-err
doseq_parts-returns-in_err-body-clause-err t c =
    let at : Env = env c.args.self.now.scope c.args.functions.now c.args.at in
    let bd : Bound = record { by = total_binder (first_in (form_tree c.index-parts-1.result)); means = only_means (form_tree c.index-parts-1.result) } in
    let body : Meaning = block (meanings (form_parts (drop 2 c.args.parts.now))) in
    let sc2 : c.hide_three.new.self.scope ≡ (c.args.self.now.scope ++ [] ∷ [] ∷ []) ++ [] ∷ [] = c.in_ok-hide_three.ensures.ok ∙ ap (λ (z : List (List ℕ)). (z ++ [] ∷ [] ∷ []) ++ [] ∷ []) c.in_ok-value.ensures.scope in
    let value : only_means (form_tree c.index-parts-1.result) (inner at) (gathered c.args.self.now.gathered) ≡ done (kernel c.in_ok-value.value) (gathered c.only_value.new.self.gathered) = rw c.inner.ensures at c.in_ok-value.ensures.ok in
    let items : limited (items_call (kernel c.in_ok-value.value) c.args.place) (gathered c.only_value.new.self.gathered) ≡ done (kernel c.in_ok-items.items) (gathered c.apply.new.self) = rw c.in_ok-operands.ensures.ok at c.in_ok-items.ensures.ok in
    let e : Fails c.in_err-body.field-0.0 (row_doseq c.args.place (form_parts (drop 1 c.args.parts.now)) at (gathered c.args.self.now.gathered))
    = rw (doseq_row c.args.place c.args.parts.now c.index-parts-1.result at (gathered c.args.self.now.gathered) c.requires.more c.index-parts-1.is c.requires.shape)
    (round_fails c.args.place bd body at (gathered c.args.self.now.gathered) (kernel c.in_ok-value.value) (kernel c.in_ok-items.items) (gathered c.only_value.new.self.gathered) (gathered c.apply.new.self) value items c.in_err-body.field-0.0
    (rw (c.next_number-first.ensures.is, c.inner-2.ensures, sc2, c.in_ok-hide_three.ensures.gathered) at c.in_err-body.ensures.err)) in
    search rules

pub doseq_parts-returns-clause-ok : goal.doseq_parts-returns-clause-ok
doseq_parts-returns-clause-ok t c =
    let at : Env = env c.args.self.now.scope c.args.functions.now c.args.at in
    let bd : Bound = record { by = total_binder (first_in (form_tree c.index-parts-1.result)); means = only_means (form_tree c.index-parts-1.result) } in
    let body : Meaning = block (meanings (form_parts (drop 2 c.args.parts.now))) in
    let n : ℕ = length c.args.self.now.scope in
    let sc2 : c.hide_three.new.self.scope ≡ (c.args.self.now.scope ++ [] ∷ [] ∷ []) ++ [] ∷ [] = c.in_ok-hide_three.ensures.ok ∙ ap (λ (z : List (List ℕ)). (z ++ [] ∷ [] ∷ []) ++ [] ∷ []) c.in_ok-value.ensures.scope in
    let value : only_means (form_tree c.index-parts-1.result) (inner at) (gathered c.args.self.now.gathered) ≡ done (kernel c.in_ok-value.value) (gathered c.only_value.new.self.gathered) = rw c.inner.ensures at c.in_ok-value.ensures.ok in
    let items : limited (items_call (kernel c.in_ok-value.value) c.args.place) (gathered c.only_value.new.self.gathered) ≡ done (kernel c.in_ok-items.items) (gathered c.apply.new.self) = rw c.in_ok-operands.ensures.ok at c.in_ok-items.ensures.ok in
    let item : item_of bd.by n (n + 2) body c.args.place (inner (behind_name [] (record at { scope = c.args.self.now.scope ++ [] ∷ [] ∷ [] }))) (gathered c.apply.new.self) ≡ done (kernel c.in_ok-body.body) (gathered c.doseq_item.new.self.gathered)
    = rw (c.next_number-first.ensures.is, c.inner-2.ensures, sc2, c.in_ok-hide_three.ensures.gathered) at c.in_ok-body.ensures.ok in
    let counted : counted_rounds (n + 2) (n + 1) (term (kernel c.in_ok-body.body) no_terms) c.args.place (gathered c.doseq_item.new.self.gathered) ≡ done (kernel c.in_ok-counted.counted) (gathered c.count.new.self)
    = rw (c.next_number-first.ensures.is, c.in_ok-terms.ensures.ok) at c.in_ok-counted.ensures.ok in
    let made = rw (c.in_ok-values.ensures.ok, c.in_ok-count.ensures.ok, c.next_number-first.ensures.is) at c.under.ensures.ok in
    rw (
      doseq_row c.args.place c.args.parts.now c.index-parts-1.result at (gathered c.args.self.now.gathered) c.requires.more c.index-parts-1.is c.requires.shape
          ∙ round_walked c.args.place bd body at (gathered c.args.self.now.gathered) (kernel c.in_ok-value.value) (kernel c.in_ok-items.items) (gathered c.only_value.new.self.gathered) (gathered c.apply.new.self) value items
          (kernel c.in_ok-body.body) (gathered c.doseq_item.new.self.gathered) item,
      counted,
    ) made

pub doseq_item-returns-then-is_over_long-clause-err : goal.doseq_item-returns-then-is_over_long-clause-err
doseq_item-returns-then-is_over_long-clause-err t c =
    let at : Env = env c.args.self.now.scope c.args.functions.now c.args.at in
    let f : FormTree = first_in (form_tree c.args.bindings.now) in
    let long : over_long (total_binder f) ≡ true = ap (λ g. over_long (total_binder g)) (sym c.binder_in-binder.ensures) ∙ sym c.is_over_long.ensures ∙ c.if-is_over_long.true in
    item_long c.args.place f c.args.vector (c.args.vector + 2) (block (meanings (form_parts (drop 2 c.args.parts.now)))) at (gathered c.args.self.now.gathered) long
    ∙ ap (λ q. refused TooMany q) (ap form_place (sym c.binder_in-binder.ensures ∙ tree_is c.binder_in-binder.result.now))

pub doseq_item-returns-in_err-body-clause-err : goal.doseq_item-returns-in_err-body-clause-err
doseq_item-returns-in_err-body-clause-err t c =
    let at : Env = env c.args.self.now.scope c.args.functions.now c.args.at in
    let f : FormTree = first_in (form_tree c.args.bindings.now) in
    let body : Meaning = block (meanings (form_parts (drop 2 c.args.parts.now))) in
    let short : over_long (total_binder f) ≡ false = ap (λ g. over_long (total_binder g)) (sym c.binder_in-binder.ensures) ∙ sym c.is_over_long.ensures ∙ c.if-is_over_long.false in
    let names : c.bind_value.new.self.scope ≡ c.args.self.now.scope ++ binder_names (total_binder f) = c.in_ok-values.ensures.names ∙ ap (λ g. c.args.self.now.scope ++ binder_names (total_binder g)) c.binder_in-binder.ensures in
    let e : Fails c.in_err-body.field-0.0 (item_of (total_binder f) c.args.vector (c.args.vector + 2) body c.args.place at (gathered c.args.self.now.gathered))
    = item_fails c.args.place f c.args.vector (c.args.vector + 2) body at (gathered c.args.self.now.gathered) c.bind_value.new.self.scope short names c.in_err-body.field-0.0 (rw c.in_ok-values.ensures.gathered at c.in_err-body.ensures.err) in
    search rules

pub doseq_item-returns-clause-ok : goal.doseq_item-returns-clause-ok
doseq_item-returns-clause-ok t c =
    let at : Env = env c.args.self.now.scope c.args.functions.now c.args.at in
    let f : FormTree = first_in (form_tree c.args.bindings.now) in
    let body : Meaning = block (meanings (form_parts (drop 2 c.args.parts.now))) in
    let short : over_long (total_binder f) ≡ false = ap (λ g. over_long (total_binder g)) (sym c.binder_in-binder.ensures) ∙ sym c.is_over_long.ensures ∙ c.if-is_over_long.false in
    let names : c.bind_value.new.self.scope ≡ c.args.self.now.scope ++ binder_names (total_binder f) = c.in_ok-values.ensures.names ∙ ap (λ g. c.args.self.now.scope ++ binder_names (total_binder g)) c.binder_in-binder.ensures in
    let values : terms_of (list c.in_ok-values.values) ≡ nth_term c.args.vector (c.args.vector + 2) c.args.place ∷ binder_parts c.args.place (length c.args.self.now.scope) (total_binder f)
    = rw (c.new.ensures, c.in_ok-term.ensures.ok, c.binder_in-binder.ensures) at c.in_ok-values.ensures.ok in
    let made = rw (c.len-size.ensures, values) at c.bind.ensures.ok in
    rw (item_walked c.args.place f c.args.vector (c.args.vector + 2) body at (gathered c.args.self.now.gathered) c.bind_value.new.self.scope short names (kernel c.in_ok-body.body) (gathered c.block.new.self.gathered) (rw c.in_ok-values.ensures.gathered at c.in_ok-body.ensures.ok)) made

pub bound_other-returns-then-parts-lt4-clause-ok : goal.bound_other-returns-then-parts-lt4-clause-ok
bound_other-returns-then-parts-lt4-clause-ok t c = rw (other_less c.args.branches c.args.parts.now (omega arith)) (search rules)

pub doseq_item-bind-requires : goal.doseq_item-bind-requires
doseq_item-bind-requires t c =
    let many : length c.bind_value.new.self.scope ≡ length c.args.self.now.scope + length (list c.in_ok-values.values)
    = bound_longer c.args.self.now.scope c.bind_value.new.self.scope (list c.new.result) (list c.in_ok-values.values) (kernel c.in_ok-term.term) (length c.args.self.now.scope) c.args.place (total_binder (form_tree c.binder_in-binder.result.now)) (length c.args.self.now.scope) c.in_ok-values.ensures.names c.in_ok-values.ensures.ok (rw c.new.ensures (omega arith)) in
    let kept : length c.block.new.self.scope ≡ length c.bind_value.new.self.scope = ap (λ (z : List (List ℕ)). length z) c.in_ok-body.ensures.scope in
    omega (arith, many, kept)

pub loop_patterns-returns-in_err-body-clause-err : goal.loop_patterns-returns-in_err-body-clause-err
loop_patterns-returns-in_err-body-clause-err t c =
    let at : Env = env c.args.self.now.scope c.args.functions.now c.args.at in
    let e : Fails c.in_err-body.field-0.0 (lets (patterns c.args.place c.args.whole (binders_of c.args.items.now)) (text_in c.args.parts.now) at (gathered c.args.self.now.gathered))
    = lets_fail at c.args.place c.args.whole (binders_of c.args.items.now) (text_in c.args.parts.now) c.args.self.now.scope c.unpack_bindings.new.self.scope (gathered c.args.self.now.gathered) (gathered c.unpack_bindings.new.self.gathered)
    c.in_ok-values.ensures.names c.in_ok-values.ensures.gathered c.in_err-body.field-0.0 c.in_err-body.ensures.err in
    search rules

pub loop_patterns-returns-clause-ok : goal.loop_patterns-returns-clause-ok
loop_patterns-returns-clause-ok t c =
    let at : Env = env c.args.self.now.scope c.args.functions.now c.args.at in
    if_ok_by c.bind.result _ _ (λ t h.
    lets_walked at c.args.place c.args.whole (binders_of c.args.items.now) (text_in c.args.parts.now) c.args.self.now.scope c.unpack_bindings.new.self.scope (gathered c.args.self.now.gathered) (gathered c.unpack_bindings.new.self.gathered)
    c.in_ok-values.ensures.names c.in_ok-values.ensures.gathered (kernel c.in_ok-body.body) (gathered c.block.new.self.gathered) (terms_of (list c.in_ok-values.values)) c.in_ok-body.ensures.ok c.in_ok-values.ensures.ok
    ∙ rw c.len-size.ensures at h) c.bind.ensures.ok

pub loop_again-returns-in_err-body-clause-err : goal.loop_again-returns-in_err-body-clause-err
loop_again-returns-in_err-body-clause-err t c =
    let at : Env = env c.args.self.now.scope c.args.functions.now c.args.at in
    let many : length (list c.in_ok-values.values) ≡ length (again_terms c.args.bound (binders_of c.args.items.now)) = sym (length-map (list c.in_ok-values.values) kernel) ∙ ap (λ (ks : List Kernel). length ks) c.in_ok-values.ensures.ok in
    let e : Fails c.in_err-body.field-0.0 (again_row c.args.bound c.args.place (total_bounds (form_pairs c.args.items.now)) (text_in c.args.parts.now) at (gathered c.args.self.now.gathered))
    = again_fails at c.args.place c.args.bound (length (list c.in_ok-values.values)) (total_bounds (form_pairs c.args.items.now)) (text_in c.args.parts.now) c.bind_again.new.self.scope
    (gathered c.args.self.now.gathered) (gathered c.bind_again.new.self.gathered) c.in_ok-values.ensures.names c.in_ok-values.ensures.gathered many c.in_err-body.field-0.0
    (rw (c.len-first.ensures, c.in_loop-inside.ensures, c.len.ensures) at c.in_err-body.ensures.err) in
    search rules

pub loop_again-returns-clause-ok : goal.loop_again-returns-clause-ok
loop_again-returns-clause-ok t c =
    let at : Env = env c.args.self.now.scope c.args.functions.now c.args.at in
    let many : length (list c.in_ok-values.values) ≡ length (again_terms c.args.bound (binders_of c.args.items.now)) = sym (length-map (list c.in_ok-values.values) kernel) ∙ ap (λ (ks : List Kernel). length ks) c.in_ok-values.ensures.ok in
    if_ok_by c.repeat.result _ _ (λ t h.
    again_walked at c.args.place c.args.bound (length (list c.in_ok-values.values)) (total_bounds (form_pairs c.args.items.now)) (text_in c.args.parts.now) c.bind_again.new.self.scope
    (gathered c.args.self.now.gathered) (gathered c.bind_again.new.self.gathered) c.in_ok-values.ensures.names c.in_ok-values.ensures.gathered many
    (kernel c.in_ok-body.body) (kernel c.in_ok-body-2.body) (gathered c.loop_patterns.new.self.gathered) (gathered c.seq.new.self) (terms_of (list c.in_ok-values.values))
    (rw (c.len-first.ensures, c.in_loop-inside.ensures, c.len.ensures) at c.in_ok-body.ensures.ok) (rw c.in_ok-single.ensures.ok at c.in_ok-body-2.ensures.ok) c.in_ok-values.ensures.ok
    ∙ rw c.len-first.ensures at h) c.repeat.ensures.ok

pub pattern_loop-loop_again-requires : goal.pattern_loop-loop_again-requires
pattern_loop-loop_again-requires t c =
    let at : Env = env c.args.self.now.scope c.args.functions.now c.args.at in
    let items : binders_of c.items_in-items.result.now ≡ binders (bounds_in c.index-parts-1.result) = ap (λ qs. binders (total_bounds qs)) c.items_in-items.ensures in
    let room : c.len-first.result + widths (binders_of c.items_in-items.result.now) ≤ length c.bound_parts.new.self.scope
    = rw (items, c.len-first.ensures) (all_within c.args.place (bounds_in c.index-parts-1.result) c.args.self.now.scope c.bound_parts.new.self.scope c.in_ok-values.ensures.names) in
    let short : AreCounted (binders_of c.items_in-items.result.now)
    = rw items (counted_done at c.args.place (length c.args.self.now.scope) (bounds_in c.index-parts-1.result) c.args.self.now.scope _ _ _ c.in_ok-values.ensures.ok) in
    (search rules, (c.requires.more, (room, short)))

pub pattern_loop-returns-in_err-values-clause-err : goal.pattern_loop-returns-in_err-values-clause-err
pattern_loop-returns-in_err-values-clause-err t c =
    let at : Env = env c.args.self.now.scope c.args.functions.now c.args.at in
    let e : Fails c.in_err-values.field-0.0 (loop_parts c.args.place (form_parts (drop 1 c.args.parts.now)) at (gathered c.args.self.now.gathered))
    = values_fail c.args.place c.args.parts.now c.index-parts-1.result at (gathered c.args.self.now.gathered) c.requires.more c.index-parts-1.is (c.requires.some c.index-parts-1.result c.index-parts-1.is) c.in_err-values.field-0.0 c.in_err-values.ensures.err in
    search rules

pub pattern_loop-returns-in_err-body-clause-err : goal.pattern_loop-returns-in_err-body-clause-err
pattern_loop-returns-in_err-body-clause-err t c =
    let at : Env = env c.args.self.now.scope c.args.functions.now c.args.at in
    let e : Fails c.in_err-body.field-0.0 (loop_parts c.args.place (form_parts (drop 1 c.args.parts.now)) at (gathered c.args.self.now.gathered))
    = patterns_fail c.args.place c.args.parts.now c.index-parts-1.result at (gathered c.args.self.now.gathered) c.requires.more c.index-parts-1.is (c.requires.some c.index-parts-1.result c.index-parts-1.is)
    (numbered (length c.args.self.now.scope) (terms_of (list c.in_ok-values.values))) (gathered c.bound_parts.new.self.gathered) c.bound_parts.new.self.scope c.in_ok-values.ensures.ok c.in_ok-values.ensures.names c.in_err-body.field-0.0
    (rw (c.len-first.ensures, c.items_in-items.ensures) at c.in_err-body.ensures.err) in
    search rules

pub pattern_loop-returns-clause-ok : goal.pattern_loop-returns-clause-ok
pattern_loop-returns-clause-ok t c =
    let at : Env = env c.args.self.now.scope c.args.functions.now c.args.at in
    if_ok_by c.under.result _ _ (λ t h.
    patterns_walked c.args.place c.args.parts.now c.index-parts-1.result at (gathered c.args.self.now.gathered) c.requires.more c.index-parts-1.is (c.requires.some c.index-parts-1.result c.index-parts-1.is)
    (numbered (length c.args.self.now.scope) (terms_of (list c.in_ok-values.values))) (gathered c.bound_parts.new.self.gathered) c.bound_parts.new.self.scope c.in_ok-values.ensures.ok c.in_ok-values.ensures.names
    (kernel c.in_ok-body.body) (gathered c.loop_again.new.self.gathered) (terms_of (list c.in_ok-values.values)) (rw (c.len-first.ensures, c.items_in-items.ensures) at c.in_ok-body.ensures.ok) refl
    ∙ rw c.len-first.ensures at h) c.under.ensures.ok
