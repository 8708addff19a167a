use Rattle.std.proofs.Common.{◌≡◌, ℕ, ◌+◌, ◌<◌, List, [], ◌∷◌, length, drop, get_or, Some, sym, ap, ap₂, ◌∙◌, subst, arith, rules, Option}
use Rattle.std.specs.Prelude.{OnOk}
use Rattle.ca_value.specs.Seq.{list}
use Rattle.ca_term.specs.declared.term.Term.{Term, the_lemmas}
use Rattle.ca_term.specs.Kernel.{apply, bind, loop}
use Rattle.ca_term.specs.declared.head.Head.TheVariants.{Builtin}
use Rattle.ca_value.specs.declared.builtin.Builtin.{Builtin as BuiltinName}
use Rattle.ca_states.specs.Code.{one, pushing, putting, many}
use Rattle.ca_term.specs.View.{bindings, founds, kernel, kernels}
use Rattle.ca_lower.specs.declared.emit.Layout.{Layout}
use Rattle.ca_lower.specs.Layouts.{layout_of}
use Rattle.ca_lower.specs.Implements.{Target, paired_instruction}
use Rattle.ca_lower.specs.Emit.{add, emit, finish}
use Rattle.ca_lower.specs.InOrder.{emit_rest}
use Rattle.ca_lower.specs.Splits.{stacked, stacked_all, TakesSplits}
use Rattle.ca_lower.specs.Views.{builder_view, scope_view, target_view}
use Rattle.ca_lower.proofs.LayoutLaws.{on_ok, one_done, two_done, push_done, put_done, row_done, other_laid}
use Rattle.ca_lower.proofs.BuilderLaws.{bind_laid, loop_laid, count_bindings_length, count-terms, rest_next, drop_one, length_drop}
use Rattle.ca_lower.proofs.SplitLaws.{Passes, kept, passes_next, one_listed, two_listed, push_listed, put_listed, put_second_on, one_taken, two_second_on, two_taken, three_taken, three_third_on}
use Rattle.ca_lower.proofs.emit.+emit.Goals as goal

pub emit_in_order-loop-term-preserved : goal.emit_in_order-loop-term-preserved
emit_in_order-loop-term-preserved t c =
    let w = c.args.width in
    let lp = target_view c.args.target in
    let S = scope_view (list c.args.names.now) in
    let h = c.args.h in
    let ts = c.as_slice-term-items.result.now in
    let i = c.loop-term.term-index in
    let x = c.term-item.result in
    let left = c.loop-term.left in
    let B = builder_view c.loop-term.b in
    let lt : i < length ts = c.loop-term-test.true in
    let d = drop_one ts i x lt c.term-item.is in
    let n = length_drop ts (i + 1) in
    let all = c.loop-term.invariant.left in
    let one : emit_rest w lp S h (kernels (drop (i + 1) ts)) (emit w (target_view c.last_target-own.result) S h (kernel x) B) ≡ emit_rest w lp S h (kernels (drop i ts)) B =
    sym (rest_next w lp (target_view c.last_target-own.result) S h left x (drop (i + 1) ts) B c.last_target-own.ensures (omega (arith, n, all, lt)))
    ∙ ap (λ us. emit_rest w lp S h (kernels us) B) (sym d) in
    let b : builder_view c.emit_term.new.b ≡ emit w (target_view c.last_target-own.result) S h (kernel x) B =
    c.in_ok-emit_term.ensures.code ∙ ap (λ ns. emit w (target_view c.last_target-own.result) (scope_view ns) h (kernel x) B) c.loop-term.invariant.names in
    record {
      code = ap (emit_rest w lp S h (kernels (drop (i + 1) ts))) b ∙ one ∙ c.loop-term.invariant.code;
      names = c.in_ok-emit_term.ensures.names ∙ c.loop-term.invariant.names;
      left = let s = c.saturating_sub-left.ensures in omega (arith, s, all, lt);
      splits = passes_next (stacked (kernel x)) (stacked_all (kernels (drop (i + 1) ts))) (stacked_all (kernels ts)) (list c.args.splits.now) (list c.loop-term.splits) (list c.emit_term.new.splits)
          (subst (λ us. Passes (stacked_all (kernels ts)) (stacked_all (kernels us)) (list c.args.splits.now) (list c.loop-term.splits)) d c.loop-term.invariant.splits) c.in_ok-emit_term.ensures.splits;
    }

pub emit_term-returns-in_ok-emit_term-in-Let-clause-code : goal.emit_term-returns-in_ok-emit_term-in-Let-clause-code
emit_term-returns-in_ok-emit_term-in-Let-clause-code t c =
    let w = c.args.width in
    let lp = target_view c.args.target in
    let S = scope_view (list c.args.names.now) in
    let h = c.args.h in
    let bs = bindings (list c.in-Let.bindings) in
    let body = kernel c.deref-in-Let.result.now in
    let B0 = builder_view c.args.b.now in
    let k : kernel c.args.term.now ≡ bind bs body = search (rules, the_lemmas) in
    let f = c.in_ok-from-in-Let.ensures ∙ ap (λ n. h + n) (c.len.ensures ∙ sym (count_bindings_length (list c.in-Let.bindings))) in
    let e = bind_laid w lp S (scope_view (list c.emit_bindings.new.names)) h c.in_ok-from-in-Let.from bs body B0 (builder_view c.emit_bindings.new.b) (builder_view c.emit_term-in-Let.new.b)
    f c.in_ok-emit_bindings-in-Let.ensures.scope c.in_ok-emit_bindings-in-Let.ensures.code c.in_ok-emit_term-in-Let.ensures.code in
    subst (λ z. OnOk c.put-in-Let.result (builder_view c.put-in-Let.new.self ≡ z)) (e ∙ ap (λ z. emit w lp S h z B0) (sym k)) c.put-in-Let.ensures

pub emit_term-returns-in_ok-emit_term-in-Loop-clause-code : goal.emit_term-returns-in_ok-emit_term-in-Loop-clause-code
emit_term-returns-in_ok-emit_term-in-Loop-clause-code t c =
    let w = c.args.width in
    let lp = target_view c.args.target in
    let S = scope_view (list c.args.names.now) in
    let h = c.args.h in
    let gs = founds (list c.in-Loop.field-0) in
    let bs = bindings (list c.in-Loop.bindings) in
    let body = kernel c.deref-in-Loop.result.now in
    let B0 = builder_view c.args.b.now in
    let k : kernel c.args.term.now ≡ loop gs bs body = search (rules, the_lemmas) in
    let n = count_bindings_length (list c.in-Loop.bindings) in
    let count = c.len-in-Loop-2.ensures ∙ sym n in
    let from = c.in_ok-from-in-Loop.ensures ∙ ap (λ m. h + m) (c.len-in-Loop.ensures ∙ sym n ∙ sym count) in
    let e = loop_laid w lp (target_view (Some c.in_ok-inner-in-Loop.inner)) S (scope_view (list c.emit_bindings-in-Loop.new.names)) h c.len-in-Loop-2.result c.in_ok-from-in-Loop.from gs bs body B0
    (builder_view c.emit_bindings-in-Loop.new.b) (builder_view c.enter_loop.new.self) (builder_view c.emit_term-in-Loop.new.b)
    count from c.in_ok-inner-in-Loop.ensures.target c.in_ok-emit_bindings-in-Loop.ensures.scope c.in_ok-emit_bindings-in-Loop.ensures.code
    c.in_ok-inner-in-Loop.ensures.code c.in_ok-emit_term-in-Loop.ensures.code in
    subst (λ z. OnOk c.put-in-Loop.result (builder_view c.put-in-Loop.new.self ≡ z)) (e ∙ ap (λ z. emit w lp S h z B0) (sym k)) c.put-in-Loop.ensures

-- an operand of the slice is one of the list
seen : (us ts : List Term) (k : ℕ) (x : Term) → us ≡ ts → x ≡ get_or us k x → x ≡ get_or ts k x
seen us ts k x e is = is ∙ ap (λ l. get_or l k x) e

-- the layout, of as many operands as there are
abbrev laid_by : BuiltinName → List Term → ℕ → Layout → Layout → Type 0
laid_by b ts n l k = l ≡ layout_of b n → n ≡ length ts → l ≡ k → layout_of b (length ts) ≡ k

lays_by : (b : BuiltinName) (ts : List Term) (n : ℕ) (l k : Layout) → laid_by b ts n l k
lays_by b ts n l k e en is = ap (layout_of b) (sym en) ∙ sym e ∙ is

pub emit_builtin-returns-in_ok-operand-in-One-clause-code : goal.emit_builtin-returns-in_ok-operand-in-One-clause-code
emit_builtin-returns-in_ok-operand-in-One-clause-code t c =
    let w = c.args.width in
    let S = scope_view (list c.args.names.now) in
    let h = c.args.h in
    let p = c.args.place in
    let b = c.args.builtin in
    let ts = list c.args.operands.now in
    let B = builder_view c.args.b.now in
    let x = c.index-as_slice-0.result in
    on_ok c.put.result (builder_view c.put.new.self ≡ add (one b h c.in_ok-operand-in-One.operand.slot p ∷ []) (builder_view c.emit_operand.new.b))
    ((lp : Option Target) → builder_view c.put.new.self ≡ emit w lp S h (apply (Builtin b) (kernels ts) p) B)
    (λ e. one_done w S h p b ts x c.in_ok-operand-in-One.operand.slot B (builder_view c.emit_operand.new.b) (builder_view c.put.new.self)
    (lays_by b ts c.len.result c.layout_of.result Layout.One c.layout_of.ensures c.len.ensures c.in-One.is) (seen c.as_slice.result.now ts 0 c.index-as_slice-0.result c.as_slice.ensures c.index-as_slice-0.is)
    c.in_ok-operand-in-One.ensures.slot c.in_ok-operand-in-One.ensures.code e) c.put.ensures

pub emit_builtin-returns-in_ok-right-in-Two-clause-code : goal.emit_builtin-returns-in_ok-right-in-Two-clause-code
emit_builtin-returns-in_ok-right-in-Two-clause-code t c =
    let w = c.args.width in
    let S = scope_view (list c.args.names.now) in
    let h = c.args.h in
    let p = c.args.place in
    let b = c.args.builtin in
    let ts = list c.args.operands.now in
    let B = builder_view c.args.b.now in
    let left = c.in_ok-left-in-Two.left in
    let right = c.in_ok-right-in-Two.right in
    on_ok c.put-in-Two.result (builder_view c.put-in-Two.new.self ≡ add (paired_instruction b h left.slot right.integer right.slot p ∷ []) (builder_view c.emit_second.new.b))
    ((lp : Option Target) → builder_view c.put-in-Two.new.self ≡ emit w lp S h (apply (Builtin b) (kernels ts) p) B)
    (λ e. two_done w S h p b ts c.index-as_slice-0-in-Two.result c.index-as_slice-1.result left.next left.slot right.slot right.integer (scope_view (list c.emit_operand-in-Two.new.names)) B
    (builder_view c.emit_operand-in-Two.new.b) (builder_view c.emit_second.new.b) (builder_view c.put-in-Two.new.self)
    (lays_by b ts c.len.result c.layout_of.result Layout.Two c.layout_of.ensures c.len.ensures c.in-Two.is) (seen c.as_slice-in-Two.result.now ts 0 c.index-as_slice-0-in-Two.result c.as_slice-in-Two.ensures c.index-as_slice-0-in-Two.is) (seen c.as_slice-in-Two-2.result.now ts 1 c.index-as_slice-1.result c.as_slice-in-Two-2.ensures c.index-as_slice-1.is)
    (ap scope_view c.in_ok-left-in-Two.ensures.names) c.in_ok-left-in-Two.ensures.next c.in_ok-left-in-Two.ensures.slot c.in_ok-right-in-Two.ensures.slot c.in_ok-right-in-Two.ensures.integer
    c.in_ok-left-in-Two.ensures.code c.in_ok-right-in-Two.ensures.code e)
    (subst (λ i. OnOk c.put-in-Two.result (builder_view c.put-in-Two.new.self ≡ add (i ∷ []) (builder_view c.emit_second.new.b))) c.paired.ensures c.put-in-Two.ensures)

pub emit_push-returns-clause-code : goal.emit_push-returns-clause-code
emit_push-returns-clause-code t c =
    let w = c.args.width in
    let S = scope_view (list c.args.names.now) in
    let h = c.args.h in
    let p = c.args.place in
    let b = c.args.builtin in
    let ts = list c.args.operands.now in
    let B = builder_view c.args.b.now in
    let item = c.in_ok-item.item in
    let next = c.in_ok-next.ensures in
    on_ok c.put.result (builder_view c.put.new.self ≡ add (pushing h h item.slot p ∷ []) (builder_view c.emit_operand.new.b))
    ((lp : Option Target) → builder_view c.put.new.self ≡ emit w lp S h (apply (Builtin b) (kernels ts) p) B)
    (λ e. push_done w S h p b ts c.index-as_slice-0.result c.index-as_slice-1.result c.in_ok-next.next item.slot (scope_view (list c.emit_term.new.names)) B
    (builder_view c.emit_term.new.b) (builder_view c.emit_operand.new.b) (builder_view c.put.new.self)
    c.requires.layout (seen c.as_slice.result.now ts 0 c.index-as_slice-0.result c.as_slice.ensures c.index-as_slice-0.is) (seen c.as_slice-2.result.now ts 1 c.index-as_slice-1.result c.as_slice-2.ensures c.index-as_slice-1.is)
    (ap scope_view c.in_ok-emit_term.ensures.names) (omega (arith, next)) c.in_ok-item.ensures.slot c.in_ok-emit_term.ensures.code c.in_ok-item.ensures.code e) c.put.ensures

pub emit_put-returns-clause-code : goal.emit_put-returns-clause-code
emit_put-returns-clause-code t c =
    let w = c.args.width in
    let S = scope_view (list c.args.names.now) in
    let h = c.args.h in
    let p = c.args.place in
    let b = c.args.builtin in
    let ts = list c.args.operands.now in
    let B = builder_view c.args.b.now in
    let key = c.in_ok-key.key in
    let value = c.in_ok-value.value in
    let next = c.in_ok-next.ensures in
    let names1 = c.in_ok-emit_term.ensures.names in
    on_ok c.put.result (builder_view c.put.new.self ≡ add (putting h h key.slot value.slot p ∷ []) (builder_view c.emit_operand-2.new.b))
    ((lp : Option Target) → builder_view c.put.new.self ≡ emit w lp S h (apply (Builtin b) (kernels ts) p) B)
    (λ e. put_done w S h p b ts c.index-as_slice-0.result c.index-as_slice-1.result c.index-as_slice-2.result c.in_ok-next.next key.next key.slot value.slot
    (scope_view (list c.emit_term.new.names)) (scope_view (list c.emit_operand.new.names)) B
    (builder_view c.emit_term.new.b) (builder_view c.emit_operand.new.b) (builder_view c.emit_operand-2.new.b) (builder_view c.put.new.self)
    c.requires.layout (seen c.as_slice.result.now ts 0 c.index-as_slice-0.result c.as_slice.ensures c.index-as_slice-0.is) (seen c.as_slice-2.result.now ts 1 c.index-as_slice-1.result c.as_slice-2.ensures c.index-as_slice-1.is) (seen c.as_slice-3.result.now ts 2 c.index-as_slice-2.result c.as_slice-3.ensures c.index-as_slice-2.is)
    (ap scope_view names1) (ap scope_view (c.in_ok-key.ensures.names ∙ names1)) (omega (arith, next)) c.in_ok-key.ensures.next c.in_ok-key.ensures.slot c.in_ok-value.ensures.slot
    c.in_ok-emit_term.ensures.code c.in_ok-key.ensures.code c.in_ok-value.ensures.code e) c.put.ensures

pub emit_builtin-returns-in_ok-emit_all-in-Row-clause-code : goal.emit_builtin-returns-in_ok-emit_all-in-Row-clause-code
emit_builtin-returns-in_ok-emit_all-in-Row-clause-code t c =
    let w = c.args.width in
    let S = scope_view (list c.args.names.now) in
    let h = c.args.h in
    let p = c.args.place in
    let b = c.args.builtin in
    let ts = list c.args.operands.now in
    let B = builder_view c.args.b.now in
    on_ok c.put-in-Row.result (builder_view c.put-in-Row.new.self ≡ add (many b h h c.len-in-Row.result p ∷ []) (builder_view c.emit_all.new.b))
    ((lp : Option Target) → builder_view c.put-in-Row.new.self ≡ emit w lp S h (apply (Builtin b) (kernels ts) p) B)
    (λ e. row_done w S h p b ts c.len-in-Row.result B (builder_view c.emit_all.new.b) (builder_view c.put-in-Row.new.self)
    (lays_by b ts c.len.result c.layout_of.result Layout.Row c.layout_of.ensures c.len.ensures c.in-Row.is) (c.len-in-Row.ensures ∙ sym (count-terms ts)) c.in_ok-emit_all-in-Row.ensures.code e) c.put-in-Row.ensures

pub emit_apply-returns-in_ok-emit_all-in_default : goal.emit_apply-returns-in_ok-emit_all-in_default
emit_apply-returns-in_ok-emit_all-in_default t c =
    let w = c.args.width in
    let lp = target_view c.args.target in
    let S = scope_view (list c.args.names.now) in
    let h = c.args.h in
    let ts = list c.args.operands.now in
    let f = c.args.head in
    let p = c.args.place in
    let B = builder_view c.args.b.now in
    let n = c.len.ensures ∙ sym (count-terms ts) in
    let e = ap₂ (λ m b. finish w lp f h m p b) n c.in_ok-emit_all-in_default.ensures.code in
    let other : (b : BuiltinName) → f ≡ Builtin b → ⊥ = c.in_default.not-Builtin in
    record {
      code = subst (λ z. OnOk c.finish.result (builder_view c.finish.new.self ≡ z)) (e ∙ sym (other_laid w lp S h p f (kernels ts) B other)) c.finish.ensures;
      names = search (rules, c.in_ok-emit_all-in_default.ensures.names);
      splits = search (rules, c.in_ok-emit_all-in_default.ensures.splits);
    }

pub emit_builtin-emit_second-requires : goal.emit_builtin-emit_second-requires
emit_builtin-emit_second-requires t c =
    let b = c.args.builtin in
    let ts = list c.args.operands.now in
    let x = c.index-as_slice-0-in-Two.result in
    let y = c.index-as_slice-1.result in (
      search (rules, the_lemmas),
      two_second_on ts x y (list c.args.splits.now) (list c.emit_operand-in-Two.new.splits) (list c.emit_operand-in-Two.new.splits)
          (two_listed b ts x y (lays_by b ts c.len.result c.layout_of.result Layout.Two c.layout_of.ensures c.len.ensures c.in-Two.is) (seen c.as_slice-in-Two.result.now ts 0 x c.as_slice-in-Two.ensures c.index-as_slice-0-in-Two.is) (seen c.as_slice-in-Two-2.result.now ts 1 y c.as_slice-in-Two-2.ensures c.index-as_slice-1.is))
          c.requires c.in_ok-left-in-Two.ensures.splits,
    )

pub emit_push-emit_operand-requires : goal.emit_push-emit_operand-requires
emit_push-emit_operand-requires t c =
    let b = c.args.builtin in
    let ts = list c.args.operands.now in
    let x = c.index-as_slice-0.result in
    let y = c.index-as_slice-1.result in (
      search (rules, the_lemmas),
      two_second_on ts x y (list c.args.splits.now) (list c.emit_term.new.splits) (list c.emit_term.new.splits)
          (push_listed b ts x y c.requires.layout (seen c.as_slice.result.now ts 0 x c.as_slice.ensures c.index-as_slice-0.is) (seen c.as_slice-2.result.now ts 1 y c.as_slice-2.ensures c.index-as_slice-1.is))
          c.requires.on_top c.in_ok-emit_term.ensures.splits,
    )

pub emit_put-emit_operand-requires : goal.emit_put-emit_operand-requires
emit_put-emit_operand-requires t c =
    let b = c.args.builtin in
    let ts = list c.args.operands.now in
    let x = c.index-as_slice-0.result in
    let y = c.index-as_slice-1.result in (
      search (rules, the_lemmas),
      put_second_on b ts x y (list c.args.splits.now) (list c.emit_term.new.splits) c.requires.layout
          (seen c.as_slice.result.now ts 0 x c.as_slice.ensures c.index-as_slice-0.is) (seen c.as_slice-2.result.now ts 1 y c.as_slice-2.ensures c.index-as_slice-1.is)
          c.requires.on_top c.in_ok-emit_term.ensures.splits,
    )

pub emit_put-emit_operand-requires-2 : goal.emit_put-emit_operand-requires-2
emit_put-emit_operand-requires-2 t c =
    let b = c.args.builtin in
    let ts = list c.args.operands.now in
    let x = c.index-as_slice-0.result in
    let y = c.index-as_slice-1.result in
    let z = c.index-as_slice-2.result in (
      search (rules, the_lemmas),
      three_third_on ts x y z (list c.args.splits.now) (list c.emit_term.new.splits) (list c.emit_operand.new.splits) (list c.emit_operand.new.splits)
          (put_listed b ts x y z c.requires.layout (seen c.as_slice.result.now ts 0 x c.as_slice.ensures c.index-as_slice-0.is) (seen c.as_slice-2.result.now ts 1 y c.as_slice-2.ensures c.index-as_slice-1.is) (seen c.as_slice-3.result.now ts 2 z c.as_slice-3.ensures c.index-as_slice-2.is))
          c.requires.on_top c.in_ok-emit_term.ensures.splits c.in_ok-key.ensures.splits,
    )

pub emit_builtin-returns-in_ok-operand-in-One-clause-splits : goal.emit_builtin-returns-in_ok-operand-in-One-clause-splits
emit_builtin-returns-in_ok-operand-in-One-clause-splits t c =
    let b = c.args.builtin in
    let ts = list c.args.operands.now in
    let x = c.index-as_slice-0.result in
    kept c.put.result (TakesSplits (stacked_all (kernels ts)) (list c.args.splits.now) (list c.emit_operand.new.splits))
    (one_taken ts x (list c.args.splits.now) (list c.emit_operand.new.splits)
    (one_listed b ts x (lays_by b ts c.len.result c.layout_of.result Layout.One c.layout_of.ensures c.len.ensures c.in-One.is) (seen c.as_slice.result.now ts 0 x c.as_slice.ensures c.index-as_slice-0.is))
    c.in_ok-operand-in-One.ensures.splits)

pub emit_builtin-returns-in_ok-right-in-Two-clause-splits : goal.emit_builtin-returns-in_ok-right-in-Two-clause-splits
emit_builtin-returns-in_ok-right-in-Two-clause-splits t c =
    let b = c.args.builtin in
    let ts = list c.args.operands.now in
    let x = c.index-as_slice-0-in-Two.result in
    let y = c.index-as_slice-1.result in
    kept c.put-in-Two.result (TakesSplits (stacked_all (kernels ts)) (list c.args.splits.now) (list c.emit_second.new.splits))
    (two_taken ts x y (list c.args.splits.now) (list c.emit_operand-in-Two.new.splits) (list c.emit_second.new.splits)
    (two_listed b ts x y (lays_by b ts c.len.result c.layout_of.result Layout.Two c.layout_of.ensures c.len.ensures c.in-Two.is) (seen c.as_slice-in-Two.result.now ts 0 x c.as_slice-in-Two.ensures c.index-as_slice-0-in-Two.is) (seen c.as_slice-in-Two-2.result.now ts 1 y c.as_slice-in-Two-2.ensures c.index-as_slice-1.is))
    c.in_ok-left-in-Two.ensures.splits c.in_ok-right-in-Two.ensures.splits)

pub emit_push-returns-clause-splits : goal.emit_push-returns-clause-splits
emit_push-returns-clause-splits t c =
    let b = c.args.builtin in
    let ts = list c.args.operands.now in
    let x = c.index-as_slice-0.result in
    let y = c.index-as_slice-1.result in
    kept c.put.result (TakesSplits (stacked_all (kernels ts)) (list c.args.splits.now) (list c.emit_operand.new.splits))
    (two_taken ts x y (list c.args.splits.now) (list c.emit_term.new.splits) (list c.emit_operand.new.splits)
    (push_listed b ts x y c.requires.layout (seen c.as_slice.result.now ts 0 x c.as_slice.ensures c.index-as_slice-0.is) (seen c.as_slice-2.result.now ts 1 y c.as_slice-2.ensures c.index-as_slice-1.is))
    c.in_ok-emit_term.ensures.splits c.in_ok-item.ensures.splits)

pub emit_put-returns-clause-splits : goal.emit_put-returns-clause-splits
emit_put-returns-clause-splits t c =
    let b = c.args.builtin in
    let ts = list c.args.operands.now in
    let x = c.index-as_slice-0.result in
    let y = c.index-as_slice-1.result in
    let z = c.index-as_slice-2.result in
    kept c.put.result (TakesSplits (stacked_all (kernels ts)) (list c.args.splits.now) (list c.emit_operand-2.new.splits))
    (three_taken ts x y z (list c.args.splits.now) (list c.emit_term.new.splits) (list c.emit_operand.new.splits) (list c.emit_operand-2.new.splits)
    (put_listed b ts x y z c.requires.layout (seen c.as_slice.result.now ts 0 x c.as_slice.ensures c.index-as_slice-0.is) (seen c.as_slice-2.result.now ts 1 y c.as_slice-2.ensures c.index-as_slice-1.is) (seen c.as_slice-3.result.now ts 2 z c.as_slice-3.ensures c.index-as_slice-2.is))
    c.in_ok-emit_term.ensures.splits c.in_ok-key.ensures.splits c.in_ok-value.ensures.splits)
