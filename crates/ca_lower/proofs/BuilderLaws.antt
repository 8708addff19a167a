-- Instructions that are put one after another, and terms one after another.
use Rattle.std.proofs.Common.{◌≡◌, ℕ, zero, suc, ◌+◌, ◌-◌, ◌<◌, List, [], ◌∷◌, ◌++◌, length, drop, get_or, Option, Some, None, true, false, cond, refl, sym, ap, ap₂, ◌∙◌, arith, append_assoc, eq-eqb, ne_eqb}
use Rattle.std.specs.Prelude.{◌==◌}
use Rattle.ca_term.specs.declared.term.Term.{Term}
use Rattle.ca_term.specs.declared.term.Binding.{Binding}
use Rattle.ca_term.specs.Kernel.{Kernel, Bindings, Founds, bind, loop}
use Rattle.ca_term.specs.View.{kernel, kernels, bindings}
use Rattle.ca_term.specs.Fits.{count_terms, count_bindings}
use Rattle.ca_states.specs.declared.code.Exit.TheVariants.{Jump}
use Rattle.ca_states.specs.Code.{Instruction, moving}
use Rattle.ca_lower.specs.Implements.{Scope, Target, in_slots, moves, names_bound}
use Rattle.ca_lower.specs.Emit.{Builder, building, add, at_work, close, without_place, emit, emit_bindings, emit_in_order}
use Rattle.ca_lower.specs.InOrder.{emit_rest}

pub add_add : (a b : List Instruction) (B : Builder) → add b (add a B) ≡ add (a ++ b) B
add_add a b (building done below is) = ap (building done below) (append_assoc is a b)

pub moves_next : (to from i n : ℕ) (B : Builder) → i < n
    → add (moves (to + (i + 1)) (from + (i + 1)) (n - (i + 1))) (add (moving (to + i) (from + i) ∷ []) B) ≡ add (moves (to + i) (from + i) (n - i)) B
moves_next to from i n B lt =
    let e : n - i ≡ suc (n - (i + 1)) = omega (arith, lt) in
    let f : to + (i + 1) ≡ suc (to + i) = omega arith in
    let g : from + (i + 1) ≡ suc (from + i) = omega arith in
    add_add (moving (to + i) (from + i) ∷ []) (moves (to + (i + 1)) (from + (i + 1)) (n - (i + 1))) B
    ∙ ap₂ (λ a b. add (moving (to + i) (from + i) ∷ moves a b (n - (i + 1))) B) f g
    ∙ ap (λ m. add (moves (to + i) (from + i) m) B) (sym e)

pub count_bindings_length : (bs : List Binding) → count_bindings (bindings bs) ≡ length bs
count_bindings_length [] = refl
count_bindings_length (b ∷ bs) = ap suc (count_bindings_length bs)

pub count-terms : (ts : List Term) → count_terms (kernels ts) ≡ length ts
count-terms [] = refl
count-terms (t ∷ ts) = ap suc (count-terms ts)

-- bindings and then a body
pub bind_laid : (w : ℕ) (lp : Option Target) (S S1 : Scope) (h from : ℕ) (bs : Bindings) (body : Kernel) (B0 B1 B2 : Builder)
    → from ≡ h + count_bindings bs → S1 ≡ S ++ in_slots (names_bound bs) h → B1 ≡ emit_bindings w S h bs B0 → B2 ≡ emit w lp S1 from body B1
    → add (moving h from ∷ []) B2 ≡ emit w lp S h (bind bs body) B0
bind_laid w lp S S1 h from bs body B0 B1 B2 ef es e1 e2 =
    ap (add (moving h from ∷ [])) (e2 ∙ ap₂ (λ s b. emit w lp s from body b) es e1)
    ∙ ap (λ f. add (moving h f ∷ []) (emit w lp (S ++ in_slots (names_bound bs) h) f body (emit_bindings w S h bs B0))) ef

-- bindings and then a loop's text
pub loop_laid : (w : ℕ) (lp inner : Option Target) (S S1 : Scope) (h count from : ℕ) (gs : Founds) (bs : Bindings) (body : Kernel) (B0 B1 B2 B3 : Builder)
    → count ≡ count_bindings bs → from ≡ h + count → inner ≡ Some (record { first = h; count = count; head = at_work B1 + 1 }) → S1 ≡ S ++ in_slots (names_bound bs) h → B1 ≡ emit_bindings w S h bs B0
    → B2 ≡ close w (Jump (at_work B1 + 1) without_place) (h + count) B1 → B3 ≡ emit w inner S1 from body B2
    → add (moving h from ∷ []) B3 ≡ emit w lp S h (loop gs bs body) B0
loop_laid w lp inner S S1 h count from gs bs body B0 B1 B2 B3 ec ef ei es e1 e2 e3 =
    let c = count_bindings bs in
    let S2 = S ++ in_slots (names_bound bs) h in
    let E = emit_bindings w S h bs B0 in
    let f : from ≡ h + c = ef ∙ ap (λ k. h + k) ec in
    let i : inner ≡ Some (record { first = h; count = c; head = at_work E + 1 }) = ei ∙ ap₂ (λ k b. Some (record { first = h; count = k; head = at_work b + 1 })) ec e1 in
    let g : B2 ≡ close w (Jump (at_work E + 1) without_place) (h + c) E = e2 ∙ ap₂ (λ k b. close w (Jump (at_work b + 1) without_place) (h + k) b) ec e1 in
    ap (add (moving h from ∷ [])) (e3 ∙ ap₂ (λ o b. emit w o S1 from body b) i g)
    ∙ ap₂ (λ s k. add (moving h k ∷ []) (emit w (Some (record { first = h; count = c; head = at_work E + 1 })) s k body (close w (Jump (at_work E + 1) without_place) (h + c) E))) es f

-- one more of the terms in order
pub rest_next : (w : ℕ) (lp own : Option Target) (S : Scope) (h left : ℕ) (t : Term) (ts : List Term) (B : Builder) → own ≡ cond (left == 1) lp None → left ≡ suc (length ts)
    → emit_rest w lp S h (kernels (t ∷ ts)) B ≡ emit_rest w lp S h (kernels ts) (emit w own S h (kernel t) B)
rest_next w lp own S h left t [] B eo el =
    let e : (left == 1) ≡ true = eq-eqb left 1 el in
    ap (λ o. emit w o S h (kernel t) B) (sym (eo ∙ ap (λ b. cond b lp None) e))
rest_next w lp own S h left t (u ∷ ts) B eo el =
    let e : (left == 1) ≡ false = ne_eqb left 1 (λ f. omega (arith, el, f)) in
    ap (λ o. emit_in_order w lp S h (kernels (u ∷ ts)) (emit w o S h (kernel t) B)) (sym (eo ∙ ap (λ b. cond b lp None) e))

pub drop_one : (ts : List Term) (i : ℕ) (t : Term) → i < length ts → t ≡ get_or ts i t → drop i ts ≡ t ∷ drop (i + 1) ts
drop_one [] i t lt e = absurd (omega (arith, lt))
drop_one (u ∷ ts) zero t lt e = ap (λ x. x ∷ ts) (sym e)
drop_one (u ∷ ts) (suc i) t lt e =
    let f : suc i + 1 ≡ suc (i + 1) = omega arith in
    drop_one ts i t (omega (arith, lt)) e ∙ ap (λ n. t ∷ drop n (u ∷ ts)) (sym f)

pub length_drop : (ts : List Term) (i : ℕ) → length (drop i ts) ≡ length ts - i
length_drop [] zero = refl
length_drop [] (suc i) = omega arith
length_drop (t ∷ ts) zero = omega arith
length_drop (t ∷ ts) (suc i) = let e = length_drop ts i in omega (arith, e)
