-- The first of some terms that isn't a value.
use Rattle.std.proofs.Common.{◌≡◌, ℕ, List, [], ◌∷◌, refl, sym, ap, ◌∙◌, Bool, true, false, cond, arith, get_or, length, ◌<◌, ◌&&◌, suc, zero}
use Rattle.std.specs.Prelude.{slice_set}
use Rattle.ca_value.specs.Seq.{list}
use Rattle.ca_value.specs.declared.seq.Seq.{Seq}
use Rattle.ca_term.specs.declared.term.Term.{Term}
use Rattle.ca_term.specs.Kernel.{Kernel, item}
use Rattle.ca_term.specs.View.{kernel, kernels}
use Rattle.ca_meaning.specs.Redex.{is_value, all_values, replace, replace_items}
use Rattle.ca_meaning.specs.Parts.{first_open}

first_open-lt : (ts : List Term) → all_values (kernels ts) ≡ false → first_open (kernels ts) < length ts
first_open-lt [] h = cc
first_open-lt (t ∷ ts) h = by (is_value (kernel t)) h (first_open-lt ts)
  where
    by : (v : Bool) → (v && all_values (kernels ts)) ≡ false → (all_values (kernels ts) ≡ false → first_open (kernels ts) < length ts) → cond v (suc (first_open (kernels ts))) 0 < suc (length ts)
    by true h rest = let lt = rest h in omega arith
    by false h rest = omega arith

pub first_open_lt : (s : Seq Term) → all_values (kernels (list s)) ≡ false → first_open (kernels (list s)) < length (list s)
first_open_lt s h = first_open-lt (list s) h

replace_items-set : (u : Kernel) (ts : List Term) (x : Term) (d : Term) → all_values (kernels ts) ≡ false → kernel x ≡ replace u (kernel (get_or ts (first_open (kernels ts)) d)) → replace_items u (kernels ts) ≡ kernels (slice_set ts (first_open (kernels ts)) x)
replace_items-set u [] x d h e = cc
replace_items-set u (t ∷ ts) x d h e = by (is_value (kernel t)) h e (replace_items-set u ts x d)
  where
    by : (v : Bool) → (v && all_values (kernels ts)) ≡ false → kernel x ≡ replace u (kernel (get_or (t ∷ ts) (cond v (suc (first_open (kernels ts))) 0) d)) → (all_values (kernels ts) ≡ false → kernel x ≡ replace u (kernel (get_or ts (first_open (kernels ts)) d)) → replace_items u (kernels ts) ≡ kernels (slice_set ts (first_open (kernels ts)) x)) → cond v (item (kernel t) (replace_items u (kernels ts))) (item (replace u (kernel t)) (kernels ts)) ≡ kernels (slice_set (t ∷ ts) (cond v (suc (first_open (kernels ts))) 0) x)
    by true h e rest = ap (item (kernel t)) (rest h e)
    by false h e rest = ap (λ k. item k (kernels ts)) (sym e)

set_twice : (l : List Term) (i : ℕ) (a b : Term) → slice_set (slice_set l i a) i b ≡ slice_set l i b
set_twice [] i a b = refl
set_twice (x ∷ l) zero a b = refl
set_twice (x ∷ l) (suc i) a b = ap (λ r. x ∷ r) (set_twice l i a b)

-- the first open term was taken out, and put back with its redex replaced
pub replaced_at_open : (ts : List Term) (i : ℕ) (u : Kernel) (old hole x : Term) → i ≡ first_open (kernels ts) → all_values (kernels ts) ≡ false → old ≡ get_or ts i old → kernel x ≡ replace u (kernel old) → kernels (slice_set (slice_set ts i hole) i x) ≡ replace_items u (kernels ts)
replaced_at_open ts i u old hole x at shut is changed =
    let was : kernel x ≡ replace u (kernel (get_or ts (first_open (kernels ts)) old)) = changed ∙ ap (λ o. replace u (kernel o)) (is ∙ ap (λ n. get_or ts n old) at) in
    ap kernels (set_twice ts i hole x ∙ ap (λ n. slice_set ts n x) at) ∙ sym (replace_items-set u ts x old shut was)
