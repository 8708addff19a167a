-- A value put in for a name keeps what holds of a term.
use Rattle.std.proofs.Common.{◌≡◌, ℕ, suc, ◌+◌, [], ◌∷◌, length, refl, sym, ap, subst, Bool, true, false, cond, Option, Some, None}
use Rattle.ca_value.specs.Tree.{Tree}
use Rattle.ca_term.specs.declared.head.Head.{Head}
use Rattle.ca_term.specs.Kernel.{Kernel, Kernels, Bindings, Founds, const, var, branch, bind, loop, seq, frame, turn, apply, none, item, empty, binding, put, put_items, put_bindings, puts}
use Rattle.ca_term.specs.Fits.{count_terms, count_bindings, Fits, FitTerms, FitInOrder, FitBindings}

count_terms-put : (n : ℕ) (v : Tree) (ts : Kernels) → count_terms (put_items n v ts) ≡ count_terms ts
count_terms-put n v none = refl
count_terms-put n v (item t ts) = ap suc (count_terms-put n v ts)

pub count_bindings-put : (n : ℕ) (v : Tree) (bs : Bindings) → count_bindings (put_bindings n v bs) ≡ count_bindings bs
count_bindings-put n v empty = refl
count_bindings-put n v (binding m t bs) = ap suc (count_bindings-put n v bs)

-- S judges the heads
module _ (S : Option ℕ → Head → ℕ → Type 0) where
  put-var : (target : Option ℕ) (v : Tree) (m : ℕ) (b : Bool) → Fits S target (cond b (const v) (var m))
  put-var target v m true = tt
  put-var target v m false = tt

  mutual
    pub put-fits : (n : ℕ) (v : Tree) (target : Option ℕ) (t : Kernel) → Fits S target t → Fits S target (put n v t)
    put-fits n v target (const w) h = tt
    put-fits n v target (var m) h = put-var target v m _
    put-fits n v target (branch c a b) h = (put-fits n v None c h.0, put-fits n v target a h.1, put-fits n v target b h.2)
    put-fits n v target (bind bs body) h = (put-bindings n v bs h.0, put-fits n v target body h.1)
    put-fits n v target (loop fs bs body) h = (put-bindings n v bs h.0, subst (λ k. Fits S (Some (length fs + k)) (put n v body)) (sym (count_bindings-put n v bs)) (put-fits n v (Some (length fs + count_bindings bs)) body h.1))
    put-fits n v target (seq ts) h = put-in-order n v target ts h
    put-fits n v target (frame body) h = h
    put-fits n v target (turn ns text now) h = h
    put-fits n v target (apply f ts p) h = (subst (S target f) (sym (count_terms-put n v ts)) h.0, put-terms n v ts h.1)

    put-terms : (n : ℕ) (v : Tree) (ts : Kernels) → FitTerms S ts → FitTerms S (put_items n v ts)
    put-terms n v none h = tt
    put-terms n v (item t ts) h = (put-fits n v None t h.0, put-terms n v ts h.1)

    put-in-order : (n : ℕ) (v : Tree) (target : Option ℕ) (ts : Kernels) → FitInOrder S target ts → FitInOrder S target (put_items n v ts)
    put-in-order n v target none h = tt
    put-in-order n v target (item t none) h = put-fits n v target t h
    put-in-order n v target (item t (item u us)) h = (put-fits n v None t h.0, put-in-order n v target (item u us) h.1)

    pub put-bindings : (n : ℕ) (v : Tree) (bs : Bindings) → FitBindings S bs → FitBindings S (put_bindings n v bs)
    put-bindings n v empty h = tt
    put-bindings n v (binding m t bs) h = (put-fits n v None t h.0, put-bindings n v bs h.1)

  pub puts-fits : (fs : Founds) (target : Option ℕ) (t : Kernel) → Fits S target t → Fits S target (puts fs t)
  puts-fits [] target t h = h
  puts-fits (f ∷ fs) target t h = puts-fits fs target (put f.0 f.1 t) (put-fits f.0 f.1 target t h)

-- what is judged more gently still fits
module _ (S T : Option ℕ → Head → ℕ → Type 0) (gentler : (target : Option ℕ) (h : Head) (k : ℕ) → S target h k → T target h k) where
  mutual
    pub fits-gentler : (target : Option ℕ) (t : Kernel) → Fits S target t → Fits T target t
    fits-gentler target (const w) h = tt
    fits-gentler target (var m) h = tt
    fits-gentler target (branch c a b) h = (fits-gentler None c h.0, fits-gentler target a h.1, fits-gentler target b h.2)
    fits-gentler target (bind bs body) h = (gentler-bindings bs h.0, fits-gentler target body h.1)
    fits-gentler target (loop fs bs body) h = (gentler-bindings bs h.0, fits-gentler (Some (length fs + count_bindings bs)) body h.1)
    fits-gentler target (seq ts) h = gentler-in-order target ts h
    fits-gentler target (frame body) h = fits-gentler None body h
    fits-gentler target (turn ns text now) h = (fits-gentler (Some (length ns)) text h.0, fits-gentler (Some (length ns)) now h.1)
    fits-gentler target (apply f ts p) h = (gentler target f (count_terms ts) h.0, gentler-terms ts h.1)

    gentler-terms : (ts : Kernels) → FitTerms S ts → FitTerms T ts
    gentler-terms none h = tt
    gentler-terms (item t ts) h = (fits-gentler None t h.0, gentler-terms ts h.1)

    gentler-in-order : (target : Option ℕ) (ts : Kernels) → FitInOrder S target ts → FitInOrder T target ts
    gentler-in-order target none h = tt
    gentler-in-order target (item t none) h = fits-gentler target t h
    gentler-in-order target (item t (item u us)) h = (fits-gentler None t h.0, gentler-in-order target (item u us) h.1)

    gentler-bindings : (bs : Bindings) → FitBindings S bs → FitBindings T bs
    gentler-bindings empty h = tt
    gentler-bindings (binding m t bs) h = (fits-gentler None t h.0, gentler-bindings bs h.1)
