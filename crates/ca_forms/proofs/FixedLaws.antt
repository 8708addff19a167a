-- Small terms are never too deep.
use Rattle.std.proofs.Common.{◌≡◌, ℕ, suc, ◌+◌, ◌<◌, ◌≤◌, List, [], ◌∷◌, ◌++◌, length, map, refl, ap, ap₂, ◌∙◌, arith, Option, None, Some}
use Rattle.std.proofs.lemmas.Bool.{le-leb}
use Rattle.ca_value.specs.declared.seq.Seq.{Seq}
use Rattle.ca_forms.specs.GivenView.{keyword_terms}
use Rattle.ca_term.specs.declared.term.Term.{Term}
use Rattle.ca_term.specs.Kernel.{Kernel, none, item, var, bind, loop, binding}
use Rattle.ca_term.specs.View.{kernel, kernels, kernels_of}
use Rattle.ca_forms.specs.Depth.{kernel_depth, kernels_depth}
use Rattle.ca_forms.specs.Operands.{with_vars}
use Rattle.ca_forms.specs.Outcome.{Gathered, done, limited}
use Rattle.ca_forms.specs.Meaning.{bindings_joined, numbered}
use Rattle.ca_forms.specs.WalkView.{terms_of}
use Rattle.ca_forms.proofs.TermLaws.{numbered_depth}

pub limited_small : (t u : Kernel) (s s2 : Gathered) → limited t s ≡ done u s2 → kernel_depth t ≤ 400 → u ≡ t
limited_small t u s s2 h small = by (rw (le-leb (kernel_depth t) 400 small) at h) where
  by : done t s ≡ done u s2 → u ≡ t
  by e = cc

pub with_vars_none : (ns : List ℕ) → with_vars none ns ≡ kernels_of (map var ns)
with_vars_none [] = refl
with_vars_none (n ∷ ns) = ap (item (var n)) (with_vars_none ns)

pub vars_depth : (ns : List ℕ) → kernels_depth (kernels_of (map var ns)) ≤ 1
vars_depth [] = omega arith
vars_depth (n ∷ ns) = omega (arith, vars_depth ns)

pub bound_small : (n : ℕ) (ts : List Term) (b u : Kernel) (s s2 : Gathered)
    → limited (bind (numbered n (terms_of ts)) b) s ≡ done u s2 → kernels_depth (kernels ts) < 400 → kernel_depth b < 400 → u ≡ bind (numbered n (terms_of ts)) b
bound_small n ts b u s s2 h i j = limited_small _ u s s2 h (rw (numbered_depth n ts) (omega (arith, i, j)))

pub repeated_small : (n : ℕ) (ts : List Term) (b u : Kernel) (s s2 : Gathered)
    → limited (loop [] (numbered n (terms_of ts)) b) s ≡ done u s2 → kernels_depth (kernels ts) < 400 → kernel_depth b < 400 → u ≡ loop [] (numbered n (terms_of ts)) b
repeated_small n ts b u s s2 h i j = limited_small _ u s s2 h (rw (numbered_depth n ts) (omega (arith, i, j)))

-- the same operands are the same terms
pub kernels_same : (ts : List Term) (ks : List Kernel) → kernels ts ≡ kernels_of ks → terms_of ts ≡ ks
kernels_same [] [] e = refl
kernels_same [] (k ∷ ks) e = cc
kernels_same (t ∷ ts) [] e = cc
kernels_same (t ∷ ts) (k ∷ ks) e =
    let here : kernel t ≡ k = cc in
    let more : kernels ts ≡ kernels_of ks = cc in
    ap₂ (λ x xs. x ∷ xs) here (kernels_same ts ks more)

pub vars_and_keyword : (ns : List ℕ) (k : Option (Seq ℕ)) → kernels_depth (kernels_of (map var ns ++ keyword_terms k)) ≤ 1
vars_and_keyword [] None = omega arith
vars_and_keyword [] (Some k) = omega arith
vars_and_keyword (n ∷ ns) k = omega (arith, vars_and_keyword ns k)

-- terms behind others go on with the numbers
pub numbered_joined : (n : ℕ) (ts us : List Term) → numbered n (terms_of (ts ++ us)) ≡ bindings_joined (numbered n (terms_of ts)) (numbered (n + length ts) (terms_of us))
numbered_joined n [] us = ap (λ m. numbered m (terms_of us)) same where
  same : n ≡ n + 0
  same = omega arith
numbered_joined n (t ∷ ts) us = ap (binding n (kernel t)) (numbered_joined (suc n) ts us ∙ ap (λ m. bindings_joined (numbered (suc n) (terms_of ts)) (numbered m (terms_of us))) same) where
  same : suc n + length ts ≡ n + suc (length ts)
  same = omega arith
