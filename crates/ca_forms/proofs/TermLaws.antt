-- Lists of terms and bindings, one more at their end.
use Rattle.std.proofs.Common.{◌≡◌, ℕ, suc, ◌+◌, List, [], ◌∷◌, ◌++◌, length, max, refl, ap, ◌∙◌, arith, rules, Global, ◌<◌, ◌≤◌, drop, drop-cons, get_or, add-one}
use Rattle.std.proofs.Math.ListN.{drop_of_length-le}
use Rattle.std.specs.List.{insert}
use Rattle.ca_forms.specs.Operands.{with_vars, with_second}
use Rattle.ca_term.specs.declared.term.Binding.{Binding}
use Rattle.ca_term.specs.declared.term.Found.{Found}
use Rattle.ca_term.specs.declared.term.Term.{Term, Let, Loop, the_lemmas}
use Rattle.ca_value.specs.declared.seq.Seq.{Seq}
use Rattle.ca_value.specs.Seq.{list}
use Rattle.std.specs.declared.boxed.Box.{Box}
use Rattle.ca_term.specs.Kernel.{Kernel, Kernels, Bindings, none, item, empty, binding, bind, loop, var}
use Rattle.ca_term.specs.View.{kernel, kernels, bindings, binding_view, founds}
use Rattle.ca_forms.specs.Depth.{kernel_depth, kernels_depth, depth_of_bindings}
use Rattle.ca_forms.specs.Meaning.{bindings_joined, numbered}
use Rattle.ca_forms.specs.WalkView.{terms_of}

pub joined_end : (bs : Bindings) → bindings_joined bs empty ≡ bs
joined_end empty = refl
joined_end (binding n t bs) = ap (binding n t) (joined_end bs)

pub bindings_more : (bs : List Binding) (b : Binding) (cs : Bindings) → bindings_joined (bindings (bs ++ b ∷ [])) cs ≡ bindings_joined (bindings bs) (binding (binding_view b).0 (binding_view b).1 cs)
bindings_more [] b cs = refl
bindings_more (c ∷ bs) b cs = ap (binding (binding_view c).0 (binding_view c).1) (bindings_more bs b cs)

-- terms, and then others
abbrev pub followed : Kernels → Kernels → Kernels
followed none us = us
followed (item t ts) us = item t (followed ts us)

pub followed_end : (ts : Kernels) → followed ts none ≡ ts
followed_end none = refl
followed_end (item t ts) = ap (item t) (followed_end ts)

pub kernels_more : (ts : List Term) (t : Term) (us : Kernels) → followed (kernels (ts ++ t ∷ [])) us ≡ followed (kernels ts) (item (kernel t) us)
kernels_more [] t us = refl
kernels_more (u ∷ ts) t us = ap (item (kernel u)) (kernels_more ts t us)

-- one more of the numbered terms
pub numbered_more : (n : ℕ) (ts : List Term) (t : Term) (cs : Bindings)
    → bindings_joined (numbered n (terms_of (ts ++ t ∷ []))) cs ≡ bindings_joined (numbered n (terms_of ts)) (binding (n + length ts) (kernel t) cs)
numbered_more n [] t cs = ap (λ m. binding m (kernel t) cs) none_more where
  none_more : n ≡ n + 0
  none_more = omega arith
numbered_more n (u ∷ ts) t cs = ap (binding n (kernel u)) (numbered_more (suc n) ts t cs ∙ ap (λ m. bindings_joined (numbered (suc n) (terms_of ts)) (binding m (kernel t) cs)) one_more) where
  one_more : suc n + length ts ≡ n + suc (length ts)
  one_more = omega arith

pub bound_step : (bs : List Binding) (b : Binding) (n : ℕ) (t : Term) (ts : List Term) → binding_view b ≡ (n, kernel t)
    → bindings_joined (bindings (bs ++ b ∷ [])) (numbered (n + 1) (terms_of ts)) ≡ bindings_joined (bindings bs) (numbered n (terms_of (t ∷ ts)))
bound_step bs b n t ts e = bindings_more bs b (numbered (n + 1) (terms_of ts))
    ∙ ap (λ (p : ℕ × Kernel). bindings_joined (bindings bs) (binding p.0 p.1 (numbered (n + 1) (terms_of ts)))) e
    ∙ ap (λ m. bindings_joined (bindings bs) (binding n (kernel t) (numbered m (terms_of ts)))) up where
      up : n + 1 ≡ suc n
      up = omega arith

pub numbered_depth : (n : ℕ) (ts : List Term) → depth_of_bindings (numbered n (terms_of ts)) ≡ kernels_depth (kernels ts)
numbered_depth n [] = refl
numbered_depth n (t ∷ ts) = ap (max (kernel_depth (kernel t))) (numbered_depth (suc n) ts)

pub kernel-Let : (bs : Seq Binding) (body : Box Term Global) → kernel (Let bs body) ≡ bind (bindings (list bs)) (kernel body.value)
kernel-Let bs body = search (rules, the_lemmas)

pub kernel-Loop : (fs : Seq Found) (bs : Seq Binding) (body : Box Term Global) → kernel (Loop fs bs body) ≡ loop (founds (list fs)) (bindings (list bs)) (kernel body.value)
kernel-Loop fs bs body = search (rules, the_lemmas)

pub drop_next : (ns : List ℕ) (i : ℕ) → i < length ns → drop i ns ≡ get_or ns i 0 ∷ drop (i + 1) ns
drop_next ns i h = rw (add-one, drop-cons ns i 0 h) refl

pub drop_all : {A : Type 0} (xs : List A) (i : ℕ) → length xs ≤ i → drop i xs ≡ []
drop_all xs i h = drop_of_length-le xs {i = i} h

pub with_vars_end : (ts : Kernels) → with_vars ts [] ≡ ts
with_vars_end none = refl
with_vars_end (item t ts) = ap (item t) (with_vars_end ts)

pub with_vars_step : (ts : List Term) (t : Term) (n : ℕ) (ns : List ℕ) → kernel t ≡ var n → with_vars (kernels (ts ++ t ∷ [])) ns ≡ with_vars (kernels ts) (n ∷ ns)
with_vars_step [] t n ns e = ap (λ k. item k (with_vars none ns)) e
with_vars_step (u ∷ ts) t n ns e = ap (item (kernel u)) (with_vars_step ts t n ns e)

-- as many terms as a list has
pub second_is : (ts : List Term) (t : Term) → 0 < length ts → kernels (insert ts 1 t) ≡ with_second (kernels ts) (kernel t)
second_is [] t h = absurd (omega arith)
second_is (u ∷ ts) t h = refl
