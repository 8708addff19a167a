-- A value put in for a name, over lists of terms and bindings.
use Rattle.std.proofs.Common.{◌≡◌, ℕ, List, [], ◌∷◌, map, refl, ap}
use Rattle.ca_value.specs.Tree.{Tree}
use Rattle.ca_term.specs.declared.term.Term.{Term}
use Rattle.ca_term.specs.declared.term.Binding.{Binding}
use Rattle.ca_term.specs.Kernel.{Kernel, item, binding, put, put_items, put_bindings}
use Rattle.ca_term.specs.View.{kernel, binding_view, kernels, bindings, kernels_of, bindings_of}

pub put_items-kernels : (n : ℕ) (v : Tree) (ts : List Term) → put_items n v (kernels ts) ≡ kernels_of (map (λ t. put n v (kernel t)) ts)
put_items-kernels n v [] = refl
put_items-kernels n v (t ∷ ts) = ap (item (put n v (kernel t))) (put_items-kernels n v ts)

abbrev pub put_named : ℕ → Tree → ℕ × Kernel → ℕ × Kernel
put_named n v b = (b.0, put n v b.1)

pub put_bindings-bindings : (n : ℕ) (v : Tree) (bs : List Binding) → put_bindings n v (bindings bs) ≡ bindings_of (map (λ b. put_named n v (binding_view b)) bs)
put_bindings-bindings n v [] = refl
put_bindings-bindings n v (b ∷ bs) = ap (binding (binding_view b).0 (put n v (binding_view b).1)) (put_bindings-bindings n v bs)
