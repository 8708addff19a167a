-- The kernel term that a `Term` stands for.
use Rattle.std.specs.Prelude.{ℕ, List, [], ◌∷◌, map}
use Rattle.ca_value.specs.Seq.{list}
use Rattle.ca_value.specs.View.{view}
use Rattle.ca_value.specs.Tree.{Tree}
use Rattle.ca_term.specs.Kernel.{Kernel, Kernels, Bindings, Founds, const, var, branch, bind, loop, seq, frame, turn, apply, none, item, empty, binding}
use Rattle.ca_term.specs.declared.term.Found.{Found}
use Rattle.ca_term.specs.declared.term.Term.{Term, fold-Term}
use Rattle.ca_term.specs.declared.term.Binding.{Binding, fold-Binding}
use Rattle.ca_term.specs.declared.term.Term.TheOpen.{Term-F, Binding-F}

abbrev pub kernels_of : List Kernel → Kernels
kernels_of [] = none
kernels_of (t ∷ ts) = item t (kernels_of ts)

abbrev pub bindings_of : List (ℕ × Kernel) → Bindings
bindings_of [] = empty
bindings_of (b ∷ bs) = binding b.0 b.1 (bindings_of bs)

abbrev pub view_of_found : Found → ℕ × Tree
view_of_found f = (f.name, view f.value)

abbrev pub founds : List Found → Founds
founds fs = map view_of_found fs

abbrev pub term_step : Term-F Kernel (ℕ × Kernel) → Kernel
term_step (Term-F.Const v) = const (view v)
term_step (Term-F.Var n) = var n
term_step (Term-F.If c a b) = branch c.value a.value b.value
term_step (Term-F.Let bs body) = bind (bindings_of (list bs)) body.value
term_step (Term-F.Loop fs bs body) = loop (founds (list fs)) (bindings_of (list bs)) body.value
term_step (Term-F.Do ts) = seq (kernels_of (list ts))
term_step (Term-F.Frame body) = frame body.value
term_step (Term-F.Turn ns text now) = turn (list ns) text.value now.value
term_step (Term-F.Apply h ts p) = apply h (kernels_of (list ts)) p

abbrev pub binding_step : Binding-F Kernel (ℕ × Kernel) → ℕ × Kernel
binding_step b = (b.name, b.term)

abbrev pub kernel : Term → Kernel
kernel = fold-Term Kernel (ℕ × Kernel) term_step binding_step

abbrev pub binding_view : Binding → ℕ × Kernel
binding_view = fold-Binding Kernel (ℕ × Kernel) term_step binding_step

-- of lists
abbrev pub kernels : List Term → Kernels
kernels ts = kernels_of (map kernel ts)

abbrev pub bindings : List Binding → Bindings
bindings bs = bindings_of (map binding_view bs)
