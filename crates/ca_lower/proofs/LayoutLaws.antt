-- What is laid out for a builtin, by how its operands come to it.
use Rattle.std.proofs.Common.{◌≡◌, ℕ, suc, List, [], ◌∷◌, length, get_or, Option, Some, None, ℤ, Result, Ok, Err, refl, sym, ap, ap₂, ◌∙◌}
use Rattle.std.specs.Prelude.{OnOk}
use Rattle.ca_value.specs.declared.builtin.Builtin.{Builtin as BuiltinName}
use Rattle.ca_value.specs.declared.builtin.Builtin.TheVariants.{Conj, Assoc}
use Rattle.ca_term.specs.declared.place.Place.{Place}
use Rattle.ca_term.specs.declared.term.Term.{Term}
use Rattle.ca_term.specs.declared.head.Head.{Head}
use Rattle.ca_term.specs.declared.head.Head.TheVariants.{Builtin}
use Rattle.ca_term.specs.Kernel.{Kernel, Kernels, var, apply}
use Rattle.ca_term.specs.View.{kernel, kernels}
use Rattle.ca_term.specs.Fits.{count_terms}
use Rattle.ca_states.specs.Code.{one, pushing, putting, many}
use Rattle.ca_lower.specs.declared.emit.Layout.{Layout}
use Rattle.ca_lower.specs.Layouts.{layout_of}
use Rattle.ca_lower.specs.Implements.{Scope, Target, operand_slot, next_slot, written_integer, paired_instruction}
use Rattle.ca_lower.specs.Emit.{Builder, add, operand, second, emit, emit_all, finish}

pub on_ok : {A E : Type 0} (r : Result A E) (P Q : Type 0) → (P → Q) → OnOk r P → OnOk r Q
on_ok (Ok x) P Q f p = f p
on_ok (Err x) P Q f p = tt

-- an integer of the text has the next slot, and no code
pub integer_slot : (S : Scope) (h : ℕ) (k : Kernel) (z : ℤ) → Some z ≡ written_integer k → h ≡ operand_slot S h k
integer_slot S h (var x) z e = absurd (let g : Some z ≡ None = e in cc)
integer_slot S h k z e = refl

module _ (w : ℕ) (S : Scope) (h : ℕ) (p : Place) where
  abbrev one_of : BuiltinName → Kernel → Builder → Builder
  one_of b t B = add (one b h (operand_slot S h t) p ∷ []) (operand t (emit w None S h t B) B)

  one_laid : (b : BuiltinName) (ts : List Term) (lp : Option Target) (B : Builder) (t : Term) → layout_of b (length ts) ≡ Layout.One → t ≡ get_or ts 0 t
      → emit w lp S h (apply (Builtin b) (kernels ts) p) B ≡ one_of b (kernel t) B
  one_laid Conj (t ∷ []) lp B x e et = ap (λ z. one_of Conj (kernel z) B) (sym et)
  one_laid b (t ∷ []) lp B x e et = ap (λ z. one_of b (kernel z) B) (sym et)
  one_laid b [] lp B x e et = absurd cc
  one_laid Conj (t ∷ u ∷ []) lp B x e et = absurd cc
  one_laid b (t ∷ u ∷ []) lp B x e et = absurd cc
  one_laid Assoc (t ∷ u ∷ v ∷ []) lp B x e et = absurd cc
  one_laid b (t ∷ u ∷ v ∷ []) lp B x e et = absurd cc
  one_laid b (t ∷ u ∷ v ∷ z ∷ ts) lp B x e et = absurd cc

  pub one_done : (b : BuiltinName) (ts : List Term) (t : Term) (slot : ℕ) (B B1 B2 : Builder) → layout_of b (length ts) ≡ Layout.One → t ≡ get_or ts 0 t
      → slot ≡ operand_slot S h (kernel t) → B1 ≡ operand (kernel t) (emit w None S h (kernel t) B) B → B2 ≡ add (one b h slot p ∷ []) B1
      → (lp : Option Target) → B2 ≡ emit w lp S h (apply (Builtin b) (kernels ts) p) B
  one_done b ts t slot B B1 B2 e et es e1 e2 lp = e2 ∙ ap₂ (λ a z. add (one b h a p ∷ []) z) es e1 ∙ sym (one_laid b ts lp B t e et)

  abbrev two_of : BuiltinName → Kernel → Kernel → Builder → Builder
  two_of b t u B =
      let m = next_slot h t in
      let B1 = operand t (emit w None S h t B) B in
      add (paired_instruction b h (operand_slot S h t) (written_integer u) (operand_slot S m u) p ∷ []) (second (written_integer u) (operand u (emit w None S m u B1) B1) B1)

  two_laid : (b : BuiltinName) (ts : List Term) (lp : Option Target) (B : Builder) (t u : Term) → layout_of b (length ts) ≡ Layout.Two → t ≡ get_or ts 0 t → u ≡ get_or ts 1 u
      → emit w lp S h (apply (Builtin b) (kernels ts) p) B ≡ two_of b (kernel t) (kernel u) B
  two_laid b (t ∷ []) lp B x y e et eu = absurd cc
  two_laid b [] lp B x y e et eu = absurd cc
  two_laid Conj (t ∷ u ∷ []) lp B x y e et eu = absurd cc
  two_laid b (t ∷ u ∷ []) lp B x y e et eu = ap₂ (λ z a. two_of b (kernel z) (kernel a) B) (sym et) (sym eu)
  two_laid Assoc (t ∷ u ∷ v ∷ []) lp B x y e et eu = absurd cc
  two_laid b (t ∷ u ∷ v ∷ []) lp B x y e et eu = absurd cc
  two_laid b (t ∷ u ∷ v ∷ z ∷ ts) lp B x y e et eu = absurd cc

  pub two_done : (b : BuiltinName) (ts : List Term) (t u : Term) (m slot slot2 : ℕ) (o : Option ℤ) (S1 : Scope) (B B1 B2 B3 : Builder) → layout_of b (length ts) ≡ Layout.Two → t ≡ get_or ts 0 t → u ≡ get_or ts 1 u
      → S1 ≡ S → m ≡ next_slot h (kernel t) → slot ≡ operand_slot S h (kernel t) → slot2 ≡ operand_slot S1 m (kernel u) → o ≡ written_integer (kernel u)
      → B1 ≡ operand (kernel t) (emit w None S h (kernel t) B) B → B2 ≡ second (written_integer (kernel u)) (operand (kernel u) (emit w None S1 m (kernel u) B1) B1) B1 → B3 ≡ add (paired_instruction b h slot o slot2 p ∷ []) B2
      → (lp : Option Target) → B3 ≡ emit w lp S h (apply (Builtin b) (kernels ts) p) B
  two_done b ts t u m slot slot2 o S1 B B1 B2 B3 e et eu es em ea ec eo e1 e2 e3 lp =
      let z = written_integer (kernel u) in
      let n = next_slot h (kernel t) in
      let F = operand (kernel t) (emit w None S h (kernel t) B) B in
      let ec2 : slot2 ≡ operand_slot S n (kernel u) = ec ∙ ap₂ (λ s k. operand_slot s k (kernel u)) es em in
      let e4 : B2 ≡ second z (operand (kernel u) (emit w None S n (kernel u) F) F) F =
      e2 ∙ ap₂ (λ s k. second z (operand (kernel u) (emit w None s k (kernel u) B1) B1) B1) es em ∙ ap (λ d. second z (operand (kernel u) (emit w None S n (kernel u) d) d) d) e1 in
      e3 ∙ ap₂ (λ a c. add (paired_instruction b h a o c p ∷ []) B2) ea ec2 ∙ ap₂ (λ k d. add (paired_instruction b h (operand_slot S h (kernel t)) k (operand_slot S n (kernel u)) p ∷ []) d) eo e4 ∙ sym (two_laid b ts lp B t u e et eu)

  abbrev push_of : Kernel → Kernel → Builder → Builder
  push_of t u B =
      let B1 = emit w None S h t B in
      add (pushing h h (operand_slot S (suc h) u) p ∷ []) (operand u (emit w None S (suc h) u B1) B1)

  push_laid : (b : BuiltinName) (ts : List Term) (lp : Option Target) (B : Builder) (t u : Term) → layout_of b (length ts) ≡ Layout.Push → t ≡ get_or ts 0 t → u ≡ get_or ts 1 u
      → emit w lp S h (apply (Builtin b) (kernels ts) p) B ≡ push_of (kernel t) (kernel u) B
  push_laid b (t ∷ []) lp B x y e et eu = absurd cc
  push_laid b [] lp B x y e et eu = absurd cc
  push_laid Conj (t ∷ u ∷ []) lp B x y e et eu = ap₂ (λ z a. push_of (kernel z) (kernel a) B) (sym et) (sym eu)
  push_laid b (t ∷ u ∷ []) lp B x y e et eu = absurd cc
  push_laid Assoc (t ∷ u ∷ v ∷ []) lp B x y e et eu = absurd cc
  push_laid b (t ∷ u ∷ v ∷ []) lp B x y e et eu = absurd cc
  push_laid b (t ∷ u ∷ v ∷ z ∷ ts) lp B x y e et eu = absurd cc

  pub push_done : (b : BuiltinName) (ts : List Term) (t u : Term) (m slot2 : ℕ) (S1 : Scope) (B B1 B2 B3 : Builder) → layout_of b (length ts) ≡ Layout.Push → t ≡ get_or ts 0 t → u ≡ get_or ts 1 u
      → S1 ≡ S → m ≡ suc h → slot2 ≡ operand_slot S1 m (kernel u) → B1 ≡ emit w None S h (kernel t) B → B2 ≡ operand (kernel u) (emit w None S1 m (kernel u) B1) B1 → B3 ≡ add (pushing h h slot2 p ∷ []) B2
      → (lp : Option Target) → B3 ≡ emit w lp S h (apply (Builtin b) (kernels ts) p) B
  push_done b ts t u m slot2 S1 B B1 B2 B3 e et eu es em ec e1 e2 e3 lp =
      let F = emit w None S h (kernel t) B in
      let ec2 : slot2 ≡ operand_slot S (suc h) (kernel u) = ec ∙ ap₂ (λ s k. operand_slot s k (kernel u)) es em in
      let e4 : B2 ≡ operand (kernel u) (emit w None S (suc h) (kernel u) F) F = e2 ∙ ap₂ (λ s k. operand (kernel u) (emit w None s k (kernel u) B1) B1) es em ∙ ap (λ z. operand (kernel u) (emit w None S (suc h) (kernel u) z) z) e1 in
      e3 ∙ ap₂ (λ c z. add (pushing h h c p ∷ []) z) ec2 e4 ∙ sym (push_laid b ts lp B t u e et eu)

  abbrev put_of : Kernel → Kernel → Kernel → Builder → Builder
  put_of t u v B =
      let m = next_slot (suc h) u in
      let B1 = emit w None S h t B in
      let B2 = operand u (emit w None S (suc h) u B1) B1 in
      add (putting h h (operand_slot S (suc h) u) (operand_slot S m v) p ∷ []) (operand v (emit w None S m v B2) B2)

  put_laid : (b : BuiltinName) (ts : List Term) (lp : Option Target) (B : Builder) (t u v : Term) → layout_of b (length ts) ≡ Layout.Put → t ≡ get_or ts 0 t → u ≡ get_or ts 1 u → v ≡ get_or ts 2 v
      → emit w lp S h (apply (Builtin b) (kernels ts) p) B ≡ put_of (kernel t) (kernel u) (kernel v) B
  put_laid b (t ∷ []) lp B x y z e et eu ev = absurd cc
  put_laid b [] lp B x y z e et eu ev = absurd cc
  put_laid Conj (t ∷ u ∷ []) lp B x y z e et eu ev = absurd cc
  put_laid b (t ∷ u ∷ []) lp B x y z e et eu ev = absurd cc
  put_laid Assoc (t ∷ u ∷ v ∷ []) lp B x y z e et eu ev = ap₂ (λ a c. put_of (kernel a) (kernel c) (kernel v) B) (sym et) (sym eu) ∙ ap (λ d. put_of (kernel x) (kernel y) (kernel d) B) (sym ev)
  put_laid b (t ∷ u ∷ v ∷ []) lp B x y z e et eu ev = absurd cc
  put_laid b (t ∷ u ∷ v ∷ d ∷ ts) lp B x y z e et eu ev = absurd cc

  pub put_done : (b : BuiltinName) (ts : List Term) (t u v : Term) (m n slot2 slot3 : ℕ) (S1 S2 : Scope) (B B1 B2 B3 B4 : Builder)
      → layout_of b (length ts) ≡ Layout.Put → t ≡ get_or ts 0 t → u ≡ get_or ts 1 u → v ≡ get_or ts 2 v → S1 ≡ S → S2 ≡ S → m ≡ suc h → n ≡ next_slot m (kernel u)
      → slot2 ≡ operand_slot S1 m (kernel u) → slot3 ≡ operand_slot S2 n (kernel v) → B1 ≡ emit w None S h (kernel t) B → B2 ≡ operand (kernel u) (emit w None S1 m (kernel u) B1) B1
      → B3 ≡ operand (kernel v) (emit w None S2 n (kernel v) B2) B2 → B4 ≡ add (putting h h slot2 slot3 p ∷ []) B3
      → (lp : Option Target) → B4 ≡ emit w lp S h (apply (Builtin b) (kernels ts) p) B
  put_done b ts t u v m n slot2 slot3 S1 S2 B B1 B2 B3 B4 e et eu ev es es2 em en ec ed e1 e2 e3 e4 lp =
      let k = next_slot (suc h) (kernel u) in
      let F1 = emit w None S h (kernel t) B in
      let F2 = operand (kernel u) (emit w None S (suc h) (kernel u) F1) F1 in
      let en2 : n ≡ k = en ∙ ap (λ i. next_slot i (kernel u)) em in
      let ec2 : slot2 ≡ operand_slot S (suc h) (kernel u) = ec ∙ ap₂ (λ s i. operand_slot s i (kernel u)) es em in
      let ed2 : slot3 ≡ operand_slot S k (kernel v) = ed ∙ ap₂ (λ s i. operand_slot s i (kernel v)) es2 en2 in
      let e5 : B2 ≡ F2 = e2 ∙ ap₂ (λ s i. operand (kernel u) (emit w None s i (kernel u) B1) B1) es em ∙ ap (λ z. operand (kernel u) (emit w None S (suc h) (kernel u) z) z) e1 in
      let e6 : B3 ≡ operand (kernel v) (emit w None S k (kernel v) F2) F2 = e3 ∙ ap₂ (λ s i. operand (kernel v) (emit w None s i (kernel v) B2) B2) es2 en2 ∙ ap (λ z. operand (kernel v) (emit w None S k (kernel v) z) z) e5 in
      e4 ∙ ap₂ (λ a c. add (putting h h a c p ∷ []) B3) ec2 ed2 ∙ ap (λ z. add (putting h h (operand_slot S (suc h) (kernel u)) (operand_slot S k (kernel v)) p ∷ []) z) e6 ∙ sym (put_laid b ts lp B t u v e et eu ev)

  row_laid : (b : BuiltinName) (ts : List Term) (lp : Option Target) (B : Builder) → layout_of b (length ts) ≡ Layout.Row
      → emit w lp S h (apply (Builtin b) (kernels ts) p) B ≡ add (many b h h (count_terms (kernels ts)) p ∷ []) (emit_all w S h (kernels ts) B)
  row_laid b (t ∷ []) lp B e = absurd cc
  row_laid Assoc [] lp B e = refl
  row_laid b [] lp B e = refl
  row_laid Conj (t ∷ u ∷ []) lp B e = absurd cc
  row_laid b (t ∷ u ∷ []) lp B e = absurd cc
  row_laid Assoc (t ∷ u ∷ v ∷ []) lp B e = absurd cc
  row_laid b (t ∷ u ∷ v ∷ []) lp B e = refl
  row_laid Assoc (t ∷ u ∷ v ∷ x ∷ ts) lp B e = refl
  row_laid b (t ∷ u ∷ v ∷ x ∷ ts) lp B e = refl

  pub row_done : (b : BuiltinName) (ts : List Term) (n : ℕ) (B B1 B2 : Builder) → layout_of b (length ts) ≡ Layout.Row → n ≡ count_terms (kernels ts) → B1 ≡ emit_all w S h (kernels ts) B → B2 ≡ add (many b h h n p ∷ []) B1
      → (lp : Option Target) → B2 ≡ emit w lp S h (apply (Builtin b) (kernels ts) p) B
  row_done b ts n B B1 B2 e en e1 e2 lp = e2 ∙ ap₂ (λ k z. add (many b h h k p ∷ []) z) en e1 ∙ sym (row_laid b ts lp B e)

-- what is laid out for any other head
pub other_laid : (w : ℕ) (lp : Option Target) (S : Scope) (h : ℕ) (p : Place) (f : Head) (ts : Kernels) (B : Builder) → ((b : BuiltinName) → f ≡ Builtin b → ⊥)
    → emit w lp S h (apply f ts p) B ≡ finish w lp f h (count_terms ts) p (emit_all w S h ts B)
other_laid w lp S h p (Builtin b) ts B o = absurd (o b refl)
other_laid w lp S h p f ts B o = refl
