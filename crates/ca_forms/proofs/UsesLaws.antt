-- Terms in a list: the last one, and what the names seen so far become.
use Rattle.std.proofs.Common.{◌≡◌, ℕ, zero, suc, ◌+◌, List, [], ◌∷◌, ◌++◌, length, get_or, refl, sym, ap, ◌∙◌, arith, Bool, true, false, cond, ◌&&◌, not, nat_lt}
use Rattle.std.proofs.lemmas.List.{append-nil, append_assoc, length-append}
use Rattle.ca_term.specs.declared.term.Term.{Term}
use Rattle.ca_term.specs.Kernel.{Kernel, Kernels, Bindings, const, var, branch, bind, loop, seq, frame, turn, apply, none, item, empty, binding}
use Rattle.ca_term.specs.View.{kernel, kernels}
use Rattle.ca_forms.specs.Uses.{is_name_among, name_noted, uses, uses_items, uses_bindings, aims_out, last_aims_out}

pub last_aims : (ts : List Term) (i : ℕ) (t : Term) → i + 1 ≡ length ts → t ≡ get_or ts i t → aims_out (kernel t) ≡ last_aims_out (kernels ts)
last_aims [] i t h g = absurd (omega (arith, h))
last_aims (u ∷ []) zero t h g = ap (λ x. aims_out (kernel x)) g
last_aims (u ∷ []) (suc i) t h g = absurd (omega (arith, h))
last_aims (u ∷ v ∷ ts) zero t h g = absurd (omega (arith, h))
last_aims (u ∷ v ∷ ts) (suc i) t h g = last_aims (v ∷ ts) i t (omega (arith, h)) g

-- the names seen are still there, and others behind them
abbrev Longer : List ℕ → List ℕ → Type 0
Longer xs ys = (more : List ℕ) × (ys ≡ xs ++ more)

longer_same : (xs : List ℕ) → Longer xs xs
longer_same xs = ([], sym (append-nil xs))

longer_more : (xs ys zs : List ℕ) → Longer xs ys → Longer ys zs → Longer xs zs
longer_more xs ys zs a b = (a.0 ++ b.0, b.1 ∙ ap (λ (l : List ℕ). l ++ b.0) a.1 ∙ append_assoc xs a.0 b.0)

noted_longer : (n m : ℕ) (seen : List ℕ) → Longer seen (name_noted n m seen)
noted_longer n m seen = by (nat_lt m n && not (is_name_among m seen)) where
  by : (b : Bool) → Longer seen (cond b (seen ++ m ∷ []) seen)
  by true = (m ∷ [], refl)
  by false = longer_same seen

mutual
  uses_longer : (n : ℕ) (t : Kernel) (seen : List ℕ) → Longer seen (uses n t seen)
  uses_longer n (const v) seen = longer_same seen
  uses_longer n (var m) seen = noted_longer n m seen
  uses_longer n (branch c a b) seen = longer_more seen (uses n c seen) (uses n b (uses n a (uses n c seen))) (uses_longer n c seen)
      (longer_more (uses n c seen) (uses n a (uses n c seen)) (uses n b (uses n a (uses n c seen))) (uses_longer n a (uses n c seen)) (uses_longer n b (uses n a (uses n c seen))))
  uses_longer n (bind bs body) seen = longer_more seen (uses_bindings n bs seen) (uses n body (uses_bindings n bs seen)) (uses_bindings_longer n bs seen) (uses_longer n body (uses_bindings n bs seen))
  uses_longer n (loop fs bs body) seen = longer_more seen (uses_bindings n bs seen) (uses n body (uses_bindings n bs seen)) (uses_bindings_longer n bs seen) (uses_longer n body (uses_bindings n bs seen))
  uses_longer n (seq ts) seen = uses_items_longer n ts seen
  uses_longer n (frame body) seen = longer_same seen
  uses_longer n (turn names text now) seen = longer_same seen
  uses_longer n (apply h ts p) seen = uses_items_longer n ts seen

  uses_items_longer : (n : ℕ) (ts : Kernels) (seen : List ℕ) → Longer seen (uses_items n ts seen)
  uses_items_longer n none seen = longer_same seen
  uses_items_longer n (item t ts) seen = longer_more seen (uses n t seen) (uses_items n ts (uses n t seen)) (uses_longer n t seen) (uses_items_longer n ts (uses n t seen))

  uses_bindings_longer : (n : ℕ) (bs : Bindings) (seen : List ℕ) → Longer seen (uses_bindings n bs seen)
  uses_bindings_longer n empty seen = longer_same seen
  uses_bindings_longer n (binding m t bs) seen = longer_more seen (uses n t seen) (uses_bindings n bs (uses n t seen)) (uses_longer n t seen) (uses_bindings_longer n bs (uses n t seen))

-- no new name came up
pub uses_same : (n : ℕ) (t : Kernel) (seen : List ℕ) → length (uses n t seen) ≡ length seen → uses n t seen ≡ seen
uses_same n t seen h = by (uses_longer n t seen) where
  by : Longer seen (uses n t seen) → uses n t seen ≡ seen
  by ([], e) = e ∙ append-nil seen
  by (m ∷ more, e) = absurd (omega (arith, h, ap length e, length-append seen (m ∷ more)))
