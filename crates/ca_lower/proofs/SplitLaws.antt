-- Splits that are taken from the top of a list, one after another.
use Rattle.std.proofs.Common.{◌≡◌, List, [], ◌∷◌, length, get_or, Result, Ok, Err, sym, ap, ap₂, ◌∙◌, subst}
use Rattle.std.specs.Prelude.{OnOk}
use Rattle.ca_value.specs.declared.builtin.Builtin.{Builtin as BuiltinName}
use Rattle.ca_value.specs.declared.builtin.Builtin.TheVariants.{Conj, Assoc}
use Rattle.ca_term.specs.declared.term.Term.{Term}
use Rattle.ca_term.specs.View.{kernel, kernels}
use Rattle.ca_lower.specs.declared.emit.Layout.{Layout}
use Rattle.ca_lower.specs.declared.sizes.Split.{Split}
use Rattle.ca_lower.specs.Layouts.{layout_of}
use Rattle.ca_lower.specs.Splits.{stacked, stacked_all, IsOnTop, TakesSplits}

abbrev pub Splits : Type 0
Splits = List Split

-- a part of what is on top is taken
pub record Passes (whole left : Splits → Splits) (s s1 : Splits) : Type 0 where
  pub leaves : (rest : Splits) → s ≡ whole rest → s1 ≡ left rest

module _ (f g : Splits → Splits) where
  pub first_on : (s : Splits) → IsOnTop (λ r. f (g r)) s → IsOnTop f s
  first_on s on = record { rest = g on.rest; is = on.is }

  pub next_on : (s s1 : Splits) → TakesSplits f s s1 → IsOnTop (λ r. f (g r)) s → IsOnTop g s1
  next_on s s1 t on = record { rest = on.rest; is = t.leaves (g on.rest) on.is }

  pub both_taken : (s s1 s2 : Splits) → TakesSplits f s s1 → TakesSplits g s1 s2 → TakesSplits (λ r. f (g r)) s s2
  both_taken s s1 s2 t u = record { leaves = λ r is. u.leaves r (t.leaves (g r) is) }

  pub passes_next : (whole : Splits → Splits) (s s1 s2 : Splits) → Passes whole (λ r. f (g r)) s s1 → TakesSplits f s1 s2 → Passes whole g s s2
  passes_next whole s s1 s2 p t = record { leaves = λ r is. t.leaves (g r) (p.leaves r is) }

-- what holds either way
pub kept : {A E : Type 0} (r : Result A E) (P : Type 0) → P → OnOk r P
kept (Ok x) P p = p
kept (Err x) P p = tt

-- the operands of a builtin, by how they come to it
pub one_listed : (b : BuiltinName) (ts : List Term) (t : Term) → layout_of b (length ts) ≡ Layout.One → t ≡ get_or ts 0 t → ts ≡ t ∷ []
one_listed b (x ∷ []) t e et = ap (λ z. z ∷ []) (sym et)
one_listed b [] t e et = absurd cc
one_listed Conj (x ∷ y ∷ []) t e et = absurd cc
one_listed b (x ∷ y ∷ []) t e et = absurd cc
one_listed Assoc (x ∷ y ∷ z ∷ []) t e et = absurd cc
one_listed b (x ∷ y ∷ z ∷ []) t e et = absurd cc
one_listed b (x ∷ y ∷ z ∷ d ∷ ts) t e et = absurd cc

pub two_listed : (b : BuiltinName) (ts : List Term) (t u : Term) → layout_of b (length ts) ≡ Layout.Two → t ≡ get_or ts 0 t → u ≡ get_or ts 1 u → ts ≡ t ∷ u ∷ []
two_listed b (x ∷ []) t u e et eu = absurd cc
two_listed b [] t u e et eu = absurd cc
two_listed b (x ∷ y ∷ []) t u e et eu = ap₂ (λ z a. z ∷ a ∷ []) (sym et) (sym eu)
two_listed Assoc (x ∷ y ∷ z ∷ []) t u e et eu = absurd cc
two_listed b (x ∷ y ∷ z ∷ []) t u e et eu = absurd cc
two_listed b (x ∷ y ∷ z ∷ d ∷ ts) t u e et eu = absurd cc

pub push_listed : (b : BuiltinName) (ts : List Term) (t u : Term) → layout_of b (length ts) ≡ Layout.Push → t ≡ get_or ts 0 t → u ≡ get_or ts 1 u → ts ≡ t ∷ u ∷ []
push_listed b (x ∷ []) t u e et eu = absurd cc
push_listed b [] t u e et eu = absurd cc
push_listed b (x ∷ y ∷ []) t u e et eu = ap₂ (λ z a. z ∷ a ∷ []) (sym et) (sym eu)
push_listed Assoc (x ∷ y ∷ z ∷ []) t u e et eu = absurd cc
push_listed b (x ∷ y ∷ z ∷ []) t u e et eu = absurd cc
push_listed b (x ∷ y ∷ z ∷ d ∷ ts) t u e et eu = absurd cc

pub put_listed : (b : BuiltinName) (ts : List Term) (t u v : Term) → layout_of b (length ts) ≡ Layout.Put → t ≡ get_or ts 0 t → u ≡ get_or ts 1 u → v ≡ get_or ts 2 v → ts ≡ t ∷ u ∷ v ∷ []
put_listed b (x ∷ []) t u v e et eu ev = absurd cc
put_listed b [] t u v e et eu ev = absurd cc
put_listed Conj (x ∷ y ∷ []) t u v e et eu ev = absurd cc
put_listed b (x ∷ y ∷ []) t u v e et eu ev = absurd cc
put_listed b (x ∷ y ∷ z ∷ []) t u v e et eu ev = ap₂ (λ c d. c ∷ d ∷ z ∷ []) (sym et) (sym eu) ∙ ap (λ c. t ∷ u ∷ c ∷ []) (sym ev)
put_listed b (x ∷ y ∷ z ∷ d ∷ ts) t u v e et eu ev = absurd cc

-- the branches of the operands, one operand after another
abbrev pub operands_on : List Term → Splits → Type 0
operands_on ts s = IsOnTop (stacked_all (kernels ts)) s

module _ (ts : List Term) (t : Term) (s s1 : Splits) (e : ts ≡ t ∷ []) where
  pub one_taken : TakesSplits (stacked (kernel t)) s s1 → TakesSplits (stacked_all (kernels ts)) s s1
  one_taken k = subst (λ l. TakesSplits (stacked_all (kernels l)) s s1) (sym e) (record { leaves = k.leaves })

module _ (ts : List Term) (t u : Term) (s s1 s2 : Splits) (e : ts ≡ t ∷ u ∷ []) where
  two_on : operands_on ts s → IsOnTop (λ r. stacked (kernel t) (stacked (kernel u) r)) s
  two_on on = let o : operands_on (t ∷ u ∷ []) s = subst (λ l. operands_on l s) e on in record { rest = o.rest; is = o.is }

  pub two_second_on : operands_on ts s → TakesSplits (stacked (kernel t)) s s1 → IsOnTop (stacked (kernel u)) s1
  two_second_on on k = next_on (stacked (kernel t)) (stacked (kernel u)) s s1 k (two_on on)

  pub two_taken : TakesSplits (stacked (kernel t)) s s1 → TakesSplits (stacked (kernel u)) s1 s2 → TakesSplits (stacked_all (kernels ts)) s s2
  two_taken k l =
      let both = both_taken (stacked (kernel t)) (stacked (kernel u)) s s1 s2 k l in
      subst (λ l. TakesSplits (stacked_all (kernels l)) s s2) (sym e) (record { leaves = both.leaves })

module _ (ts : List Term) (t u v : Term) (s s1 s2 s3 : Splits) (e : ts ≡ t ∷ u ∷ v ∷ []) where
  three_on : operands_on ts s → IsOnTop (λ r. stacked (kernel t) (stacked (kernel u) (stacked (kernel v) r))) s
  three_on on = let o : operands_on (t ∷ u ∷ v ∷ []) s = subst (λ l. operands_on l s) e on in record { rest = o.rest; is = o.is }

  three_behind_on : operands_on ts s → TakesSplits (stacked (kernel t)) s s1 → IsOnTop (λ r. stacked (kernel u) (stacked (kernel v) r)) s1
  three_behind_on on k = next_on (stacked (kernel t)) (λ r. stacked (kernel u) (stacked (kernel v) r)) s s1 k (three_on on)

  pub three_second_on : operands_on ts s → TakesSplits (stacked (kernel t)) s s1 → IsOnTop (stacked (kernel u)) s1
  three_second_on on k = first_on (stacked (kernel u)) (stacked (kernel v)) s1 (three_behind_on on k)

  pub three_third_on : operands_on ts s → TakesSplits (stacked (kernel t)) s s1 → TakesSplits (stacked (kernel u)) s1 s2 → IsOnTop (stacked (kernel v)) s2
  three_third_on on k l = next_on (stacked (kernel u)) (stacked (kernel v)) s1 s2 l (three_behind_on on k)

  pub three_taken : TakesSplits (stacked (kernel t)) s s1 → TakesSplits (stacked (kernel u)) s1 s2 → TakesSplits (stacked (kernel v)) s2 s3 → TakesSplits (stacked_all (kernels ts)) s s3
  three_taken k l m =
      let behind = both_taken (stacked (kernel u)) (stacked (kernel v)) s1 s2 s3 l m in
      let all = both_taken (stacked (kernel t)) (λ r. stacked (kernel u) (stacked (kernel v) r)) s s1 s3 k behind in
      subst (λ l. TakesSplits (stacked_all (kernels l)) s s3) (sym e) (record { leaves = all.leaves })

-- the second of three, where the third is not read yet
pub put_second_on : (b : BuiltinName) (ts : List Term) (t u : Term) (s s1 : Splits) → layout_of b (length ts) ≡ Layout.Put → t ≡ get_or ts 0 t → u ≡ get_or ts 1 u
    → operands_on ts s → TakesSplits (stacked (kernel t)) s s1 → IsOnTop (stacked (kernel u)) s1
put_second_on b (x ∷ []) t u s s1 e et eu on k = absurd cc
put_second_on b [] t u s s1 e et eu on k = absurd cc
put_second_on Conj (x ∷ y ∷ []) t u s s1 e et eu on k = absurd cc
put_second_on b (x ∷ y ∷ []) t u s s1 e et eu on k = absurd cc
put_second_on b (x ∷ y ∷ z ∷ []) t u s s1 e et eu on k = three_second_on (x ∷ y ∷ z ∷ []) t u z s s1 s1 s1 (ap₂ (λ c d. c ∷ d ∷ z ∷ []) (sym et) (sym eu)) on k
put_second_on b (x ∷ y ∷ z ∷ d ∷ ts) t u s s1 e et eu on k = absurd cc
