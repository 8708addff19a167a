-- Which names a term uses from outside, and that these are all of them. (As in `ca_check`, which shows them to no other crate.)
use Rattle.std.proofs.Common.{◌≡◌, inl, inr, ⊎_elim, ℕ, ◌<◌, ◌≤◌, List, [], ◌∷◌, ◌++◌, length, refl, sym, ap, ◌∙◌, arith, Bool, true, false, cond, ◌&&◌, ◌||◌, not, ◌==◌, nat_lt}
use Rattle.std.proofs.lemmas.List.{append-nil, append_assoc, length-append}
use Rattle.std.proofs.lemmas.Bool.{ltb-true, ltb-false, eqb-true}
use Rattle.ca_term.specs.Kernel.{Kernel, Kernels, Bindings, const, var, branch, bind, loop, seq, frame, turn, apply, none, item, empty, binding}
use Rattle.ca_term.specs.Closed.{IsIn}
use Rattle.ca_forms.specs.Uses.{is_name_among, name_noted, uses, uses_items, uses_bindings}

-- each of the numbers is below n
abbrev pub Below : ℕ → List ℕ → Type 0
Below n [] = Unit {0}
Below n (m ∷ ms) = (m < n) × Below n ms

pub below_more : (n m : ℕ) (ms : List ℕ) → n ≤ m → Below n ms → Below m ms
below_more n m [] l g = tt
below_more n m (x ∷ ms) l g = (omega (arith, l, g.0), below_more n m ms l g.1)

pub below_append : (n : ℕ) (ms ks : List ℕ) → Below n ms → Below n ks → Below n (ms ++ ks)
below_append n [] ks g h = h
below_append n (m ∷ ms) ks g h = (g.0, below_append n ms ks g.1 h)

-- each name below n in the term is one of us
abbrev mutual
  pub Only : ℕ → List ℕ → Kernel → Type 0
  Only n us (const v) = Unit {0}
  Only n us (var m) = m < n → IsIn m us
  Only n us (branch c a b) = Only n us c × Only n us a × Only n us b
  Only n us (bind bs body) = OnlyBindings n us bs × Only n us body
  Only n us (loop fs bs body) = OnlyBindings n us bs × Only n us body
  Only n us (seq ts) = OnlyTerms n us ts
  Only n us (frame body) = Unit {0}
  Only n us (turn names text now) = Unit {0}
  Only n us (apply h ts p) = OnlyTerms n us ts

  pub OnlyTerms : ℕ → List ℕ → Kernels → Type 0
  OnlyTerms n us none = Unit {0}
  OnlyTerms n us (item t ts) = Only n us t × OnlyTerms n us ts

  pub OnlyBindings : ℕ → List ℕ → Bindings → Type 0
  OnlyBindings n us empty = Unit {0}
  OnlyBindings n us (binding m t bs) = Only n us t × OnlyBindings n us bs

abbrev pub Within : List ℕ → List ℕ → Type 0
Within us vs = (m : ℕ) → IsIn m us → IsIn m vs

mutual
  pub only_more : (n : ℕ) (us vs : List ℕ) → Within us vs → (t : Kernel) → Only n us t → Only n vs t
  only_more n us vs f (const v) o = tt
  only_more n us vs f (var m) o = λ l. f m (o l)
  only_more n us vs f (branch c a b) o = (only_more n us vs f c o.0, only_more n us vs f a o.1, only_more n us vs f b o.2)
  only_more n us vs f (bind bs body) o = (only_more_bindings n us vs f bs o.0, only_more n us vs f body o.1)
  only_more n us vs f (loop fs bs body) o = (only_more_bindings n us vs f bs o.0, only_more n us vs f body o.1)
  only_more n us vs f (seq ts) o = only_more_terms n us vs f ts o
  only_more n us vs f (frame body) o = tt
  only_more n us vs f (turn names text now) o = tt
  only_more n us vs f (apply h ts p) o = only_more_terms n us vs f ts o

  pub only_more_terms : (n : ℕ) (us vs : List ℕ) → Within us vs → (ts : Kernels) → OnlyTerms n us ts → OnlyTerms n vs ts
  only_more_terms n us vs f none o = tt
  only_more_terms n us vs f (item t ts) o = (only_more n us vs f t o.0, only_more_terms n us vs f ts o.1)

  pub only_more_bindings : (n : ℕ) (us vs : List ℕ) → Within us vs → (bs : Bindings) → OnlyBindings n us bs → OnlyBindings n vs bs
  only_more_bindings n us vs f empty o = tt
  only_more_bindings n us vs f (binding m t bs) o = (only_more n us vs f t o.0, only_more_bindings n us vs f bs o.1)

pub in_left : (m : ℕ) (xs ys : List ℕ) → IsIn m xs → IsIn m (xs ++ ys)
in_left m [] ys h = absurd h
in_left m (x ∷ xs) ys h = ⊎_elim (λ e. inl e) (λ i. inr (in_left m xs ys i)) h

pub in_right : (m : ℕ) (xs ys : List ℕ) → IsIn m ys → IsIn m (xs ++ ys)
in_right m [] ys h = h
in_right m (x ∷ xs) ys h = inr (in_right m xs ys h)

pub among_in : (m : ℕ) (xs : List ℕ) → is_name_among m xs ≡ true → IsIn m xs
among_in m [] e = cc
among_in m (x ∷ xs) e = by (m == x) (eqb-true m x) (λ r. among_in m xs r) e where
  by : (b : Bool) → (b ≡ true → m ≡ x) → (is_name_among m xs ≡ true → IsIn m xs) → (b || is_name_among m xs) ≡ true → IsIn m (x ∷ xs)
  by true f r e = inl (f refl)
  by false f r e = inr (r e)

-- what was seen stays, and what is used is seen
pub noted_keeps : (n m : ℕ) (seen : List ℕ) → Within seen (name_noted n m seen)
noted_keeps n m seen x h = by (nat_lt m n && not (is_name_among m seen)) where
  by : (b : Bool) → IsIn x (cond b (seen ++ m ∷ []) seen)
  by true = in_left x seen (m ∷ []) h
  by false = h

pub noted_has : (n m : ℕ) (seen : List ℕ) → m < n → IsIn m (name_noted n m seen)
noted_has n m seen l = by (nat_lt m n) (ltb-false m n) (is_name_among m seen) (among_in m seen) where
  by : (a : Bool) → (a ≡ false → n ≤ m) → (b : Bool) → (b ≡ true → IsIn m seen) → IsIn m (cond (a && not b) (seen ++ m ∷ []) seen)
  by true f true g = g refl
  by true f false g = in_right m seen (m ∷ []) (inl refl)
  by false f b g = absurd (omega (arith, l, f refl))

mutual
  pub uses_keep : (n : ℕ) (t : Kernel) (seen : List ℕ) → Within seen (uses n t seen)
  uses_keep n (const v) seen x h = h
  uses_keep n (var m) seen x h = noted_keeps n m seen x h
  uses_keep n (branch c a b) seen x h = uses_keep n b (uses n a (uses n c seen)) x (uses_keep n a (uses n c seen) x (uses_keep n c seen x h))
  uses_keep n (bind bs body) seen x h = uses_keep n body (uses_bindings n bs seen) x (uses_bindings_keep n bs seen x h)
  uses_keep n (loop fs bs body) seen x h = uses_keep n body (uses_bindings n bs seen) x (uses_bindings_keep n bs seen x h)
  uses_keep n (seq ts) seen x h = uses_items_keep n ts seen x h
  uses_keep n (frame body) seen x h = h
  uses_keep n (turn names text now) seen x h = h
  uses_keep n (apply h ts p) seen x i = uses_items_keep n ts seen x i

  pub uses_items_keep : (n : ℕ) (ts : Kernels) (seen : List ℕ) → Within seen (uses_items n ts seen)
  uses_items_keep n none seen x h = h
  uses_items_keep n (item t ts) seen x h = uses_items_keep n ts (uses n t seen) x (uses_keep n t seen x h)

  pub uses_bindings_keep : (n : ℕ) (bs : Bindings) (seen : List ℕ) → Within seen (uses_bindings n bs seen)
  uses_bindings_keep n empty seen x h = h
  uses_bindings_keep n (binding m t bs) seen x h = uses_bindings_keep n bs (uses n t seen) x (uses_keep n t seen x h)

mutual
  pub uses_only : (n : ℕ) (t : Kernel) (seen : List ℕ) → Only n (uses n t seen) t
  uses_only n (const v) seen = tt
  uses_only n (var m) seen = λ l. noted_has n m seen l
  uses_only n (branch c a b) seen = (
    only_more n (uses n c seen) (uses n b (uses n a (uses n c seen)))
        (λ x h. uses_keep n b (uses n a (uses n c seen)) x (uses_keep n a (uses n c seen) x h)) c (uses_only n c seen),
    only_more n (uses n a (uses n c seen)) (uses n b (uses n a (uses n c seen))) (uses_keep n b (uses n a (uses n c seen))) a (uses_only n a (uses n c seen)),
    uses_only n b (uses n a (uses n c seen)),
  )
  uses_only n (bind bs body) seen = (
    only_more_bindings n (uses_bindings n bs seen) (uses n body (uses_bindings n bs seen)) (uses_keep n body (uses_bindings n bs seen)) bs (uses_bindings_only n bs seen),
    uses_only n body (uses_bindings n bs seen),
  )
  uses_only n (loop fs bs body) seen = (
    only_more_bindings n (uses_bindings n bs seen) (uses n body (uses_bindings n bs seen)) (uses_keep n body (uses_bindings n bs seen)) bs (uses_bindings_only n bs seen),
    uses_only n body (uses_bindings n bs seen),
  )
  uses_only n (seq ts) seen = uses_items_only n ts seen
  uses_only n (frame body) seen = tt
  uses_only n (turn names text now) seen = tt
  uses_only n (apply h ts p) seen = uses_items_only n ts seen

  pub uses_items_only : (n : ℕ) (ts : Kernels) (seen : List ℕ) → OnlyTerms n (uses_items n ts seen) ts
  uses_items_only n none seen = tt
  uses_items_only n (item t ts) seen =
      (only_more n (uses n t seen) (uses_items n ts (uses n t seen)) (uses_items_keep n ts (uses n t seen)) t (uses_only n t seen), uses_items_only n ts (uses n t seen))

  pub uses_bindings_only : (n : ℕ) (bs : Bindings) (seen : List ℕ) → OnlyBindings n (uses_bindings n bs seen) bs
  uses_bindings_only n empty seen = tt
  uses_bindings_only n (binding m t bs) seen =
      (only_more n (uses n t seen) (uses_bindings n bs (uses n t seen)) (uses_bindings_keep n bs (uses n t seen)) t (uses_only n t seen), uses_bindings_only n bs (uses n t seen))

-- what is used is below
pub noted_below : (n m : ℕ) (seen : List ℕ) → Below n seen → Below n (name_noted n m seen)
noted_below n m seen g = by (nat_lt m n) (is_name_among m seen) (ltb-true m n) where
  by : (a b : Bool) → (a ≡ true → m < n) → Below n (cond (a && not b) (seen ++ m ∷ []) seen)
  by false b f = g
  by true true f = g
  by true false f = below_append n seen (m ∷ []) g (f refl, tt)

mutual
  pub uses_below : (n : ℕ) (t : Kernel) (seen : List ℕ) → Below n seen → Below n (uses n t seen)
  uses_below n (const v) seen g = g
  uses_below n (var m) seen g = noted_below n m seen g
  uses_below n (branch c a b) seen g = uses_below n b (uses n a (uses n c seen)) (uses_below n a (uses n c seen) (uses_below n c seen g))
  uses_below n (bind bs body) seen g = uses_below n body (uses_bindings n bs seen) (uses_bindings_below n bs seen g)
  uses_below n (loop fs bs body) seen g = uses_below n body (uses_bindings n bs seen) (uses_bindings_below n bs seen g)
  uses_below n (seq ts) seen g = uses_items_below n ts seen g
  uses_below n (frame body) seen g = g
  uses_below n (turn names text now) seen g = g
  uses_below n (apply h ts p) seen g = uses_items_below n ts seen g

  pub uses_items_below : (n : ℕ) (ts : Kernels) (seen : List ℕ) → Below n seen → Below n (uses_items n ts seen)
  uses_items_below n none seen g = g
  uses_items_below n (item t ts) seen g = uses_items_below n ts (uses n t seen) (uses_below n t seen g)

  pub uses_bindings_below : (n : ℕ) (bs : Bindings) (seen : List ℕ) → Below n seen → Below n (uses_bindings n bs seen)
  uses_bindings_below n empty seen g = g
  uses_bindings_below n (binding m t bs) seen g = uses_bindings_below n bs (uses n t seen) (uses_below n t seen g)

-- what a term uses comes behind what was seen
abbrev pub Extends : List ℕ → List ℕ → Type 0
Extends seen out = (extra : List ℕ) × (out ≡ seen ++ extra)

pub extends_on : (a b c : List ℕ) → Extends a b → Extends b c → Extends a c
extends_on a b c x y = (x.0 ++ y.0, y.1 ∙ ap (λ (l : List ℕ). l ++ y.0) x.1 ∙ append_assoc a x.0 y.0)

pub noted_extends : (n m : ℕ) (seen : List ℕ) → Extends seen (name_noted n m seen)
noted_extends n m seen = by (nat_lt m n && not (is_name_among m seen)) where
  by : (b : Bool) → Extends seen (cond b (seen ++ m ∷ []) seen)
  by true = (m ∷ [], refl)
  by false = ([], sym (append-nil seen))

mutual
  pub uses_extends : (n : ℕ) (t : Kernel) (seen : List ℕ) → Extends seen (uses n t seen)
  uses_extends n (const v) seen = ([], sym (append-nil seen))
  uses_extends n (var m) seen = noted_extends n m seen
  uses_extends n (branch c a b) seen = extends_on seen (uses n a (uses n c seen)) (uses n b (uses n a (uses n c seen)))
      (extends_on seen (uses n c seen) (uses n a (uses n c seen)) (uses_extends n c seen) (uses_extends n a (uses n c seen))) (uses_extends n b (uses n a (uses n c seen)))
  uses_extends n (bind bs body) seen = extends_on seen (uses_bindings n bs seen) (uses n body (uses_bindings n bs seen)) (uses_bindings_extend n bs seen) (uses_extends n body (uses_bindings n bs seen))
  uses_extends n (loop fs bs body) seen = extends_on seen (uses_bindings n bs seen) (uses n body (uses_bindings n bs seen)) (uses_bindings_extend n bs seen) (uses_extends n body (uses_bindings n bs seen))
  uses_extends n (seq ts) seen = uses_items_extend n ts seen
  uses_extends n (frame body) seen = ([], sym (append-nil seen))
  uses_extends n (turn names text now) seen = ([], sym (append-nil seen))
  uses_extends n (apply h ts p) seen = uses_items_extend n ts seen

  pub uses_items_extend : (n : ℕ) (ts : Kernels) (seen : List ℕ) → Extends seen (uses_items n ts seen)
  uses_items_extend n none seen = ([], sym (append-nil seen))
  uses_items_extend n (item t ts) seen = extends_on seen (uses n t seen) (uses_items n ts (uses n t seen)) (uses_extends n t seen) (uses_items_extend n ts (uses n t seen))

  pub uses_bindings_extend : (n : ℕ) (bs : Bindings) (seen : List ℕ) → Extends seen (uses_bindings n bs seen)
  uses_bindings_extend n empty seen = ([], sym (append-nil seen))
  uses_bindings_extend n (binding m t bs) seen = extends_on seen (uses n t seen) (uses_bindings n bs (uses n t seen)) (uses_extends n t seen) (uses_bindings_extend n bs (uses n t seen))

-- a list that is extended and not longer is the same
pub extended_same : (seen out : List ℕ) → Extends seen out → length out ≡ length seen → out ≡ seen
extended_same seen out x e = by x.0 x.1 where
  by : (extra : List ℕ) → out ≡ seen ++ extra → out ≡ seen
  by [] f = f ∙ append-nil seen
  by (y ∷ ys) f = absurd (omega (arith, e, ap length f, length-append seen (y ∷ ys)))
