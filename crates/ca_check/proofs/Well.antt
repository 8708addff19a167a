-- A term that stands in a scope of so many names, each binder taking the next number: what a walk makes. It
-- fits, none of it runs yet, it binds its names anew, and each name in it is bound.
use Rattle.std.proofs.Common.{◌≡◌, inl, inr, ⊎_elim, ℕ, suc, ◌+◌, ◌<◌, ◌≤◌, List, [], ◌∷◌, ◌++◌, length, refl, sym, ap, ◌∙◌, subst, arith, Option, Some, None, Bool, true, false, cond, ◌&&◌, ◌||◌, not, ◌==◌, nat_lt}
use Rattle.std.proofs.lemmas.List.{append-nil, append_assoc, length-append}
use Rattle.std.proofs.lemmas.Bool.{ltb-true, ltb-false, eqb-true, cases_lt, and_parts}
use Rattle.ca_value.specs.Tree.{Tree, nil, bool, int, text as text_tree, key, vector, map as map_tree, port}
use Rattle.ca_value.specs.IsValue.{Scalars, IsInteger, IsKeyword}
use Rattle.ca_term.specs.declared.head.Head.{Head}
use Rattle.ca_term.specs.declared.head.Head.TheVariants.{Recur, Builtin, Call, Take, Put, Alts, Make, Spawn, Close, Register, Print, Post}
use Rattle.ca_term.specs.Kernel.{Kernel, Kernels, Bindings, const, var, branch, bind, loop, seq, frame, turn, apply, none, item, empty, binding}
use Rattle.ca_term.specs.Constants.{IsScalar, HasScalars, TermsHaveScalars, BindingsHaveScalars}
use Rattle.ca_term.specs.Closed.{IsIn, IsClosed, AreClosed, AreClosedBindings, names_behind}
use Rattle.ca_term.specs.Fits.{Known, Suits, Fits, FitTerms, FitInOrder, FitBindings, count_terms, count_bindings, BindsAnew, TermsAnew, BindingsAnew, IsPlainHead, IsPlain, ArePlain, ArePlainBindings}
use Rattle.ca_term.specs.Source.{IsLiteral, IsFew, IsSource, AreSource, AreSourceBindings}
use Rattle.ca_forms.specs.Uses.{is_name_among, name_noted, uses, uses_items, uses_bindings, is_plain_head, is_plain, are_plain, are_plain_bindings}

-- what the program knows, and what is said of the integers and keywords in its constants
pub record Rules : Type 0 where
  pub known : Known
  pub scalars : Scalars

-- a constant that a script can write, and its scalar is as said
abbrev pub IsConstant : Scalars → Tree → Type 0
IsConstant scalars (int z) = IsInteger scalars z
IsConstant scalars (key s) = (length s ≤ 65_535) × IsKeyword scalars s
IsConstant scalars v = IsLiteral v

pub constant_literal : (scalars : Scalars) (v : Tree) → IsConstant scalars v → IsLiteral v
constant_literal scalars nil c = tt
constant_literal scalars (bool b) c = tt
constant_literal scalars (int z) c = tt
constant_literal scalars (text_tree s) c = c
constant_literal scalars (key s) c = c.0
constant_literal scalars (vector ts) c = c
constant_literal scalars (map_tree ps) c = c
constant_literal scalars (port n) c = c

pub constant_scalar : (scalars : Scalars) (v : Tree) → IsConstant scalars v → IsScalar scalars v
constant_scalar scalars nil c = tt
constant_scalar scalars (bool b) c = tt
constant_scalar scalars (int z) c = c
constant_scalar scalars (text_tree s) c = tt
constant_scalar scalars (key s) c = c.1
constant_scalar scalars (vector ts) c = tt
constant_scalar scalars (map_tree ps) c = tt
constant_scalar scalars (port n) c = tt

-- the head suits so many operands, and on a registry there are at most four
abbrev pub Suited : Rules → Option ℕ → Head → ℕ → Type 0
Suited k target (Register name) n = n ≤ 4
Suited k target h n = Suits k.known target h n

pub suited_suits : (k : Rules) (target : Option ℕ) (h : Head) (n : ℕ) → Suited k target h n → Suits k.known target h n
suited_suits k target (Register name) n s = tt
suited_suits k target h n s = s

pub suited_few : (k : Rules) (target : Option ℕ) (h : Head) (n : ℕ) → Suited k target h n → IsFew h n
suited_few k target (Register name) n s = s
suited_few k target h n s = tt

abbrev mutual
  pub Well : Rules → ℕ → Option ℕ → Kernel → Type 0
  Well k n target (const v) = IsConstant k.scalars v
  Well k n target (var m) = m < n
  Well k n target (branch c a b) = Well k n None c × Well k n target a × Well k n target b
  Well k n target (bind bs body) = WellBindings k n bs × Well k (n + count_bindings bs) target body
  Well k n target (loop [] bs body) = WellBindings k n bs × Well k (n + count_bindings bs) (Some (count_bindings bs)) body
  Well k n target (loop (f ∷ fs) bs body) = ⊥
  Well k n target (seq ts) = WellInOrder k n target ts
  Well k n target (frame body) = ⊥
  Well k n target (turn names text now) = ⊥
  Well k n target (apply h ts p) = Suited k target h (count_terms ts) × WellTerms k n ts

  pub WellTerms : Rules → ℕ → Kernels → Type 0
  WellTerms k n none = Unit {0}
  WellTerms k n (item t ts) = Well k n None t × WellTerms k n ts

  pub WellInOrder : Rules → ℕ → Option ℕ → Kernels → Type 0
  WellInOrder k n target none = Unit {0}
  WellInOrder k n target (item t none) = Well k n target t
  WellInOrder k n target (item t (item u us)) = Well k n None t × WellInOrder k n target (item u us)

  pub WellBindings : Rules → ℕ → Bindings → Type 0
  WellBindings k n empty = Unit {0}
  WellBindings k n (binding m t bs) = (m ≡ n) × Well k n None t × WellBindings k (suc n) bs

-- it fits
mutual
  pub fits : (k : Rules) (n : ℕ) (target : Option ℕ) (t : Kernel) → Well k n target t → Fits (Suits k.known) target t
  fits k n target (const v) w = tt
  fits k n target (var m) w = tt
  fits k n target (branch c a b) w = (fits k n None c w.0, fits k n target a w.1, fits k n target b w.2)
  fits k n target (bind bs body) w = (bindings_fit k n bs w.0, fits k (n + count_bindings bs) target body w.1)
  fits k n target (loop [] bs body) w = (
    bindings_fit k n bs w.0,
    subst (λ m. Fits (Suits k.known) (Some m) body) (omega arith) (fits k (n + count_bindings bs) (Some (count_bindings bs)) body w.1),
  )
  fits k n target (loop (f ∷ fs) bs body) w = absurd w
  fits k n target (seq ts) w = in_order_fit k n target ts w
  fits k n target (frame body) w = absurd w
  fits k n target (turn names text now) w = absurd w
  fits k n target (apply h ts p) w = (suited_suits k target h (count_terms ts) w.0, terms_fit k n ts w.1)

  pub terms_fit : (k : Rules) (n : ℕ) (ts : Kernels) → WellTerms k n ts → FitTerms (Suits k.known) ts
  terms_fit k n none w = tt
  terms_fit k n (item t ts) w = (fits k n None t w.0, terms_fit k n ts w.1)

  pub in_order_fit : (k : Rules) (n : ℕ) (target : Option ℕ) (ts : Kernels) → WellInOrder k n target ts → FitInOrder (Suits k.known) target ts
  in_order_fit k n target none w = tt
  in_order_fit k n target (item t none) w = fits k n target t w
  in_order_fit k n target (item t (item u us)) w = (fits k n None t w.0, in_order_fit k n target (item u us) w.1)

  pub bindings_fit : (k : Rules) (n : ℕ) (bs : Bindings) → WellBindings k n bs → FitBindings (Suits k.known) bs
  bindings_fit k n empty w = tt
  bindings_fit k n (binding m t bs) w = (fits k n None t w.1, bindings_fit k (suc n) bs w.2)

-- nothing in it runs yet
mutual
  pub source : (k : Rules) (n : ℕ) (target : Option ℕ) (t : Kernel) → Well k n target t → IsSource t
  source k n target (const v) w = constant_literal k.scalars v w
  source k n target (var m) w = tt
  source k n target (branch c a b) w = (source k n None c w.0, source k n target a w.1, source k n target b w.2)
  source k n target (bind bs body) w = (bindings_source k n bs w.0, source k (n + count_bindings bs) target body w.1)
  source k n target (loop [] bs body) w = (refl, bindings_source k n bs w.0, source k (n + count_bindings bs) (Some (count_bindings bs)) body w.1)
  source k n target (loop (f ∷ fs) bs body) w = absurd w
  source k n target (seq ts) w = in_order_source k n target ts w
  source k n target (frame body) w = absurd w
  source k n target (turn names text now) w = absurd w
  source k n target (apply h ts p) w = (suited_few k target h (count_terms ts) w.0, terms_source k n ts w.1)

  pub terms_source : (k : Rules) (n : ℕ) (ts : Kernels) → WellTerms k n ts → AreSource ts
  terms_source k n none w = tt
  terms_source k n (item t ts) w = (source k n None t w.0, terms_source k n ts w.1)

  pub in_order_source : (k : Rules) (n : ℕ) (target : Option ℕ) (ts : Kernels) → WellInOrder k n target ts → AreSource ts
  in_order_source k n target none w = tt
  in_order_source k n target (item t none) w = (source k n target t w, tt)
  in_order_source k n target (item t (item u us)) w = (source k n None t w.0, in_order_source k n target (item u us) w.1)

  pub bindings_source : (k : Rules) (n : ℕ) (bs : Bindings) → WellBindings k n bs → AreSourceBindings bs
  bindings_source k n empty w = tt
  bindings_source k n (binding m t bs) w = (source k n None t w.1, bindings_source k (suc n) bs w.2)

-- its constants are as said
mutual
  pub scalars_in : (k : Rules) (n : ℕ) (target : Option ℕ) (t : Kernel) → Well k n target t → HasScalars k.scalars t
  scalars_in k n target (const v) w = constant_scalar k.scalars v w
  scalars_in k n target (var m) w = tt
  scalars_in k n target (branch c a b) w = (scalars_in k n None c w.0, scalars_in k n target a w.1, scalars_in k n target b w.2)
  scalars_in k n target (bind bs body) w = (bindings_scalars k n bs w.0, scalars_in k (n + count_bindings bs) target body w.1)
  scalars_in k n target (loop [] bs body) w = (bindings_scalars k n bs w.0, scalars_in k (n + count_bindings bs) (Some (count_bindings bs)) body w.1)
  scalars_in k n target (loop (f ∷ fs) bs body) w = absurd w
  scalars_in k n target (seq ts) w = in_order_scalars k n target ts w
  scalars_in k n target (frame body) w = absurd w
  scalars_in k n target (turn names text now) w = absurd w
  scalars_in k n target (apply h ts p) w = terms_scalars k n ts w.1

  pub terms_scalars : (k : Rules) (n : ℕ) (ts : Kernels) → WellTerms k n ts → TermsHaveScalars k.scalars ts
  terms_scalars k n none w = tt
  terms_scalars k n (item t ts) w = (scalars_in k n None t w.0, terms_scalars k n ts w.1)

  pub in_order_scalars : (k : Rules) (n : ℕ) (target : Option ℕ) (ts : Kernels) → WellInOrder k n target ts → TermsHaveScalars k.scalars ts
  in_order_scalars k n target none w = tt
  in_order_scalars k n target (item t none) w = (scalars_in k n target t w, tt)
  in_order_scalars k n target (item t (item u us)) w = (scalars_in k n None t w.0, in_order_scalars k n target (item u us) w.1)

  pub bindings_scalars : (k : Rules) (n : ℕ) (bs : Bindings) → WellBindings k n bs → BindingsHaveScalars k.scalars bs
  bindings_scalars k n empty w = tt
  bindings_scalars k n (binding m t bs) w = (scalars_in k n None t w.1, bindings_scalars k (suc n) bs w.2)

-- it binds its names anew
abbrev pub Below : ℕ → List ℕ → Type 0
Below n [] = Unit {0}
Below n (m ∷ ms) = (m < n) × Below n ms

pub below_more : (n m : ℕ) (ms : List ℕ) → n ≤ m → Below n ms → Below m ms
below_more n m [] l g = tt
below_more n m (x ∷ ms) l g = (omega (arith, l, g.0), below_more n m ms l g.1)

pub below_append : (n : ℕ) (ms ks : List ℕ) → Below n ms → Below n ks → Below n (ms ++ ks)
below_append n [] ks g h = h
below_append n (m ∷ ms) ks g h = (g.0, below_append n ms ks g.1 h)

pub is_new : (n m : ℕ) (ns : List ℕ) → m ≡ n → Below n ns → IsIn m ns → ⊥
is_new n m [] e g h = h
is_new n m (x ∷ ns) e g h = ⊎_elim (λ i. omega (arith, e, i, g.0)) (λ i. is_new n m ns e g.1 i) h

pub below_behind : (k : Rules) (n : ℕ) (bs : Bindings) (ns : List ℕ) → WellBindings k n bs → Below n ns → Below (n + count_bindings bs) (names_behind bs ns)
below_behind k n empty ns w g = subst (λ m. Below m ns) (omega arith) g
below_behind k n (binding m t bs) ns w g = subst (λ i. Below i (names_behind bs (m ∷ ns))) (omega arith)
    (below_behind k (suc n) bs (m ∷ ns) w.2 (omega (arith, w.0), below_more n (suc n) ns (omega arith) g))

mutual
  pub anew : (k : Rules) (n : ℕ) (target : Option ℕ) (t : Kernel) (ns : List ℕ) → Well k n target t → Below n ns → BindsAnew ns t
  anew k n target (const v) ns w g = tt
  anew k n target (var m) ns w g = tt
  anew k n target (branch c a b) ns w g = (anew k n None c ns w.0 g, anew k n target a ns w.1 g, anew k n target b ns w.2 g)
  anew k n target (bind bs body) ns w g = (
    bindings_anew k n bs ns w.0 g,
    anew k (n + count_bindings bs) target body (names_behind bs ns) w.1 (below_behind k n bs ns w.0 g),
  )
  anew k n target (loop [] bs body) ns w g = (
    tt,
    bindings_anew k n bs ns w.0 g,
    anew k (n + count_bindings bs) (Some (count_bindings bs)) body (names_behind bs ns) w.1 (below_behind k n bs ns w.0 g),
  )
  anew k n target (loop (f ∷ fs) bs body) ns w g = absurd w
  anew k n target (seq ts) ns w g = in_order_anew k n target ts ns w g
  anew k n target (frame body) ns w g = absurd w
  anew k n target (turn names text now) ns w g = absurd w
  anew k n target (apply h ts p) ns w g = terms_anew k n ts ns w.1 g

  pub terms_anew : (k : Rules) (n : ℕ) (ts : Kernels) (ns : List ℕ) → WellTerms k n ts → Below n ns → TermsAnew ns ts
  terms_anew k n none ns w g = tt
  terms_anew k n (item t ts) ns w g = (anew k n None t ns w.0 g, terms_anew k n ts ns w.1 g)

  pub in_order_anew : (k : Rules) (n : ℕ) (target : Option ℕ) (ts : Kernels) (ns : List ℕ) → WellInOrder k n target ts → Below n ns → TermsAnew ns ts
  in_order_anew k n target none ns w g = tt
  in_order_anew k n target (item t none) ns w g = (anew k n target t ns w g, tt)
  in_order_anew k n target (item t (item u us)) ns w g = (anew k n None t ns w.0 g, in_order_anew k n target (item u us) ns w.1 g)

  pub bindings_anew : (k : Rules) (n : ℕ) (bs : Bindings) (ns : List ℕ) → WellBindings k n bs → Below n ns → BindingsAnew ns bs
  bindings_anew k n empty ns w g = tt
  bindings_anew k n (binding m t bs) ns w g = (
    λ i. is_new n m ns w.0 g i,
    anew k n None t ns w.1 g,
    bindings_anew k (suc n) bs (m ∷ ns) w.2 (omega (arith, w.0), below_more n (suc n) ns (omega arith) g),
  )

-- each name below n in the term is one of us
abbrev mutual
  pub Only : ℕ → List ℕ → Kernel → Type 0
  Only n us (const v) = Unit {0}
  Only n us (var m) = m < n → IsIn m us
  Only n us (branch c a b) = Only n us c × Only n us a × Only n us b
  Only n us (bind bs body) = OnlyBindings n us bs × Only n us body
  Only n us (loop fs bs body) = OnlyBindings n us bs × Only n us body
  Only n us (seq ts) = OnlyTerms n us ts
  Only n us (frame body) = Unit {0}
  Only n us (turn names text now) = Unit {0}
  Only n us (apply h ts p) = OnlyTerms n us ts

  pub OnlyTerms : ℕ → List ℕ → Kernels → Type 0
  OnlyTerms n us none = Unit {0}
  OnlyTerms n us (item t ts) = Only n us t × OnlyTerms n us ts

  pub OnlyBindings : ℕ → List ℕ → Bindings → Type 0
  OnlyBindings n us empty = Unit {0}
  OnlyBindings n us (binding m t bs) = Only n us t × OnlyBindings n us bs

abbrev pub Within : List ℕ → List ℕ → Type 0
Within us vs = (m : ℕ) → IsIn m us → IsIn m vs

mutual
  pub only_more : (n : ℕ) (us vs : List ℕ) → Within us vs → (t : Kernel) → Only n us t → Only n vs t
  only_more n us vs f (const v) o = tt
  only_more n us vs f (var m) o = λ l. f m (o l)
  only_more n us vs f (branch c a b) o = (only_more n us vs f c o.0, only_more n us vs f a o.1, only_more n us vs f b o.2)
  only_more n us vs f (bind bs body) o = (only_more_bindings n us vs f bs o.0, only_more n us vs f body o.1)
  only_more n us vs f (loop fs bs body) o = (only_more_bindings n us vs f bs o.0, only_more n us vs f body o.1)
  only_more n us vs f (seq ts) o = only_more_terms n us vs f ts o
  only_more n us vs f (frame body) o = tt
  only_more n us vs f (turn names text now) o = tt
  only_more n us vs f (apply h ts p) o = only_more_terms n us vs f ts o

  pub only_more_terms : (n : ℕ) (us vs : List ℕ) → Within us vs → (ts : Kernels) → OnlyTerms n us ts → OnlyTerms n vs ts
  only_more_terms n us vs f none o = tt
  only_more_terms n us vs f (item t ts) o = (only_more n us vs f t o.0, only_more_terms n us vs f ts o.1)

  pub only_more_bindings : (n : ℕ) (us vs : List ℕ) → Within us vs → (bs : Bindings) → OnlyBindings n us bs → OnlyBindings n vs bs
  only_more_bindings n us vs f empty o = tt
  only_more_bindings n us vs f (binding m t bs) o = (only_more n us vs f t o.0, only_more_bindings n us vs f bs o.1)

pub in_left : (m : ℕ) (xs ys : List ℕ) → IsIn m xs → IsIn m (xs ++ ys)
in_left m [] ys h = absurd h
in_left m (x ∷ xs) ys h = ⊎_elim (λ e. inl e) (λ i. inr (in_left m xs ys i)) h

pub in_right : (m : ℕ) (xs ys : List ℕ) → IsIn m ys → IsIn m (xs ++ ys)
in_right m [] ys h = h
in_right m (x ∷ xs) ys h = inr (in_right m xs ys h)

pub among_in : (m : ℕ) (xs : List ℕ) → is_name_among m xs ≡ true → IsIn m xs
among_in m [] e = cc
among_in m (x ∷ xs) e = by (m == x) (eqb-true m x) (λ r. among_in m xs r) e where
  by : (b : Bool) → (b ≡ true → m ≡ x) → (is_name_among m xs ≡ true → IsIn m xs) → (b || is_name_among m xs) ≡ true → IsIn m (x ∷ xs)
  by true f r e = inl (f refl)
  by false f r e = inr (r e)

-- what was seen stays, and what is used is seen
pub noted_keeps : (n m : ℕ) (seen : List ℕ) → Within seen (name_noted n m seen)
noted_keeps n m seen x h = by (nat_lt m n && not (is_name_among m seen)) where
  by : (b : Bool) → IsIn x (cond b (seen ++ m ∷ []) seen)
  by true = in_left x seen (m ∷ []) h
  by false = h

pub noted_has : (n m : ℕ) (seen : List ℕ) → m < n → IsIn m (name_noted n m seen)
noted_has n m seen l = by (nat_lt m n) (ltb-false m n) (is_name_among m seen) (among_in m seen) where
  by : (a : Bool) → (a ≡ false → n ≤ m) → (b : Bool) → (b ≡ true → IsIn m seen) → IsIn m (cond (a && not b) (seen ++ m ∷ []) seen)
  by true f true g = g refl
  by true f false g = in_right m seen (m ∷ []) (inl refl)
  by false f b g = absurd (omega (arith, l, f refl))

mutual
  pub uses_keep : (n : ℕ) (t : Kernel) (seen : List ℕ) → Within seen (uses n t seen)
  uses_keep n (const v) seen x h = h
  uses_keep n (var m) seen x h = noted_keeps n m seen x h
  uses_keep n (branch c a b) seen x h = uses_keep n b (uses n a (uses n c seen)) x (uses_keep n a (uses n c seen) x (uses_keep n c seen x h))
  uses_keep n (bind bs body) seen x h = uses_keep n body (uses_bindings n bs seen) x (uses_bindings_keep n bs seen x h)
  uses_keep n (loop fs bs body) seen x h = uses_keep n body (uses_bindings n bs seen) x (uses_bindings_keep n bs seen x h)
  uses_keep n (seq ts) seen x h = uses_items_keep n ts seen x h
  uses_keep n (frame body) seen x h = h
  uses_keep n (turn names text now) seen x h = h
  uses_keep n (apply h ts p) seen x i = uses_items_keep n ts seen x i

  pub uses_items_keep : (n : ℕ) (ts : Kernels) (seen : List ℕ) → Within seen (uses_items n ts seen)
  uses_items_keep n none seen x h = h
  uses_items_keep n (item t ts) seen x h = uses_items_keep n ts (uses n t seen) x (uses_keep n t seen x h)

  pub uses_bindings_keep : (n : ℕ) (bs : Bindings) (seen : List ℕ) → Within seen (uses_bindings n bs seen)
  uses_bindings_keep n empty seen x h = h
  uses_bindings_keep n (binding m t bs) seen x h = uses_bindings_keep n bs (uses n t seen) x (uses_keep n t seen x h)

mutual
  pub uses_only : (n : ℕ) (t : Kernel) (seen : List ℕ) → Only n (uses n t seen) t
  uses_only n (const v) seen = tt
  uses_only n (var m) seen = λ l. noted_has n m seen l
  uses_only n (branch c a b) seen = (
    only_more n (uses n c seen) (uses n b (uses n a (uses n c seen)))
        (λ x h. uses_keep n b (uses n a (uses n c seen)) x (uses_keep n a (uses n c seen) x h)) c (uses_only n c seen),
    only_more n (uses n a (uses n c seen)) (uses n b (uses n a (uses n c seen))) (uses_keep n b (uses n a (uses n c seen))) a (uses_only n a (uses n c seen)),
    uses_only n b (uses n a (uses n c seen)),
  )
  uses_only n (bind bs body) seen = (
    only_more_bindings n (uses_bindings n bs seen) (uses n body (uses_bindings n bs seen)) (uses_keep n body (uses_bindings n bs seen)) bs (uses_bindings_only n bs seen),
    uses_only n body (uses_bindings n bs seen),
  )
  uses_only n (loop fs bs body) seen = (
    only_more_bindings n (uses_bindings n bs seen) (uses n body (uses_bindings n bs seen)) (uses_keep n body (uses_bindings n bs seen)) bs (uses_bindings_only n bs seen),
    uses_only n body (uses_bindings n bs seen),
  )
  uses_only n (seq ts) seen = uses_items_only n ts seen
  uses_only n (frame body) seen = tt
  uses_only n (turn names text now) seen = tt
  uses_only n (apply h ts p) seen = uses_items_only n ts seen

  pub uses_items_only : (n : ℕ) (ts : Kernels) (seen : List ℕ) → OnlyTerms n (uses_items n ts seen) ts
  uses_items_only n none seen = tt
  uses_items_only n (item t ts) seen =
      (only_more n (uses n t seen) (uses_items n ts (uses n t seen)) (uses_items_keep n ts (uses n t seen)) t (uses_only n t seen), uses_items_only n ts (uses n t seen))

  pub uses_bindings_only : (n : ℕ) (bs : Bindings) (seen : List ℕ) → OnlyBindings n (uses_bindings n bs seen) bs
  uses_bindings_only n empty seen = tt
  uses_bindings_only n (binding m t bs) seen =
      (only_more n (uses n t seen) (uses_bindings n bs (uses n t seen)) (uses_bindings_keep n bs (uses n t seen)) t (uses_only n t seen), uses_bindings_only n bs (uses n t seen))

-- what is used is below
pub noted_below : (n m : ℕ) (seen : List ℕ) → Below n seen → Below n (name_noted n m seen)
noted_below n m seen g = by (nat_lt m n) (is_name_among m seen) (ltb-true m n) where
  by : (a b : Bool) → (a ≡ true → m < n) → Below n (cond (a && not b) (seen ++ m ∷ []) seen)
  by false b f = g
  by true true f = g
  by true false f = below_append n seen (m ∷ []) g (f refl, tt)

mutual
  pub uses_below : (n : ℕ) (t : Kernel) (seen : List ℕ) → Below n seen → Below n (uses n t seen)
  uses_below n (const v) seen g = g
  uses_below n (var m) seen g = noted_below n m seen g
  uses_below n (branch c a b) seen g = uses_below n b (uses n a (uses n c seen)) (uses_below n a (uses n c seen) (uses_below n c seen g))
  uses_below n (bind bs body) seen g = uses_below n body (uses_bindings n bs seen) (uses_bindings_below n bs seen g)
  uses_below n (loop fs bs body) seen g = uses_below n body (uses_bindings n bs seen) (uses_bindings_below n bs seen g)
  uses_below n (seq ts) seen g = uses_items_below n ts seen g
  uses_below n (frame body) seen g = g
  uses_below n (turn names text now) seen g = g
  uses_below n (apply h ts p) seen g = uses_items_below n ts seen g

  pub uses_items_below : (n : ℕ) (ts : Kernels) (seen : List ℕ) → Below n seen → Below n (uses_items n ts seen)
  uses_items_below n none seen g = g
  uses_items_below n (item t ts) seen g = uses_items_below n ts (uses n t seen) (uses_below n t seen g)

  pub uses_bindings_below : (n : ℕ) (bs : Bindings) (seen : List ℕ) → Below n seen → Below n (uses_bindings n bs seen)
  uses_bindings_below n empty seen g = g
  uses_bindings_below n (binding m t bs) seen g = uses_bindings_below n bs (uses n t seen) (uses_below n t seen g)

-- in a scope of n names the list names all of us, and all from base on
abbrev pub Covers : ℕ → List ℕ → ℕ → List ℕ → Type 0
Covers base us n ns = Within us ns × ((m : ℕ) → base ≤ m → m < n → IsIn m ns)

pub covers_next : (base : ℕ) (us : List ℕ) (n m : ℕ) (ns : List ℕ) → m ≡ n → Covers base us n ns → Covers base us (suc n) (m ∷ ns)
covers_next base us n m ns e c = (λ x h. inr (c.0 x h), λ x l u. ⊎_elim (λ b. inr (c.1 x l b)) (λ b. inl (omega (arith, e, u, b))) (cases_lt x n))

pub covers_behind : (k : Rules) (base : ℕ) (us : List ℕ) (n : ℕ) (bs : Bindings) (ns : List ℕ) → WellBindings k n bs → Covers base us n ns
    → Covers base us (n + count_bindings bs) (names_behind bs ns)
covers_behind k base us n empty ns w c = subst (λ m. Covers base us m ns) (omega arith) c
covers_behind k base us n (binding m t bs) ns w c = subst (λ i. Covers base us i (names_behind bs (m ∷ ns))) (omega arith)
    (covers_behind k base us (suc n) bs (m ∷ ns) w.2 (covers_next base us n m ns w.0 c))

-- each name is bound
mutual
  pub closed : (k : Rules) (base : ℕ) (us : List ℕ) (n : ℕ) (target : Option ℕ) (t : Kernel) (ns : List ℕ)
      → Well k n target t → Only base us t → Covers base us n ns → IsClosed ns t
  closed k base us n target (const v) ns w o c = tt
  closed k base us n target (var m) ns w o c = ⊎_elim (λ l. c.0 m (o l)) (λ l. c.1 m l w) (cases_lt m base)
  closed k base us n target (branch t a b) ns w o c = (closed k base us n None t ns w.0 o.0 c, closed k base us n target a ns w.1 o.1 c, closed k base us n target b ns w.2 o.2 c)
  closed k base us n target (bind bs body) ns w o c = (
    bindings_closed k base us n bs ns w.0 o.0 c,
    closed k base us (n + count_bindings bs) target body (names_behind bs ns) w.1 o.1 (covers_behind k base us n bs ns w.0 c),
  )
  closed k base us n target (loop [] bs body) ns w o c = (
    bindings_closed k base us n bs ns w.0 o.0 c,
    closed k base us (n + count_bindings bs) (Some (count_bindings bs)) body (names_behind bs ns) w.1 o.1 (covers_behind k base us n bs ns w.0 c),
  )
  closed k base us n target (loop (f ∷ fs) bs body) ns w o c = absurd w
  closed k base us n target (seq ts) ns w o c = in_order_closed k base us n target ts ns w o c
  closed k base us n target (frame body) ns w o c = absurd w
  closed k base us n target (turn names text now) ns w o c = absurd w
  closed k base us n target (apply h ts p) ns w o c = terms_closed k base us n ts ns w.1 o c

  pub terms_closed : (k : Rules) (base : ℕ) (us : List ℕ) (n : ℕ) (ts : Kernels) (ns : List ℕ)
      → WellTerms k n ts → OnlyTerms base us ts → Covers base us n ns → AreClosed ns ts
  terms_closed k base us n none ns w o c = tt
  terms_closed k base us n (item t ts) ns w o c = (closed k base us n None t ns w.0 o.0 c, terms_closed k base us n ts ns w.1 o.1 c)

  pub in_order_closed : (k : Rules) (base : ℕ) (us : List ℕ) (n : ℕ) (target : Option ℕ) (ts : Kernels) (ns : List ℕ)
      → WellInOrder k n target ts → OnlyTerms base us ts → Covers base us n ns → AreClosed ns ts
  in_order_closed k base us n target none ns w o c = tt
  in_order_closed k base us n target (item t none) ns w o c = (closed k base us n target t ns w o.0 c, tt)
  in_order_closed k base us n target (item t (item u us2)) ns w o c = (closed k base us n None t ns w.0 o.0 c, in_order_closed k base us n target (item u us2) ns w.1 o.1 c)

  pub bindings_closed : (k : Rules) (base : ℕ) (us : List ℕ) (n : ℕ) (bs : Bindings) (ns : List ℕ)
      → WellBindings k n bs → OnlyBindings base us bs → Covers base us n ns → AreClosedBindings ns bs
  bindings_closed k base us n empty ns w o c = tt
  bindings_closed k base us n (binding m t bs) ns w o c = (
    closed k base us n None t ns w.1 o.0 c,
    bindings_closed k base us (suc n) bs (m ∷ ns) w.2 o.1 (covers_next base us n m ns w.0 c),
  )

-- the test for plain terms says what it should, also where more functions are plain
abbrev pub Implies : (ℕ → Bool) → (ℕ → Bool) → Type 0
Implies plain more = (n : ℕ) → plain n ≡ true → more n ≡ true

pub plain_head : (plain more : ℕ → Bool) → Implies plain more → (h : Head) → is_plain_head plain h ≡ true → IsPlainHead more h
plain_head plain more f Recur e = tt
plain_head plain more f (Builtin b) e = tt
plain_head plain more f (Call n) e = f n e
plain_head plain more f Take e = cc
plain_head plain more f Put e = cc
plain_head plain more f (Alts o) e = cc
plain_head plain more f (Make m) e = cc
plain_head plain more f (Spawn m) e = cc
plain_head plain more f Close e = cc
plain_head plain more f (Register m) e = cc
plain_head plain more f Print e = cc
plain_head plain more f Post e = cc

mutual
  pub plain_term : (plain more : ℕ → Bool) → Implies plain more → (t : Kernel) → is_plain plain t ≡ true → IsPlain more t
  plain_term plain more f (const v) e = tt
  plain_term plain more f (var n) e = tt
  plain_term plain more f (branch c a b) e =
      let x : ((is_plain plain c && is_plain plain a) ≡ true) × (is_plain plain b ≡ true) = and_parts (is_plain plain c && is_plain plain a) (is_plain plain b) e in
      let y : (is_plain plain c ≡ true) × (is_plain plain a ≡ true) = and_parts (is_plain plain c) (is_plain plain a) x.0 in
      (plain_term plain more f c y.0, plain_term plain more f a y.1, plain_term plain more f b x.1)
  plain_term plain more f (bind bs body) e =
      let x : (are_plain_bindings plain bs ≡ true) × (is_plain plain body ≡ true) = and_parts (are_plain_bindings plain bs) (is_plain plain body) e in
      (plain_bindings plain more f bs x.0, plain_term plain more f body x.1)
  plain_term plain more f (loop fs bs body) e =
      let x : (are_plain_bindings plain bs ≡ true) × (is_plain plain body ≡ true) = and_parts (are_plain_bindings plain bs) (is_plain plain body) e in
      (plain_bindings plain more f bs x.0, plain_term plain more f body x.1)
  plain_term plain more f (seq ts) e = plain_terms plain more f ts e
  plain_term plain more f (frame body) e = plain_term plain more f body e
  plain_term plain more f (turn names text now) e =
      let x : (is_plain plain text ≡ true) × (is_plain plain now ≡ true) = and_parts (is_plain plain text) (is_plain plain now) e in
      (plain_term plain more f text x.0, plain_term plain more f now x.1)
  plain_term plain more f (apply h ts p) e =
      let x : (is_plain_head plain h ≡ true) × (are_plain plain ts ≡ true) = and_parts (is_plain_head plain h) (are_plain plain ts) e in
      (plain_head plain more f h x.0, plain_terms plain more f ts x.1)

  pub plain_terms : (plain more : ℕ → Bool) → Implies plain more → (ts : Kernels) → are_plain plain ts ≡ true → ArePlain more ts
  plain_terms plain more f none e = tt
  plain_terms plain more f (item t ts) e =
      let x : (is_plain plain t ≡ true) × (are_plain plain ts ≡ true) = and_parts (is_plain plain t) (are_plain plain ts) e in
      (plain_term plain more f t x.0, plain_terms plain more f ts x.1)

  pub plain_bindings : (plain more : ℕ → Bool) → Implies plain more → (bs : Bindings) → are_plain_bindings plain bs ≡ true → ArePlainBindings more bs
  plain_bindings plain more f empty e = tt
  plain_bindings plain more f (binding n t bs) e =
      let x : (is_plain plain t ≡ true) × (are_plain_bindings plain bs ≡ true) = and_parts (is_plain plain t) (are_plain_bindings plain bs) e in
      (plain_term plain more f t x.0, plain_bindings plain more f bs x.1)

-- what a term uses comes behind what was seen
abbrev pub Extends : List ℕ → List ℕ → Type 0
Extends seen out = (extra : List ℕ) × (out ≡ seen ++ extra)

pub extends_on : (a b c : List ℕ) → Extends a b → Extends b c → Extends a c
extends_on a b c x y = (x.0 ++ y.0, y.1 ∙ ap (λ (l : List ℕ). l ++ y.0) x.1 ∙ append_assoc a x.0 y.0)

pub noted_extends : (n m : ℕ) (seen : List ℕ) → Extends seen (name_noted n m seen)
noted_extends n m seen = by (nat_lt m n && not (is_name_among m seen)) where
  by : (b : Bool) → Extends seen (cond b (seen ++ m ∷ []) seen)
  by true = (m ∷ [], refl)
  by false = ([], sym (append-nil seen))

mutual
  pub uses_extends : (n : ℕ) (t : Kernel) (seen : List ℕ) → Extends seen (uses n t seen)
  uses_extends n (const v) seen = ([], sym (append-nil seen))
  uses_extends n (var m) seen = noted_extends n m seen
  uses_extends n (branch c a b) seen = extends_on seen (uses n a (uses n c seen)) (uses n b (uses n a (uses n c seen)))
      (extends_on seen (uses n c seen) (uses n a (uses n c seen)) (uses_extends n c seen) (uses_extends n a (uses n c seen))) (uses_extends n b (uses n a (uses n c seen)))
  uses_extends n (bind bs body) seen = extends_on seen (uses_bindings n bs seen) (uses n body (uses_bindings n bs seen)) (uses_bindings_extend n bs seen) (uses_extends n body (uses_bindings n bs seen))
  uses_extends n (loop fs bs body) seen = extends_on seen (uses_bindings n bs seen) (uses n body (uses_bindings n bs seen)) (uses_bindings_extend n bs seen) (uses_extends n body (uses_bindings n bs seen))
  uses_extends n (seq ts) seen = uses_items_extend n ts seen
  uses_extends n (frame body) seen = ([], sym (append-nil seen))
  uses_extends n (turn names text now) seen = ([], sym (append-nil seen))
  uses_extends n (apply h ts p) seen = uses_items_extend n ts seen

  pub uses_items_extend : (n : ℕ) (ts : Kernels) (seen : List ℕ) → Extends seen (uses_items n ts seen)
  uses_items_extend n none seen = ([], sym (append-nil seen))
  uses_items_extend n (item t ts) seen = extends_on seen (uses n t seen) (uses_items n ts (uses n t seen)) (uses_extends n t seen) (uses_items_extend n ts (uses n t seen))

  pub uses_bindings_extend : (n : ℕ) (bs : Bindings) (seen : List ℕ) → Extends seen (uses_bindings n bs seen)
  uses_bindings_extend n empty seen = ([], sym (append-nil seen))
  uses_bindings_extend n (binding m t bs) seen = extends_on seen (uses n t seen) (uses_bindings n bs (uses n t seen)) (uses_extends n t seen) (uses_bindings_extend n bs (uses n t seen))

-- a list that is extended and not longer is the same
pub extended_same : (seen out : List ℕ) → Extends seen out → length out ≡ length seen → out ≡ seen
extended_same seen out x e = by x.0 x.1 where
  by : (extra : List ℕ) → out ≡ seen ++ extra → out ≡ seen
  by [] f = f ∙ append-nil seen
  by (y ∷ ys) f = absurd (omega (arith, e, ap length f, length-append seen (y ∷ ys)))
