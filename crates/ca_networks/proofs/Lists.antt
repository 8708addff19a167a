-- Lists of tasks, of which some are still pending.
use Rattle.std.proofs.Common.{◌≡◌, ◌⊎◌, inl, inr, ℕ, suc, List, [], ◌∷◌, ◌++◌, length, refl, sym, ap, ◌∙◌, subst, Bool, true, false, cond, eqb, eqb-true, eq-eqb}
use Rattle.ca_meaning.specs.Wait.{is_among}
use Rattle.ca_meaning.specs.Sound.{Each}
use Rattle.ca_networks.specs.Networks.{AllNew, EachFor}

pub among_first : (u : ℕ) (us vs : List ℕ) → is_among u us ≡ true → is_among u (us ++ vs) ≡ true
among_first u [] vs e = absurd (let k : false ≡ true = e in cc)
among_first u (w ∷ us) vs e = by (eqb u w) e (λ k. among_first u us vs k) where
  by : (b : Bool) → cond b true (is_among u us) ≡ true → (is_among u us ≡ true → is_among u (us ++ vs) ≡ true) → cond b true (is_among u (us ++ vs)) ≡ true
  by true e f = refl
  by false e f = f e

pub among_last : (u : ℕ) (us : List ℕ) → is_among u (us ++ u ∷ []) ≡ true
among_last u [] = ap (λ b. cond b true false) (eq-eqb u u refl)
among_last u (w ∷ us) = by (eqb u w) (among_last u us) where
  by : (b : Bool) → is_among u (us ++ u ∷ []) ≡ true → cond b true (is_among u (us ++ u ∷ [])) ≡ true
  by true k = refl
  by false k = k

pub length_last : (us : List ℕ) (u : ℕ) → length (us ++ u ∷ []) ≡ suc (length us)
length_last [] u = refl
length_last (w ∷ us) u = ap suc (length_last us u)

pub each_among : (P : ℕ → Type 0) (us : List ℕ) (u : ℕ) → Each P us → is_among u us ≡ true → P u
each_among P [] u a e = absurd (let k : false ≡ true = e in cc)
each_among P (w ∷ us) u a e = by (eqb u w) refl e (λ k. each_among P us u a.1 k) where
  by : (b : Bool) → eqb u w ≡ b → cond b true (is_among u us) ≡ true → (is_among u us ≡ true → P u) → P u
  by true i e f = subst P (sym (eqb-true u w i)) a.0
  by false i e f = f e

pub each_to : (P Q : ℕ → Type 0) (us : List ℕ) → ((u : ℕ) → P u → Q u) → Each P us → Each Q us
each_to P Q [] f a = tt
each_to P Q (u ∷ us) f a = (f u a.0, each_to P Q us f a.1)

pub each_and : (P : ℕ → Type 0) (us : List ℕ) (u : ℕ) → Each P us → P u → Each P (us ++ u ∷ [])
each_and P [] u a p = (p, tt)
each_and P (w ∷ us) u a p = (a.0, each_and P us u a.1 p)

-- without its first u
abbrev pub less : ℕ → List ℕ → List ℕ
less u [] = []
less u (w ∷ us) = cond (eqb u w) us (w ∷ less u us)

pub less_length : (u : ℕ) (us : List ℕ) → is_among u us ≡ true → length us ≡ suc (length (less u us))
less_length u [] e = absurd (let k : false ≡ true = e in cc)
less_length u (w ∷ us) e = by (eqb u w) e (λ k. less_length u us k) where
  by : (b : Bool) → cond b true (is_among u us) ≡ true → (is_among u us ≡ true → length us ≡ suc (length (less u us))) → suc (length us) ≡ suc (length (cond b us (w ∷ less u us)))
  by true e f = refl
  by false e f = ap suc (f e)

pub less_among : (u : ℕ) (us : List ℕ) (v : ℕ) → is_among v us ≡ true → (v ≡ u) ⊎ (is_among v (less u us) ≡ true)
less_among u [] v e = absurd (let k : false ≡ true = e in cc)
less_among u (w ∷ us) v e = by (eqb u w) (eqb v w) refl refl e (λ k. less_among u us v k) where
  by : (b c : Bool) → eqb u w ≡ b → eqb v w ≡ c → cond c true (is_among v us) ≡ true → (is_among v us ≡ true → (v ≡ u) ⊎ (is_among v (less u us) ≡ true)) → (v ≡ u) ⊎ (is_among v (cond b us (w ∷ less u us)) ≡ true)
  by true true i j e f = inl (eqb-true v w j ∙ sym (eqb-true u w i))
  by true false i j e f = inr e
  by false true i j e f = inr (ap (λ z. cond z true (is_among v (less u us))) j)
  by false false i j e f = subst (λ z. (v ≡ u) ⊎ (cond z true (is_among v (less u us)) ≡ true)) (sym j) (f e)

pub no_one : (us : List ℕ) → length us ≡ 0 → us ≡ []
no_one [] e = refl
no_one (u ∷ us) e = absurd (let k : suc (length us) ≡ 0 = e in cc)

-- one by one
pub for_to : {A B : Type 0} (P Q : A → B → Type 0) (ts : List A) (us : List B) → ((x : A) (u : B) → P x u → Q x u) → EachFor P ts us → EachFor Q ts us
for_to P Q [] [] f a = tt
for_to P Q (t ∷ ts) (u ∷ us) f a = (f t u a.0, for_to P Q ts us f a.1)
for_to P Q [] (u ∷ us) f a = absurd a
for_to P Q (t ∷ ts) [] f a = absurd a

pub for_and : {A B : Type 0} (P : A → B → Type 0) (ts : List A) (us : List B) (t : A) (u : B) → EachFor P ts us → P t u → EachFor P (ts ++ t ∷ []) (us ++ u ∷ [])
for_and P [] [] t u a p = (p, tt)
for_and P (s ∷ ts) (w ∷ us) t u a p = (a.0, for_and P ts us t u a.1 p)
for_and P [] (w ∷ us) t u a p = absurd a
for_and P (s ∷ ts) [] t u a p = absurd a

-- all different
not_last : (w u : ℕ) (us : List ℕ) → eqb w u ≡ false → is_among w us ≡ false → is_among w (us ++ u ∷ []) ≡ false
not_last w u [] ne e = ap (λ b. cond b true false) ne
not_last w u (v ∷ us) ne e = by (eqb w v) e (λ k. not_last w u us ne k) where
  by : (b : Bool) → cond b true (is_among w us) ≡ false → (is_among w us ≡ false → is_among w (us ++ u ∷ []) ≡ false) → cond b true (is_among w (us ++ u ∷ [])) ≡ false
  by true e f = absurd (let k : true ≡ false = e in cc)
  by false e f = f e

pub new_last : (us : List ℕ) (u : ℕ) → Each (λ w. eqb w u ≡ false) us → AllNew us → AllNew (us ++ u ∷ [])
new_last [] u ne a = (refl, tt)
new_last (w ∷ us) u ne a = (not_last w u us ne.0 a.0, new_last us u ne.1 a.1)

pub new_behind : (us vs : List ℕ) → AllNew (us ++ vs) → AllNew vs
new_behind [] vs a = a
new_behind (u ∷ us) vs a = new_behind us vs a.1
