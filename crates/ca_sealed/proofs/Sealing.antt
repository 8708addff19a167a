-- A tidy term is sealed.
use Rattle.std.proofs.Common.{◌≡◌, inl, inr, ℕ, zero, suc, ◌+◌, List, [], ◌∷◌, refl, sym, subst, arith, None}
use Rattle.ca_term.specs.Kernel.{Kernel, Kernels, Bindings, const, var, branch, bind, loop, seq, frame, turn, apply, none, item, empty, binding}
use Rattle.ca_term.specs.Fits.{count_bindings}
use Rattle.ca_roles.specs.Roles.{public, Roles, no_roles, known_as}
use Rattle.ca_roles.specs.Sealed.{plain, Sealed, AllSealed, SealedBindings, SealedInits}
use Rattle.ca_sealed.proofs.Used.{Only, OnlyTerms, OnlyBindings}
use Rattle.ca_sealed.proofs.Tidy.{behind, Tidy, TidyTerms, TidyBindings, TidyFirst}
use Rattle.ca_sealed.proofs.Scopes.{Stands, stands_next}
use Rattle.ca_sealed.proofs.Secrets.{IsBehind, secret_sealed}

module _ (me : ℕ) where
  -- the first bindings, so many of them, are public, and mid is the scope behind them
  abbrev pub SealedFirst : Bindings → ℕ → Roles → Roles → Type 0
  SealedFirst bs zero scope mid = mid ≡ scope
  SealedFirst empty (suc i) scope mid = ⊥
  SealedFirst (binding m t bs) (suc i) scope mid = Sealed me no_roles t scope × (scope m ≡ None) × SealedFirst bs i (known_as scope m public) mid

  -- then the others
  pub first_then : (bs : Bindings) (i : ℕ) (scope mid inner : Roles) → SealedFirst bs i scope mid → SealedBindings me no_roles (behind i bs) mid inner → SealedBindings me no_roles bs scope inner
  first_then bs zero scope mid inner f b = subst (λ z. SealedBindings me no_roles bs z inner) f b
  first_then empty (suc i) scope mid inner f b = absurd f
  first_then (binding m t bs) (suc i) scope mid inner f b = (public, f.0, f.1, first_then bs i (known_as scope m public) mid inner f.2 b)

  -- all of them are public
  pub inits_bindings : (bs : Bindings) (scope inner : Roles) → SealedInits me no_roles bs scope inner → SealedBindings me no_roles bs scope inner
  inits_bindings empty scope inner h = h
  inits_bindings (binding m t bs) scope inner h = (public, h.0, h.1, inits_bindings bs (known_as scope m public) inner h.2)

module _ (me base : ℕ) (us : List ℕ) where
  -- the scope behind the bindings
  abbrev pub Passed : ℕ → Bindings → Roles → Type 0
  Passed n bs scope = (inner : Roles) × SealedInits me no_roles bs scope inner × Stands base us (n + count_bindings bs) inner

  -- the scope behind so many of them
  abbrev pub Begun : ℕ → Bindings → ℕ → Roles → Type 0
  Begun n bs i scope = (mid : Roles) × SealedFirst me bs i scope mid × Stands base us (n + i) mid

  pub only_behind : (i : ℕ) (bs : Bindings) → OnlyBindings base us bs → OnlyBindings base us (behind i bs)
  only_behind zero bs o = o
  only_behind (suc i) empty o = o
  only_behind (suc i) (binding m t bs) o = only_behind i bs o.1

  pub stands_at : (n m : ℕ) (scope : Roles) → m ≡ n → Stands base us n scope → Stands base us (suc n) (known_as scope m public)
  stands_at n m scope e s = subst (λ k. Stands base us (suc n) (known_as scope k public)) (sym e) (stands_next base us n scope s)

  mutual
    pub sealed : (n : ℕ) (t : Kernel) → Tidy n t → Only base us t → (scope : Roles) → Stands base us n scope → Sealed me no_roles t scope
    sealed n (const v) w o scope s = w
    sealed n (var m) w o scope s = s.0 m w o
    sealed n (branch c a b) w o scope s = (sealed n c w.0 o.0 scope s, sealed n a w.1 o.1 scope s, sealed n b w.2 o.2 scope s)
    sealed n (bind bs body) (inl w) o scope s =
        let x : Passed n bs scope = sealed_inits n bs w.0 o.0 scope s in
        (x.0, inits_bindings me bs scope x.0 x.1, sealed (n + count_bindings bs) body w.1 o.1 x.0 x.2)
    sealed n (bind bs body) (inr w) o scope s =
        let x : Begun n bs w.0 scope = sealed_first n bs w.0 w.1 o.0 scope s in
        let y : IsBehind me base us (behind w.0 bs) body x.0 = secret_sealed me base us w.2 x.0 x.2 (only_behind w.0 bs o.0) o.1 in
        (y.0, first_then me bs w.0 scope x.0 y.0 x.1 y.1, y.2)
    sealed n (loop [] bs body) w o scope s =
        let x : Passed n bs scope = sealed_inits n bs w.0 o.0 scope s in
        (x.0, x.0, x.1, refl, sealed (n + count_bindings bs) body w.1 o.1 x.0 x.2)
    sealed n (loop (f ∷ fs) bs body) w o scope s = absurd w
    sealed n (seq ts) w o scope s = sealed_terms n ts w o scope s
    sealed n (frame body) w o scope s = absurd w
    sealed n (turn names text now) w o scope s = absurd w
    sealed n (apply h ts p) w o scope s = ([], plain w.0, sealed_terms n ts w.1 o scope s)

    pub sealed_terms : (n : ℕ) (ts : Kernels) → TidyTerms n ts → OnlyTerms base us ts → (scope : Roles) → Stands base us n scope → AllSealed me no_roles [] ts scope
    sealed_terms n none w o scope s = tt
    sealed_terms n (item t ts) w o scope s = (sealed n t w.0 o.0 scope s, sealed_terms n ts w.1 o.1 scope s)

    pub sealed_inits : (n : ℕ) (bs : Bindings) → TidyBindings n bs → OnlyBindings base us bs → (scope : Roles) → Stands base us n scope → Passed n bs scope
    sealed_inits n empty w o scope s = (scope, refl, subst (λ k. Stands base us k scope) (omega arith) s)
    sealed_inits n (binding m t bs) w o scope s =
        let x : Passed (suc n) bs (known_as scope m public) = sealed_inits (suc n) bs w.2 o.1 (known_as scope m public) (stands_at n m scope w.0 s) in
        (x.0, (sealed n t w.1 o.0 scope s, s.1 m (omega (arith, w.0)), x.1), subst (λ k. Stands base us k x.0) (omega arith) x.2)

    pub sealed_first : (n : ℕ) (bs : Bindings) (i : ℕ) → TidyFirst n bs i → OnlyBindings base us bs → (scope : Roles) → Stands base us n scope → Begun n bs i scope
    sealed_first n bs zero w o scope s = (scope, refl, subst (λ k. Stands base us k scope) (omega arith) s)
    sealed_first n empty (suc i) w o scope s = absurd w
    sealed_first n (binding m t bs) (suc i) w o scope s =
        let x : Begun (suc n) bs i (known_as scope m public) = sealed_first (suc n) bs i w.2 o.1 (known_as scope m public) (stands_at n m scope w.0 s) in
        (x.0, (sealed n t w.1 o.0 scope s, s.1 m (omega (arith, w.0)), x.1), subst (λ k. Stands base us k x.0) (omega arith) x.2)
