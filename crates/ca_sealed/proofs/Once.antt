-- A tidy term starts each of the tasks that use a port alone at most once for each name.
use Rattle.std.proofs.Common.{inl, inr, ℕ, zero, suc, ◌+◌, List, [], ◌∷◌, refl}
use Rattle.ca_term.specs.Kernel.{Kernel, Kernels, Bindings, const, var, branch, bind, loop, seq, frame, turn, apply, none, item, empty, binding}
use Rattle.ca_term.specs.Fits.{count_bindings}
use Rattle.ca_roles.specs.Roles.{public, Roles, no_roles, known_as}
use Rattle.ca_roles.specs.Sealed.{Sealed, SealedBindings, SealedInits}
use Rattle.ca_roles.specs.Once.{UsesOnce, AllOnce, BindOnce, InitsOnce}
use Rattle.ca_roles.proofs.Unused.{public_once}
use Rattle.ca_sealed.proofs.Used.{Only, OnlyTerms, OnlyBindings}
use Rattle.ca_sealed.proofs.Tidy.{behind, Tidy, TidyTerms, TidyBindings, TidyFirst}
use Rattle.ca_sealed.proofs.Scopes.{Stands, here}
use Rattle.ca_sealed.proofs.Secrets.{IsBehind, secret_sealed}
use Rattle.ca_sealed.proofs.SecretsOnce.{secret_body, secret_once}
use Rattle.ca_sealed.proofs.Sealing.{SealedFirst, first_then, inits_bindings, Passed, Begun, only_behind, stands_at, sealed, sealed_inits, sealed_first}

-- public names are used by none of these tasks
pub inits_once : (bs : Bindings) (body : Kernel) (scope inner : Roles) → InitsOnce bs → SealedInits 0 no_roles bs scope inner → Sealed 0 no_roles body inner → BindOnce bs body
inits_once empty body scope inner i h b = tt
inits_once (binding m t bs) body scope inner i h b = (
  public_once 0 no_roles (known_as scope m public) inner m bs body (here scope m m public refl) (inits_bindings 0 bs (known_as scope m public) inner h.2) b,
  i.0,
  inits_once bs body (known_as scope m public) inner i.1 h.2 b,
)

-- the first bindings, so many of them
abbrev pub FirstOnce : Bindings → ℕ → Type 0
FirstOnce bs zero = Unit {0}
FirstOnce empty (suc i) = Unit {0}
FirstOnce (binding m t bs) (suc i) = UsesOnce t × FirstOnce bs i

pub first_once : (bs : Bindings) (i : ℕ) (body : Kernel) (scope mid inner : Roles) → FirstOnce bs i → SealedFirst 0 bs i scope mid → SealedBindings 0 no_roles (behind i bs) mid inner
    → Sealed 0 no_roles body inner → BindOnce (behind i bs) body → BindOnce bs body
first_once bs zero body scope mid inner f s h b o = o
first_once empty (suc i) body scope mid inner f s h b o = o
first_once (binding m t bs) (suc i) body scope mid inner f s h b o = (
  public_once 0 no_roles (known_as scope m public) inner m bs body (here scope m m public refl) (first_then 0 bs i (known_as scope m public) mid inner s.2 h) b,
  f.0,
  first_once bs i body (known_as scope m public) mid inner f.1 s.2 h b o,
)

module _ (base : ℕ) (us : List ℕ) where
  mutual
    pub once : (n : ℕ) (t : Kernel) → Tidy n t → Only base us t → (scope : Roles) → Stands base us n scope → UsesOnce t
    once n (const v) w o scope s = tt
    once n (var m) w o scope s = tt
    once n (branch c a b) w o scope s = (once n c w.0 o.0 scope s, once n a w.1 o.1 scope s, once n b w.2 o.2 scope s)
    once n (bind bs body) (inl w) o scope s =
        let x : Passed 0 base us n bs scope = sealed_inits 0 base us n bs w.0 o.0 scope s in (
          inits_once bs body scope x.0 (once_inits n bs w.0 o.0 scope s) x.1 (sealed 0 base us (n + count_bindings bs) body w.1 o.1 x.0 x.2),
          once (n + count_bindings bs) body w.1 o.1 x.0 x.2,
        )
    once n (bind bs body) (inr w) o scope s =
        let x : Begun 0 base us n bs w.0 scope = sealed_first 0 base us n bs w.0 w.1 o.0 scope s in
        let y : IsBehind 0 base us (behind w.0 bs) body x.0 = secret_sealed 0 base us w.2 x.0 x.2 (only_behind 0 base us w.0 bs o.0) o.1 in
        (first_once bs w.0 body scope x.0 y.0 (once_first n bs w.0 w.1 o.0 scope s) x.1 y.1 y.2 (secret_once w.2), secret_body w.2)
    once n (loop [] bs body) w o scope s =
        let x : Passed 0 base us n bs scope = sealed_inits 0 base us n bs w.0 o.0 scope s in
        (once_inits n bs w.0 o.0 scope s, once (n + count_bindings bs) body w.1 o.1 x.0 x.2)
    once n (loop (f ∷ fs) bs body) w o scope s = absurd w
    once n (seq ts) w o scope s = once_terms n ts w o scope s
    once n (frame body) w o scope s = absurd w
    once n (turn names text now) w o scope s = absurd w
    once n (apply h ts p) w o scope s = once_terms n ts w.1 o scope s

    pub once_terms : (n : ℕ) (ts : Kernels) → TidyTerms n ts → OnlyTerms base us ts → (scope : Roles) → Stands base us n scope → AllOnce ts
    once_terms n none w o scope s = tt
    once_terms n (item t ts) w o scope s = (once n t w.0 o.0 scope s, once_terms n ts w.1 o.1 scope s)

    pub once_inits : (n : ℕ) (bs : Bindings) → TidyBindings n bs → OnlyBindings base us bs → (scope : Roles) → Stands base us n scope → InitsOnce bs
    once_inits n empty w o scope s = tt
    once_inits n (binding m t bs) w o scope s = (once n t w.1 o.0 scope s, once_inits (suc n) bs w.2 o.1 (known_as scope m public) (stands_at 0 base us n m scope w.0 s))

    pub once_first : (n : ℕ) (bs : Bindings) (i : ℕ) → TidyFirst n bs i → OnlyBindings base us bs → (scope : Roles) → Stands base us n scope → FirstOnce bs i
    once_first n bs zero w o scope s = tt
    once_first n empty (suc i) w o scope s = tt
    once_first n (binding m t bs) (suc i) w o scope s = (once n t w.1 o.0 scope s, once_first (suc n) bs i w.2 o.1 (known_as scope m public) (stands_at 0 base us n m scope w.0 s))
