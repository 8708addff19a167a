-- A name in scope isn't bound again by a sealed term, nor where values are put into it.
use Rattle.std.proofs.Common.{◌≡◌, ◌≢◌, inl, inr, ℕ, List, [], ◌∷◌, refl, sym, ap, ◌∙◌, subst, Bool, true, false, cond, ◌==◌, eqb, Some, None}
use Rattle.std.proofs.lemmas.Map.{update_here, update_apart}
use Rattle.ca_value.specs.Tree.{Tree}
use Rattle.ca_term.specs.Kernel.{Kernel, Kernels, Bindings, const, var, branch, bind, loop, seq, frame, turn, apply, none, item, empty, binding, put, put_items, put_bindings}
use Rattle.ca_meaning.specs.Sound.{Each}
use Rattle.ca_meaning.proofs.Waits.{each-weaker}
use Rattle.ca_roles.specs.Roles.{Role, public, hidden, Roles, known_as}
use Rattle.ca_roles.specs.Sealed.{IsNamed, IsHiddenBound, Sealed, AllSealed, SealedBindings, SealedInits, SealedFounds, all_public}
use Rattle.ca_roles.proofs.Counted.{Unbound, AllUnbound, UnboundIn}

module _ (me : ℕ) (roles : Roles) (m : ℕ) (role : Role) where
  fresh_ne : (s : Roles) (n : ℕ) → s m ≡ Some role → s n ≡ None → n ≢ m
  fresh_ne s n at free e = let j : None ≡ Some role = sym free ∙ ap s e ∙ at in cc

  still_known : (s : Roles) (n : ℕ) (r : Role) → s m ≡ Some role → s n ≡ None → known_as s n r m ≡ Some role
  still_known s n r at free = update_apart s n (Some r) m (λ (e : m ≡ n). fresh_ne s n at free (sym e)) ∙ at

  founds_known : (fs : _) (s e : Roles) → s m ≡ Some role → SealedFounds roles fs s e → e m ≡ Some role
  founds_known [] s e at h = ap (λ (z : Roles). z m) h ∙ at
  founds_known (x ∷ fs) s e at h = founds_known fs (known_as s x.0 public) e (still_known s x.0 public at h.1) h.2

  operand_unbound : (s : Roles) (r : Role) (t : Kernel) → IsNamed me roles s r t → Unbound m t
  operand_unbound s public t i = absurd i
  operand_unbound s (hidden u x) t (q, inl i) = subst (Unbound m) (sym i.1) tt
  operand_unbound s (hidden u x) t (q, inr i) = subst (Unbound m) (sym i.1) tt

  bound_unbound : (s : Roles) (r : Role) (t : Kernel) → (Sealed me roles t s → Unbound m t) → IsHiddenBound me roles r t (Sealed me roles t s) → Unbound m t
  bound_unbound s public t f h = f h
  bound_unbound s (hidden u x) t f (q, inl h) = f h.1
  bound_unbound s (hidden u x) t f (q, inr h) = subst (Unbound m) (sym h.1) tt

  mutual
    pub unbound : (t : Kernel) (s : Roles) → s m ≡ Some role → Sealed me roles t s → Unbound m t
    unbound (const v) s at h = tt
    unbound (var n) s at h = tt
    unbound (branch c x y) s at h = (unbound c s at h.0, unbound x s at h.1, unbound y s at h.2)
    unbound (bind bs body) s at h = let r = unbound_in bs s h.0 at h.1 in (r.0, unbound body h.0 r.1 h.2)
    unbound (loop fs bs body) s at h = let r = unbound_inits bs s h.0 at h.2 in (r.0, unbound body h.1 (founds_known fs h.0 h.1 r.1 h.3) h.4)
    unbound (seq ts) s at h = all_unbound [] ts s at h
    unbound (frame body) s at h = tt
    unbound (turn ns again now) s at h = tt
    unbound (apply f ts p) s at h = all_unbound h.0 ts s at h.2

    all_unbound : (mask : List Role) (ts : Kernels) (s : Roles) → s m ≡ Some role → AllSealed me roles mask ts s → AllUnbound m ts
    all_unbound mask none s at h = tt
    all_unbound [] (item t ts) s at h = (unbound t s at h.0, all_unbound [] ts s at h.1)
    all_unbound (public ∷ mask) (item t ts) s at h = (unbound t s at h.0, all_unbound mask ts s at h.1)
    all_unbound (hidden u x ∷ mask) (item t ts) s at h = (operand_unbound s (hidden u x) t h.0, all_unbound mask ts s at h.1)

    pub unbound_in : (bs : Bindings) (s e : Roles) → s m ≡ Some role → SealedBindings me roles bs s e → UnboundIn m bs × (e m ≡ Some role)
    unbound_in empty s e at h = (tt, ap (λ (z : Roles). z m) h ∙ at)
    unbound_in (binding n t bs) s e at h =
        let r = unbound_in bs (known_as s n h.0) e (still_known s n h.0 at h.2) h.3 in
        ((fresh_ne s n at h.2, bound_unbound s h.0 t (unbound t s at) h.1, r.0), r.1)

    pub unbound_inits : (bs : Bindings) (s e : Roles) → s m ≡ Some role → SealedInits me roles bs s e → UnboundIn m bs × (e m ≡ Some role)
    unbound_inits empty s e at h = (tt, ap (λ (z : Roles). z m) h ∙ at)
    unbound_inits (binding n t bs) s e at h =
        let r = unbound_inits bs (known_as s n public) e (still_known s n public at h.1) h.2 in
        ((fresh_ne s n at h.1, unbound t s at h.0, r.0), r.1)

-- the parameters of a text
pub all_known : (ns : List ℕ) → Each (λ m. all_public ns m ≡ Some public) ns
all_known [] = tt
all_known (n ∷ ns) = (update_here (all_public ns) n (Some public), each-weaker (λ m. all_public ns m ≡ Some public) (λ m. all_public (n ∷ ns) m ≡ Some public) ns (λ m at. by m (eqb n m) at) (all_known ns)) where
  by : (m : ℕ) (b : Bool) → all_public ns m ≡ Some public → cond b (Some public) (all_public ns m) ≡ Some public
  by m true at = refl
  by m false at = at

pub text_unbound : (me : ℕ) (roles : Roles) (ns : List ℕ) (t : Kernel) → Sealed me roles t (all_public ns) → Each (λ m. Unbound m t) ns
text_unbound me roles ns t h = each-weaker (λ m. all_public ns m ≡ Some public) (λ m. Unbound m t) ns (λ m at. unbound me roles m public t (all_public ns) at h) (all_known ns)

module _ (m n : ℕ) (v : Tree) where
  mutual
    pub put_unbound : (t : Kernel) → Unbound m t → Unbound m (put n v t)
    put_unbound (const w) u = tt
    put_unbound (var i) u = by (i == n) where
      by : (b : Bool) → Unbound m (cond b (const v) (var i))
      by true = tt
      by false = tt
    put_unbound (branch c a b) u = (put_unbound c u.0, put_unbound a u.1, put_unbound b u.2)
    put_unbound (bind bs body) u = (put_unbound_in bs u.0, put_unbound body u.1)
    put_unbound (loop fs bs body) u = (put_unbound_in bs u.0, put_unbound body u.1)
    put_unbound (seq ts) u = put_all_unbound ts u
    put_unbound (frame body) u = tt
    put_unbound (turn ns again now) u = tt
    put_unbound (apply h ts p) u = put_all_unbound ts u

    put_all_unbound : (ts : Kernels) → AllUnbound m ts → AllUnbound m (put_items n v ts)
    put_all_unbound none u = tt
    put_all_unbound (item t ts) u = (put_unbound t u.0, put_all_unbound ts u.1)

    pub put_unbound_in : (bs : Bindings) → UnboundIn m bs → UnboundIn m (put_bindings n v bs)
    put_unbound_in empty u = tt
    put_unbound_in (binding i t bs) u = (u.0, put_unbound t u.1, put_unbound_in bs u.2)
