-- A term in which each port is public. No name of it need be bound.
use Rattle.std.proofs.Common.{◌≡◌, inl, inr, ℕ, List, [], ◌∷◌, sym, subst, Bool, true, false, cond, not, ◌==◌, Some, None}
use Rattle.ca_value.specs.Tree.{Tree}
use Rattle.ca_term.specs.Kernel.{Kernel, Kernels, Bindings, Founds, const, var, branch, bind, loop, seq, frame, turn, apply, none, item, empty, binding, put, put_items, put_bindings, puts}
use Rattle.ca_meaning.specs.Redex.{redex, redex_items, redex_binding, replace, replace_items, is_value, value_of, values_of, all_values, is_ready_recur}
use Rattle.ca_roles.specs.Roles.{Role, public, hidden, Roles, no_roles, known_as, IsPublic, ArePublic}
use Rattle.ca_roles.specs.Sealed.{IsNamed, HiddenOperand, IsHiddenBound, SealedFounds, all_public, Sealed, AllSealed, SealedBindings, SealedInits}
use Rattle.ca_roles.proofs.Sealing.{public_more}
use Rattle.ca_roles.proofs.Starting.{from_nobody, PublicFounds}

abbrev mutual
  pub PublicTerm : Roles → Kernel → Type 0
  PublicTerm roles (const v) = IsPublic roles v
  PublicTerm roles (var n) = Unit {0}
  PublicTerm roles (branch c a b) = PublicTerm roles c × PublicTerm roles a × PublicTerm roles b
  PublicTerm roles (bind bs body) = PublicBindings roles bs × PublicTerm roles body
  PublicTerm roles (loop fs bs body) = PublicFounds roles fs × PublicBindings roles bs × PublicTerm roles body
  PublicTerm roles (seq ts) = PublicTerms roles ts
  PublicTerm roles (frame body) = PublicTerm roles body
  PublicTerm roles (turn ns again now) = PublicTerm roles again × PublicTerm roles now
  PublicTerm roles (apply h ts p) = PublicTerms roles ts

  pub PublicTerms : Roles → Kernels → Type 0
  PublicTerms roles none = Unit {0}
  PublicTerms roles (item t ts) = PublicTerm roles t × PublicTerms roles ts

  pub PublicBindings : Roles → Bindings → Type 0
  PublicBindings roles empty = Unit {0}
  PublicBindings roles (binding n t bs) = PublicTerm roles t × PublicBindings roles bs

-- A text that is sealed where no port has a role has no port.
module _ (me : ℕ) (roles : Roles) where
  no_port : {G : Type 0} (n : ℕ) (r : Role) → no_roles n ≡ Some r → G
  no_port n r e = absurd (let k : None ≡ Some r = e in cc)

  named_public_term : (s : Roles) (r : Role) (t : Kernel) → IsNamed me no_roles s r t → PublicTerm roles t
  named_public_term s public t h = absurd h
  named_public_term s (hidden u x) t (e, inl i) = no_port i.0 (hidden me x) i.2
  named_public_term s (hidden u x) t (e, inr i) = subst (PublicTerm roles) (sym i.1) tt

  operand_public : (s : Roles) (r : Role) (t : Kernel) → HiddenOperand me no_roles s r t (Sealed me no_roles t s) → (Sealed me no_roles t s → PublicTerm roles t) → PublicTerm roles t
  operand_public s public t h f = f h
  operand_public s (hidden u x) t h f = named_public_term s (hidden u x) t h

  bound_public : (s : Roles) (r : Role) (t : Kernel) → IsHiddenBound me no_roles r t (Sealed me no_roles t s) → (Sealed me no_roles t s → PublicTerm roles t) → PublicTerm roles t
  bound_public s public t h f = f h
  bound_public s (hidden u x) t (e, inl h) f = f h.1
  bound_public s (hidden u x) t (e, inr h) f = no_port h.0 (hidden me x) h.2

  founds_public : (fs : Founds) (s e : Roles) → SealedFounds no_roles fs s e → PublicFounds roles fs
  founds_public [] s e h = tt
  founds_public (f ∷ fs) s e h = (public_more no_roles roles (from_nobody roles) f.1 h.0, founds_public fs (known_as s f.0 public) e h.2)

  mutual
    pub sealed_public : (t : Kernel) (s : Roles) → Sealed me no_roles t s → PublicTerm roles t
    sealed_public (const v) s h = public_more no_roles roles (from_nobody roles) v h
    sealed_public (var n) s h = tt
    sealed_public (branch c a b) s h = (sealed_public c s h.0, sealed_public a s h.1, sealed_public b s h.2)
    sealed_public (bind bs body) s h = (bindings_public bs s h.0 h.1, sealed_public body h.0 h.2)
    sealed_public (loop fs bs body) s h = (founds_public fs h.0 h.1 h.3, inits_public bs s h.0 h.2, sealed_public body h.1 h.4)
    sealed_public (seq ts) s h = items_public [] ts s h
    sealed_public (frame body) s h = sealed_public body no_roles h
    sealed_public (turn ns again now) s h = (sealed_public again (all_public ns) h.0, sealed_public now no_roles h.1)
    sealed_public (apply f ts p) s h = items_public h.0 ts s h.2

    items_public : (mask : List Role) (ts : Kernels) (s : Roles) → AllSealed me no_roles mask ts s → PublicTerms roles ts
    items_public mask none s h = tt
    items_public [] (item t ts) s h = (sealed_public t s h.0, items_public [] ts s h.1)
    items_public (r ∷ mask) (item t ts) s h = (operand_public s r t h.0 (sealed_public t s), items_public mask ts s h.1)

    bindings_public : (bs : Bindings) (s e : Roles) → SealedBindings me no_roles bs s e → PublicBindings roles bs
    bindings_public empty s e h = tt
    bindings_public (binding n t bs) s e h = (bound_public s h.0 t h.1 (sealed_public t s), bindings_public bs (known_as s n h.0) e h.3)

    inits_public : (bs : Bindings) (s e : Roles) → SealedInits me no_roles bs s e → PublicBindings roles bs
    inits_public empty s e h = tt
    inits_public (binding n t bs) s e h = (sealed_public t s h.0, inits_public bs (known_as s n public) e h.2)

module _ (roles : Roles) where
  pub one_of_two : (b : Bool) (x y : Kernel) → PublicTerm roles x → PublicTerm roles y → PublicTerm roles (cond b x y)
  one_of_two true x y h g = h
  one_of_two false x y h g = g

  -- a public value in place of a name
  mutual
    pub put_public : (n : ℕ) (v : Tree) (t : Kernel) → IsPublic roles v → PublicTerm roles t → PublicTerm roles (put n v t)
    put_public n v (const w) p h = h
    put_public n v (var m) p h = one_of_two (m == n) (const v) (var m) p tt
    put_public n v (branch c a b) p h = (put_public n v c p h.0, put_public n v a p h.1, put_public n v b p h.2)
    put_public n v (bind bs body) p h = (put_bindings_public n v bs p h.0, put_public n v body p h.1)
    put_public n v (loop fs bs body) p h = (h.0, put_bindings_public n v bs p h.1, put_public n v body p h.2)
    put_public n v (seq ts) p h = put_items_public n v ts p h
    put_public n v (frame body) p h = h
    put_public n v (turn ns again now) p h = h
    put_public n v (apply f ts q) p h = put_items_public n v ts p h

    put_items_public : (n : ℕ) (v : Tree) (ts : Kernels) → IsPublic roles v → PublicTerms roles ts → PublicTerms roles (put_items n v ts)
    put_items_public n v none p h = tt
    put_items_public n v (item t ts) p h = (put_public n v t p h.0, put_items_public n v ts p h.1)

    pub put_bindings_public : (n : ℕ) (v : Tree) (bs : Bindings) → IsPublic roles v → PublicBindings roles bs → PublicBindings roles (put_bindings n v bs)
    put_bindings_public n v empty p h = tt
    put_bindings_public n v (binding m t bs) p h = (put_public n v t p h.0, put_bindings_public n v bs p h.1)

  pub puts_public : (fs : Founds) (t : Kernel) → PublicFounds roles fs → PublicTerm roles t → PublicTerm roles (puts fs t)
  puts_public [] t p h = h
  puts_public (f ∷ fs) t p h = puts_public fs (put f.0 f.1 t) p.1 (put_public f.0 f.1 t p.0 h)

  pub value_public : (t : Kernel) → PublicTerm roles t → IsPublic roles (value_of t)
  value_public (const v) h = h
  value_public (var n) h = tt
  value_public (branch c a b) h = tt
  value_public (bind bs body) h = tt
  value_public (loop fs bs body) h = tt
  value_public (seq ts) h = tt
  value_public (frame body) h = tt
  value_public (turn ns again now) h = tt
  value_public (apply f ts p) h = tt

  pub operands_public : (ts : Kernels) → PublicTerms roles ts → ArePublic roles (values_of ts)
  operands_public none h = tt
  operands_public (item t ts) h = (value_public t h.0, operands_public ts h.1)

  mutual
    pub redex_public : (t : Kernel) → PublicTerm roles t → PublicTerm roles (redex t)
    redex_public (const v) h = h
    redex_public (var n) h = tt
    redex_public (branch c a b) h = one_of_two (is_value c) (branch c a b) (redex c) h (redex_public c h.0)
    redex_public (bind bs body) h = redex_binding_public bs (bind bs body) h.0 h
    redex_public (loop fs bs body) h = redex_binding_public bs (loop fs bs body) h.1 h
    redex_public (seq none) h = tt
    redex_public (seq (item t none)) h = h
    redex_public (seq (item t (item u us))) h = one_of_two (is_value t) (seq (item t (item u us))) (redex t) h (redex_public t h.0)
    redex_public (frame body) h = one_of_two (is_value body) (frame body) (redex body) h (redex_public body h)
    redex_public (turn ns again now) h = one_of_two (is_value now) (turn ns again now) (cond (is_ready_recur now) (turn ns again now) (redex now)) h (one_of_two (is_ready_recur now) (turn ns again now) (redex now) h (redex_public now h.1))
    redex_public (apply f ts p) h = redex_items_public ts (apply f ts p) h h

    redex_items_public : (ts : Kernels) (here : Kernel) → PublicTerms roles ts → PublicTerm roles here → PublicTerm roles (redex_items ts here)
    redex_items_public none here h g = g
    redex_items_public (item t ts) here h g = one_of_two (is_value t) (redex_items ts here) (redex t) (redex_items_public ts here h.1 g) (redex_public t h.0)

    redex_binding_public : (bs : Bindings) (here : Kernel) → PublicBindings roles bs → PublicTerm roles here → PublicTerm roles (redex_binding bs here)
    redex_binding_public empty here h g = g
    redex_binding_public (binding n t bs) here h g = one_of_two (is_value t) here (redex t) g (redex_public t h.0)

  either : (b : Bool) (xs ys : Kernels) → PublicTerms roles xs → PublicTerms roles ys → PublicTerms roles (cond b xs ys)
  either true xs ys h g = h
  either false xs ys h g = g

  mutual
    pub replace_public : (u t : Kernel) → PublicTerm roles u → PublicTerm roles t → PublicTerm roles (replace u t)
    replace_public u (const v) g h = g
    replace_public u (var n) g h = g
    replace_public u (branch c a b) g h = one_of_two (is_value c) u (branch (replace u c) a b) g (replace_public u c g h.0, h.1, h.2)
    replace_public u (bind empty body) g h = g
    replace_public u (bind (binding n t bs) body) g h = one_of_two (not (is_value t)) (bind (binding n (replace u t) bs) body) u ((replace_public u t g h.0.0, h.0.1), h.1) g
    replace_public u (loop fs empty body) g h = g
    replace_public u (loop fs (binding n t bs) body) g h = one_of_two (not (is_value t)) (loop fs (binding n (replace u t) bs) body) u (h.0, (replace_public u t g h.1.0, h.1.1), h.2) g
    replace_public u (seq none) g h = g
    replace_public u (seq (item t none)) g h = g
    replace_public u (seq (item t (item v vs))) g h = one_of_two (is_value t) u (seq (item (replace u t) (item v vs))) g (replace_public u t g h.0, h.1)
    replace_public u (frame body) g h = one_of_two (is_value body) u (frame (replace u body)) g (replace_public u body g h)
    replace_public u (turn ns again now) g h = one_of_two (is_value now) u (cond (is_ready_recur now) u (turn ns again (replace u now))) g (one_of_two (is_ready_recur now) u (turn ns again (replace u now)) g (h.0, replace_public u now g h.1))
    replace_public u (apply f ts p) g h = one_of_two (all_values ts) u (apply f (replace_items u ts) p) g (replace_items_public u ts g h)

    replace_items_public : (u : Kernel) (ts : Kernels) → PublicTerm roles u → PublicTerms roles ts → PublicTerms roles (replace_items u ts)
    replace_items_public u none g h = tt
    replace_items_public u (item t ts) g h = either (is_value t) (item t (replace_items u ts)) (item (replace u t) ts) (h.0, replace_items_public u ts g h.1) (replace_public u t g h.0, h.1)
