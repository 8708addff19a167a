-- Ports without a role are nowhere in a sealed term.
use Rattle.std.proofs.Common.{◌≡◌, inl, inr, ℕ, ◌+◌, List, [], ◌∷◌, refl, sym, ap, ap₂, ◌∙◌, subst, Bool, true, false, cond, ◌==◌, eqb-true, Some}
use Rattle.ca_term.specs.Kernel.{Kernel, Kernels, Bindings, const, var, branch, bind, loop, seq, frame, turn, apply, none, item, empty, binding}
use Rattle.ca_roles.specs.Roles.{Hidden, Role, public, hidden, Roles, no_roles, known_as}
use Rattle.ca_roles.specs.Sealed.{IsNamed, IsHiddenPort, IsHiddenBound, all_public, Sealed, AllSealed, SealedBindings, SealedInits}
use Rattle.ca_roles.specs.Once.{User, the_feed, the_collect, the_mult, user_of, is_user, Test, no_names, no_ports, known, only, stands_for_port, holds_of_first, behind_first, own_operand, one_if, use_count, uses_all, uses_behind}
use Rattle.ca_roles.proofs.Unused.{not_true}
use Rattle.ca_roles.proofs.PutPublic.{public_apart}
use Rattle.ca_roles.proofs.Onces.{is_none}

-- none of the ports has a role
abbrev pub NoRole : Test → Roles → Type 0
NoRole P roles = (n : ℕ) (r : Role) → P n ≡ true → roles n ≡ Some r → ⊥

module _ (k : User) (me : ℕ) (P : Test) (roles : Roles) (new : NoRole P roles) where
  abbrev Same : Test → Kernel → Type 0
  Same N t = stands_for_port P N t ≡ stands_for_port no_ports N t

  port_same : (h : Hidden) (t : Kernel) (N : Test) → IsHiddenPort me roles h t → Same N t
  port_same h t N i = subst (Same N) (sym i.1) (not_true (P i.0) (λ e. new i.0 (hidden me h) e i.2))

  sealed_same : (t : Kernel) (N : Test) (s : Roles) → Sealed me roles t s → Same N t
  sealed_same (const v) N s h = public_apart P roles (λ n e. new n public e) v h ∙ sym (is_none v)
  sealed_same (var n) N s h = refl
  sealed_same (branch c a b) N s h = refl
  sealed_same (bind bs body) N s h = refl
  sealed_same (loop fs bs body) N s h = refl
  sealed_same (seq ts) N s h = refl
  sealed_same (frame body) N s h = refl
  sealed_same (turn ns again now) N s h = refl
  sealed_same (apply f ts p) N s h = refl

  named_same : (r : Role) (t : Kernel) (N : Test) (s : Roles) → IsNamed me roles s r t → Same N t
  named_same public t N s i = absurd i
  named_same (hidden u x) t N s (q, inl i) = port_same x t N i
  named_same (hidden u x) t N s (q, inr i) = subst (Same N) (sym i.1) refl

  bound_same : (r : Role) (t : Kernel) (N : Test) (s : Roles) → IsHiddenBound me roles r t (Sealed me roles t s) → Same N t
  bound_same public t N s b = sealed_same t N s b
  bound_same (hidden u x) t N s (q, inl m) = subst (Same N) (sym m.0.3) refl
  bound_same (hidden u x) t N s (q, inr i) = port_same x t N i

  abbrev AllSame : Test → Kernels → Type 0
  AllSame N none = Unit {0}
  AllSame N (item t ts) = Same N t × AllSame N ts

  all_same : (mask : List Role) (ts : Kernels) (N : Test) (s : Roles) → AllSealed me roles mask ts s → AllSame N ts
  all_same mask none N s h = tt
  all_same [] (item t ts) N s h = (sealed_same t N s h.0, all_same [] ts N s h.1)
  all_same (public ∷ mask) (item t ts) N s h = (sealed_same t N s h.0, all_same mask ts N s h.1)
  all_same (hidden u x ∷ mask) (item t ts) N s h = (named_same (hidden u x) t N s h.0, all_same mask ts N s h.1)

  third_same : (ts : Kernels) (N : Test) → AllSame N ts → behind_first (behind_first (holds_of_first (stands_for_port P N))) ts ≡ behind_first (behind_first (holds_of_first (stands_for_port no_ports N))) ts
  third_same none N a = refl
  third_same (item x none) N a = refl
  third_same (item x (item y none)) N a = refl
  third_same (item x (item y (item z ts))) N a = a.1.1.0

  own_same : (j : User) (ts : Kernels) (N : Test) → AllSame N ts → own_operand j (stands_for_port P N) ts ≡ own_operand j (stands_for_port no_ports N) ts
  own_same the_feed ts N a = third_same ts N a
  own_same the_collect none N a = refl
  own_same the_collect (item t ts) N a = a.0
  own_same the_mult ts N a = third_same ts N a

  bound_uses : (r : Role) (t : Kernel) (N : Test) (s : Roles) → (Sealed me roles t s → use_count k P t N ≡ use_count k no_ports t N) → IsHiddenBound me roles r t (Sealed me roles t s) → use_count k P t N ≡ use_count k no_ports t N
  bound_uses public t N s f b = f b
  bound_uses (hidden u x) t N s f (q, inl m) = f m.1
  bound_uses (hidden u x) t N s f (q, inr i) = subst (λ z. use_count k P z N ≡ use_count k no_ports z N) (sym i.1) refl

  operand_uses : (r : Role) (t : Kernel) (N : Test) (s : Roles) → IsNamed me roles s r t → use_count k P t N ≡ use_count k no_ports t N
  operand_uses public t N s i = absurd i
  operand_uses (hidden u x) t N s (q, inl i) = subst (λ z. use_count k P z N ≡ use_count k no_ports z N) (sym i.1) refl
  operand_uses (hidden u x) t N s (q, inr i) = subst (λ z. use_count k P z N ≡ use_count k no_ports z N) (sym i.1) refl

  mutual
    pub same_uses : (t : Kernel) (N : Test) (s : Roles) → Sealed me roles t s → use_count k P t N ≡ use_count k no_ports t N
    same_uses (const v) N s h = refl
    same_uses (var n) N s h = refl
    same_uses (branch c a b) N s h = ap₂ (λ x y. x + y) (ap₂ (λ x y. x + y) (same_uses c N s h.0) (same_uses a N s h.1)) (same_uses b N s h.2)
    same_uses (bind bs body) N s h = same_behind bs N s h.0 (use_count k P body) (use_count k no_ports body) h.1 (λ M. same_uses body M h.0 h.2)
    same_uses (loop fs bs body) N s h = same_inits bs N s h.0 (λ M. use_count k P body M + use_count k P body M) (λ M. use_count k no_ports body M + use_count k no_ports body M) h.2 (λ M. ap₂ (λ x y. x + y) (same_uses body M h.1 h.4) (same_uses body M h.1 h.4))
    same_uses (seq ts) N s h = same_all [] ts N s h
    same_uses (frame body) N s h = same_uses body no_names no_roles h
    same_uses (turn ns again now) N s h = ap₂ (λ x y. x + x + y) (same_uses again no_names (all_public ns) h.0) (same_uses now no_names no_roles h.1)
    same_uses (apply f ts p) N s h = ap₂ (λ x y. x + y) (ap (λ b. cond (is_user k (user_of f)) (one_if b) 0) (own_same k ts N (all_same h.0 ts N s h.2))) (same_all h.0 ts N s h.2)

    same_all : (mask : List Role) (ts : Kernels) (N : Test) (s : Roles) → AllSealed me roles mask ts s → uses_all k P ts N ≡ uses_all k no_ports ts N
    same_all mask none N s h = refl
    same_all [] (item t ts) N s h = ap₂ (λ x y. x + y) (same_uses t N s h.0) (same_all [] ts N s h.1)
    same_all (public ∷ mask) (item t ts) N s h = ap₂ (λ x y. x + y) (same_uses t N s h.0) (same_all mask ts N s h.1)
    same_all (hidden u x ∷ mask) (item t ts) N s h = ap₂ (λ x y. x + y) (operand_uses (hidden u x) t N s h.0) (same_all mask ts N s h.1)

    pub same_behind : (bs : Bindings) (N : Test) (s e : Roles) (K L : Test → ℕ) → SealedBindings me roles bs s e → ((M : Test) → K M ≡ L M) → uses_behind k P bs N K ≡ uses_behind k no_ports bs N L
    same_behind empty N s e K L h f = f N
    same_behind (binding n t bs) N s e K L h f = ap₂ (λ x y. x + y) (bound_uses h.0 t N s (same_uses t N s) h.1)
        (ap (λ b. uses_behind k P bs (known N n b) K) (bound_same h.0 t N s h.1) ∙ same_behind bs (known N n (stands_for_port no_ports N t)) (known_as s n h.0) e K L h.3 f)

    same_inits : (bs : Bindings) (N : Test) (s e : Roles) (K L : Test → ℕ) → SealedInits me roles bs s e → ((M : Test) → K M ≡ L M) → uses_behind k P bs N K ≡ uses_behind k no_ports bs N L
    same_inits empty N s e K L h f = f N
    same_inits (binding n t bs) N s e K L h f = ap₂ (λ x y. x + y) (same_uses t N s h.0)
        (ap (λ b. uses_behind k P bs (known N n b) K) (sealed_same t N s h.0) ∙ same_inits bs (known N n (stands_for_port no_ports N t)) (known_as s n public) e K L h.2 f)

pub only_is : (p n : ℕ) → only p n ≡ true → n ≡ p
only_is p n e = by (n == p) refl where
  by : (b : Bool) → (n == p) ≡ b → n ≡ p
  by true i = eqb-true n p i
  by false i = absurd (let j : false ≡ true = sym (ap (λ b. cond b true false) i) ∙ e in cc)
