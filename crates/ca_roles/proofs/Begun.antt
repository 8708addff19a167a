-- A new port in place of its Make: what the whole can start with it.
use Rattle.std.proofs.Common.{◌≡◌, ◌⊎◌, inl, inr, ℕ, ◌+◌, ◌≤◌, List, [], ◌∷◌, refl, sym, ap, ◌∙◌, subst, arith, Bool, true, false, cond, not, eq-eqb, Some, None}
use Rattle.ca_value.specs.Tree.{port}
use Rattle.ca_term.specs.Kernel.{Kernel, Kernels, Bindings, const, var, branch, bind, loop, seq, frame, turn, apply, none, item, empty, binding}
use Rattle.ca_meaning.specs.Redex.{replace, replace_items, replace_binding, is_value, is_open, all_values, is_ready_recur}
use Rattle.ca_roles.specs.Roles.{Role, public, hidden, Roles, no_roles, known_as}
use Rattle.ca_roles.specs.Sealed.{all_public, Sealed, AllSealed, SealedBindings}
use Rattle.ca_roles.specs.Once.{User, Test, no_names, no_ports, known, only, stands_for_port, node, use_count, uses_all, uses_behind, IsUsedOnce, UsesOnce, AllOnce}
use Rattle.ca_roles.proofs.Holes.{named_value}
use Rattle.ca_roles.proofs.Unused.{NoHidden, no_names_hidden, public_more, both, founds_names, named_uses, node_unused, unused, unused_all, unused_behind, unused_inits}
use Rattle.ca_roles.proofs.PutPublic.{apart_known}
use Rattle.ca_roles.proofs.Replaced.{bound_sealed, node_stays}
use Rattle.ca_roles.proofs.NewPorts.{NoRole, only_is, same_uses, same_behind}

module _ (k : User) (me : ℕ) (p : ℕ) (roles : Roles) (new : roles p ≡ None) where
  abbrev u : Kernel
  u = const (port p)

  abbrev P : Test
  P = only p

  abbrev count : Kernel → ℕ
  count t = use_count k P t no_names

  no_role : NoRole P roles
  no_role n r e at = let j : None ≡ Some r = sym new ∙ ap roles (sym (only_is p n e)) ∙ at in cc

  ports : NoHidden me P roles
  ports n h e at = no_role n (hidden me h) e at

  nothing_is : 0 ≤ 1
  nothing_is = omega arith

  first_or : (a b : ℕ) → a ≤ 1 → b ≡ 0 → a + b ≤ 1
  first_or a b l e = omega (arith, l, e)

  second_or : (a b : ℕ) → a ≡ 0 → b ≤ 1 → a + b ≤ 1
  second_or a b e l = omega (arith, l, e)

  sealed_none : (t : Kernel) (s : Roles) → Sealed me roles t s → use_count k P t no_names ≡ 0
  sealed_none t s h = unused k me P roles ports t no_names s (no_names_hidden me s) h

  -- the redex of what isn't a value is the whole, or within
  abbrev IsWhole : Kernel → Type 0
  IsWhole t = (replace u t ≡ u) ⊎ (stands_for_port P no_names (replace u t) ≡ false)

  u_or : (b : Bool) (x : Kernel) → stands_for_port P no_names x ≡ false → (cond b u x ≡ u) ⊎ (stands_for_port P no_names (cond b u x) ≡ false)
  u_or true x e = inl refl
  u_or false x e = inr e

  or_u : (b : Bool) (x : Kernel) → stands_for_port P no_names x ≡ false → (cond b x u ≡ u) ⊎ (stands_for_port P no_names (cond b x u) ≡ false)
  or_u true x e = inr e
  or_u false x e = inl refl

  turned_or : (a b : Bool) (x : Kernel) → stands_for_port P no_names x ≡ false → (cond a u (cond b u x) ≡ u) ⊎ (stands_for_port P no_names (cond a u (cond b u x)) ≡ false)
  turned_or true b x e = inl refl
  turned_or false b x e = u_or b x e

  is_whole : (t : Kernel) → IsWhole t
  is_whole (const v) = inl refl
  is_whole (var n) = inl refl
  is_whole (branch c a b) = u_or (is_value c) (branch (replace u c) a b) refl
  is_whole (bind bs body) = or_u (is_open bs) (bind (replace_binding u bs) body) refl
  is_whole (loop fs bs body) = or_u (is_open bs) (loop fs (replace_binding u bs) body) refl
  is_whole (seq none) = inl refl
  is_whole (seq (item t none)) = inl refl
  is_whole (seq (item t (item w ws))) = u_or (is_value t) (seq (item (replace u t) (item w ws))) refl
  is_whole (frame body) = u_or (is_value body) (frame (replace u body)) refl
  is_whole (turn ns again now) = turned_or (is_value now) (is_ready_recur now) (turn ns again (replace u now)) refl
  is_whole (apply f ts q) = u_or (all_values ts) (apply f (replace_items u ts) q) refl

  -- bound to the port, a name is used once; else nothing is
  let_made : (n : ℕ) (t : Kernel) (bs : Bindings) (body : Kernel) (inner : Roles) (r : Role) → IsUsedOnce n bs body → SealedBindings me roles bs (known_as no_roles n r) inner → Sealed me roles body inner → count (replace u t) ≤ 1
      → count (replace u t) + uses_behind k P bs (known no_names n (stands_for_port P no_names (replace u t))) (use_count k P body) ≤ 1
  let_made n t bs body inner r once h b l = by (is_whole t) where
    by : IsWhole t → count (replace u t) + uses_behind k P bs (known no_names n (stands_for_port P no_names (replace u t))) (use_count k P body) ≤ 1
    by (inl e) =
        let at : stands_for_port P no_names (replace u t) ≡ true = ap (stands_for_port P no_names) e ∙ ap (λ c. cond c true false) (eq-eqb p p refl) in
        let same = ap (λ c. uses_behind k P bs (known no_names n c) (use_count k P body)) at ∙ same_behind k me P roles no_role bs (known no_names n true) (known_as no_roles n r) inner (use_count k P body) (use_count k no_ports body) h (λ M. same_uses k me P roles no_role body M inner b) in
        second_or (count (replace u t)) (uses_behind k P bs (known no_names n (stands_for_port P no_names (replace u t))) (use_count k P body)) (ap count e) (subst (λ x. x ≤ 1) (sym same) (once k))
    by (inr e) =
        let none_behind = ap (λ (M : Test). uses_behind k P bs M (use_count k P body)) (ap (known no_names n) e ∙ apart_known no_names n refl)
        ∙ unused_behind k me P roles ports bs no_names (known_as no_roles n r) inner (use_count k P body) (no_names_hidden me (known_as no_roles n r)) h (λ M m. unused k me P roles ports body M inner m b) in
        first_or (count (replace u t)) (uses_behind k P bs (known no_names n (stands_for_port P no_names (replace u t))) (use_count k P body)) l none_behind

  one_made : (t : Kernel) (ts : Kernels) → count t ≡ 0 → uses_all k P ts no_names ≡ 0 → (v : Bool) → count (replace u t) ≤ 1 → uses_all k P (replace_items u ts) no_names ≤ 1 → uses_all k P (cond v (item t (replace_items u ts)) (item (replace u t) ts)) no_names ≤ 1
  one_made t ts e f true l m = second_or (count t) (uses_all k P (replace_items u ts) no_names) e m
  one_made t ts e f false l m = first_or (count (replace u t)) (uses_all k P ts no_names) l f

  value_made : (t : Kernel) (ts : Kernels) (v : Bool) → v ≡ true → count t ≡ 0 → uses_all k P (replace_items u ts) no_names ≤ 1 → uses_all k P (cond v (item t (replace_items u ts)) (item (replace u t) ts)) no_names ≤ 1
  value_made t ts true q e m = second_or (count t) (uses_all k P (replace_items u ts) no_names) e m
  value_made t ts false q e m = absurd (let i : false ≡ true = q in cc)

  mutual
    pub made_uses : (t : Kernel) → Sealed me roles t no_roles → UsesOnce t → use_count k (only p) (replace (const (port p)) t) no_names ≤ 1
    made_uses (const v) h o = nothing_is
    made_uses (var n) h o = nothing_is
    made_uses (branch c a b) h o = by (is_value c) (made_uses c h.0 o.0) where
      by : (v : Bool) → count (replace u c) ≤ 1 → count (cond v u (branch (replace u c) a b)) ≤ 1
      by true l = nothing_is
      by false l = first_or (count (replace u c) + count a) (count b) (first_or (count (replace u c)) (count a) l (sealed_none a no_roles h.1)) (sealed_none b no_roles h.2)
    made_uses (bind empty body) h o = nothing_is
    made_uses (bind (binding n t bs) body) h o = by (is_value t) refl (λ e. made_uses t (bound_sealed me roles h.1.0 t e h.1.1) o.0.1) where
      by : (v : Bool) → is_value t ≡ v → (is_value t ≡ false → count (replace u t) ≤ 1) → count (cond (not v) (bind (binding n (replace u t) bs) body) u) ≤ 1
      by true e f = nothing_is
      by false e f = let_made n t bs body h.0 h.1.0 o.0.0 h.1.3 h.2 (f e)
    made_uses (loop fs empty body) h o = nothing_is
    made_uses (loop fs (binding n t bs) body) h o = by (is_value t) (made_uses t h.2.0 o.0.0) where
      K : Test → ℕ
      K M = use_count k P body M + use_count k P body M

      rest : uses_behind k P bs (known no_names n (stands_for_port P no_names (replace u t))) K ≡ 0
      rest = unused_inits k me P roles ports bs (known no_names n (stands_for_port P no_names (replace u t))) (known_as no_roles n public) h.0 K (public_more me no_names no_roles n (stands_for_port P no_names (replace u t)) (no_names_hidden me no_roles)) h.2.2
          (λ M m. let e = unused k me P roles ports body M h.1 (founds_names k me P roles ports fs M h.0 h.1 m h.3) h.4 in both k me P roles ports (use_count k P body M) (use_count k P body M) e e)

      by : (v : Bool) → count (replace u t) ≤ 1 → count (cond (not v) (loop fs (binding n (replace u t) bs) body) u) ≤ 1
      by true l = nothing_is
      by false l = first_or (count (replace u t)) (uses_behind k P bs (known no_names n (stands_for_port P no_names (replace u t))) K) l rest
    made_uses (seq none) h o = nothing_is
    made_uses (seq (item t none)) h o = nothing_is
    made_uses (seq (item t (item w ws))) h o = by (is_value t) (made_uses t h.0 o.0) where
      by : (v : Bool) → count (replace u t) ≤ 1 → count (cond v u (seq (item (replace u t) (item w ws)))) ≤ 1
      by true l = nothing_is
      by false l = first_or (count (replace u t)) (uses_all k P (item w ws) no_names) l (unused_all k me P roles ports [] (item w ws) no_names no_roles (no_names_hidden me no_roles) h.1)
    made_uses (frame body) h o = by (is_value body) (made_uses body h o) where
      by : (v : Bool) → count (replace u body) ≤ 1 → count (cond v u (frame (replace u body))) ≤ 1
      by true l = nothing_is
      by false l = l
    made_uses (turn ns again now) h o = by (is_value now) (is_ready_recur now) (made_uses now h.1 o.1) where
      by : (v r : Bool) → count (replace u now) ≤ 1 → count (cond v u (cond r u (turn ns again (replace u now)))) ≤ 1
      by true r l = nothing_is
      by false true l = nothing_is
      by false false l = let e = sealed_none again (all_public ns) h.0 in second_or (count again + count again) (count (replace u now)) (both k me P roles ports (count again) (count again) e e) l
    made_uses (apply f ts q) h o = by (all_values ts) (made_items h.0 ts h.2 o) where
      by : (v : Bool) → uses_all k P (replace_items u ts) no_names ≤ 1 → count (cond v u (apply f (replace_items u ts) q)) ≤ 1
      by true l = nothing_is
      by false l = second_or (node k P no_names f (replace_items u ts)) (uses_all k P (replace_items u ts) no_names) (node_stays k me P roles u f q ts h.0 h.1 h.2 ∙ node_unused k me P roles ports no_roles h.0 f q ts no_names (no_names_hidden me no_roles) h.1 h.2) l

    made_items : (mask : List Role) (ts : Kernels) → AllSealed me roles mask ts no_roles → AllOnce ts → uses_all k P (replace_items u ts) no_names ≤ 1
    made_items mask none h o = nothing_is
    made_items [] (item t ts) h o = one_made t ts (sealed_none t no_roles h.0) (unused_all k me P roles ports [] ts no_names no_roles (no_names_hidden me no_roles) h.1) (is_value t) (made_uses t h.0 o.0) (made_items [] ts h.1 o.1)
    made_items (public ∷ mask) (item t ts) h o = one_made t ts (sealed_none t no_roles h.0) (unused_all k me P roles ports mask ts no_names no_roles (no_names_hidden me no_roles) h.1) (is_value t) (made_uses t h.0 o.0) (made_items mask ts h.1 o.1)
    made_items (hidden w x ∷ mask) (item t ts) h o = value_made t ts (is_value t) (named_value me roles w x t h.0) (named_uses k me P roles ports no_roles (hidden w x) t no_names h.0) (made_items mask ts h.1 o.1)
