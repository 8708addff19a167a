-- Another term in place of the redex: what the whole can start.
use Rattle.std.proofs.Common.{◌≡◌, inl, inr, ℕ, ◌+◌, List, [], ◌∷◌, refl, sym, ap, ◌∙◌, arith, Bool, true, false, cond, not, ◌&&◌, Some}
use Rattle.ca_term.specs.declared.place.Place.{Place}
use Rattle.ca_term.specs.declared.head.Head.{Head}
use Rattle.ca_term.specs.Kernel.{Kernel, Kernels, Bindings, const, var, branch, bind, loop, seq, frame, turn, apply, none, item, empty, binding}
use Rattle.ca_meaning.specs.Redex.{redex, redex_items, replace, replace_items, replace_binding, is_value, is_open, all_values, is_ready_recur}
use Rattle.ca_meaning.proofs.Sizes.{redex_items-values}
use Rattle.ca_roles.specs.Roles.{replies, Role, public, hidden, Roles, no_roles}
use Rattle.ca_roles.specs.Sealed.{IsHiddenBound, HasMask, plain, of_job, of_feed, of_collect, of_mult, Sealed, AllSealed}
use Rattle.ca_roles.specs.Once.{User, the_feed, the_collect, the_mult, is_user, Test, no_names, known, stands_for_port, holds_of_first, behind_first, own_operand, one_if, node, use_count, uses_all, uses_behind}
use Rattle.ca_roles.proofs.Unused.{hides_less, starts_none, nobody_is}
use Rattle.ca_roles.proofs.Holes.{named_value}

-- a binding's term that isn't a value yet
pub bound_sealed : (me : ℕ) (roles : Roles) (r : Role) (t : Kernel) → is_value t ≡ false → IsHiddenBound me roles r t (Sealed me roles t no_roles) → Sealed me roles t no_roles
bound_sealed me roles public t e h = h
bound_sealed me roles (hidden q x) t e (i, inl h) = h.1
bound_sealed me roles (hidden q x) t e (i, inr h) = absurd (let j : true ≡ false = sym (ap is_value h.1) ∙ e in cc)

module _ (k : User) (me : ℕ) (P : Test) (roles : Roles) (u : Kernel) where
  abbrev Stays : (Kernels → Bool) → Kernels → Type 0
  Stays f ts = f (replace_items u ts) ≡ f ts

  -- a hidden operand is a value, and stays
  first_stays : (q : ℕ) (h : _) (mask : List Role) (ts : Kernels) → AllSealed me roles (hidden q h ∷ mask) ts no_roles → Stays (holds_of_first (stands_for_port P no_names)) ts
  first_stays q h mask none a = refl
  first_stays q h mask (item t ts) a = by (is_value t) (named_value me roles q h t a.0) where
    by : (b : Bool) → b ≡ true → holds_of_first (stands_for_port P no_names) (cond b (item t (replace_items u ts)) (item (replace u t) ts)) ≡ stands_for_port P no_names t
    by true e = refl
    by false e = absurd (let j : false ≡ true = e in cc)

  -- behind any operand
  behind_stays : (f : Kernels → Bool) (t : Kernel) (ts : Kernels) → Stays f ts → Stays (behind_first f) (item t ts)
  behind_stays f t ts e = by (is_value t) where
    by : (b : Bool) → behind_first f (cond b (item t (replace_items u ts)) (item (replace u t) ts)) ≡ f ts
    by true = e
    by false = refl

  third_stays : (p r : Role) (q : ℕ) (h : _) (mask : List Role) (ts : Kernels) → AllSealed me roles (p ∷ r ∷ hidden q h ∷ mask) ts no_roles → Stays (behind_first (behind_first (holds_of_first (stands_for_port P no_names)))) ts
  third_stays p r q h mask none a = refl
  third_stays p r q h mask (item x none) a = behind_stays (behind_first (holds_of_first (stands_for_port P no_names))) x none refl
  third_stays p r q h mask (item x (item y ts)) a = behind_stays (behind_first (holds_of_first (stands_for_port P no_names))) x (item y ts) (behind_stays (holds_of_first (stands_for_port P no_names)) y ts (first_stays q h mask ts a.1.1))

  pub node_stays : (h : Head) (p : Place) (ts : Kernels) (mask : List Role) → HasMask me h p ts mask → AllSealed me roles mask ts no_roles → node k P no_names h (replace_items u ts) ≡ node k P no_names h ts
  node_stays h p ts mask (plain e) a =
      let no = ap (is_user k) (starts_none h (hides_less h ts e)) ∙ nobody_is k in
      ap (λ b. cond b (one_if (own_operand k (stands_for_port P no_names) (replace_items u ts))) 0) no ∙ sym (ap (λ b. cond b (one_if (own_operand k (stands_for_port P no_names) ts)) 0) no)
  node_stays h p ts mask (of_job w e) a =
      ap (λ b. cond b (one_if (own_operand k (stands_for_port P no_names) (replace_items u ts))) 0) (nobody_is k) ∙ sym (ap (λ b. cond b (one_if (own_operand k (stands_for_port P no_names) ts)) 0) (nobody_is k))
  node_stays h p ts mask (of_feed w) a = by k where
    by : (j : User) → cond (is_user j (Some the_feed)) (one_if (own_operand j (stands_for_port P no_names) (replace_items u ts))) 0 ≡ cond (is_user j (Some the_feed)) (one_if (own_operand j (stands_for_port P no_names) ts)) 0
    by the_feed = ap one_if (third_stays _ _ _ _ _ ts a)
    by the_collect = refl
    by the_mult = refl
  node_stays h p ts mask (of_collect w) a = by k where
    by : (j : User) → cond (is_user j (Some the_collect)) (one_if (own_operand j (stands_for_port P no_names) (replace_items u ts))) 0 ≡ cond (is_user j (Some the_collect)) (one_if (own_operand j (stands_for_port P no_names) ts)) 0
    by the_feed = refl
    by the_collect = ap one_if (first_stays me (replies w) [] ts a)
    by the_mult = refl
  node_stays h p ts mask of_mult a = by k where
    by : (j : User) → cond (is_user j (Some the_mult)) (one_if (own_operand j (stands_for_port P no_names) (replace_items u ts))) 0 ≡ cond (is_user j (Some the_mult)) (one_if (own_operand j (stands_for_port P no_names) ts)) 0
    by the_feed = refl
    by the_collect = refl
    by the_mult = ap one_if (third_stays _ _ _ _ _ ts a)

  -- what isn't a value stands for nothing
  pub open_stands : (t : Kernel) → is_value t ≡ false → stands_for_port P no_names t ≡ false
  open_stands (const v) e = absurd (let j : true ≡ false = e in cc)
  open_stands (var n) e = refl
  open_stands (branch c a b) e = refl
  open_stands (bind bs body) e = refl
  open_stands (loop fs bs body) e = refl
  open_stands (seq ts) e = refl
  open_stands (frame body) e = refl
  open_stands (turn ns again now) e = refl
  open_stands (apply f ts p) e = refl

module _ (k : User) (me : ℕ) (P : Test) (roles : Roles) (u : Kernel) (apart : stands_for_port P no_names u ≡ false) where
  u_or : (b : Bool) (x : Kernel) → stands_for_port P no_names x ≡ false → stands_for_port P no_names (cond b u x) ≡ false
  u_or true x e = apart
  u_or false x e = e

  or_u : (b : Bool) (x : Kernel) → stands_for_port P no_names x ≡ false → stands_for_port P no_names (cond b x u) ≡ false
  or_u true x e = e
  or_u false x e = apart

  replaced_stands : (t : Kernel) → stands_for_port P no_names (replace u t) ≡ false
  replaced_stands (const v) = apart
  replaced_stands (var n) = apart
  replaced_stands (branch c a b) = u_or (is_value c) (branch (replace u c) a b) refl
  replaced_stands (bind bs body) = or_u (is_open bs) (bind (replace_binding u bs) body) refl
  replaced_stands (loop fs bs body) = or_u (is_open bs) (loop fs (replace_binding u bs) body) refl
  replaced_stands (seq none) = apart
  replaced_stands (seq (item t none)) = apart
  replaced_stands (seq (item t (item w ws))) = u_or (is_value t) (seq (item (replace u t) (item w ws))) refl
  replaced_stands (frame body) = u_or (is_value body) (frame (replace u body)) refl
  replaced_stands (turn ns again now) = u_or (is_value now) (cond (is_ready_recur now) u (turn ns again (replace u now))) (u_or (is_ready_recur now) (turn ns again (replace u now)) refl)
  replaced_stands (apply h ts p) = u_or (all_values ts) (apply h (replace_items u ts) p) refl

  abbrev count : Kernel → ℕ
  count t = use_count k P t no_names

  abbrev pub Even : Kernel → Type 0
  Even t = count (replace u t) + count (redex t) ≡ count t + count u

  swap : (a b : ℕ) → a + b ≡ b + a
  swap a b = omega arith

  behind_same : (n : ℕ) (t : Kernel) (bs : Bindings) (K : Test → ℕ) → is_value t ≡ false → uses_behind k P bs (known no_names n (stands_for_port P no_names (replace u t))) K ≡ uses_behind k P bs (known no_names n (stands_for_port P no_names t)) K
  behind_same n t bs K e = ap (λ b. uses_behind k P bs (known no_names n b) K) (replaced_stands t ∙ sym (open_stands k me P roles u t e))

  one_item : (t : Kernel) (ts : Kernels) (here : Kernel) (v : Bool) → v && all_values ts ≡ false → Even t → (all_values ts ≡ false → uses_all k P (replace_items u ts) no_names + count (redex_items ts here) ≡ uses_all k P ts no_names + count u) → uses_all k P (cond v (item t (replace_items u ts)) (item (replace u t) ts)) no_names + count (cond v (redex_items ts here) (redex t)) ≡ count t + uses_all k P ts no_names + count u
  one_item t ts here true e j r = let i = r e in omega (arith, i)
  one_item t ts here false e j r = omega (arith, j)

  hidden_item : (t : Kernel) (ts : Kernels) (here : Kernel) (v : Bool) → v ≡ true → v && all_values ts ≡ false → (all_values ts ≡ false → uses_all k P (replace_items u ts) no_names + count (redex_items ts here) ≡ uses_all k P ts no_names + count u) → uses_all k P (cond v (item t (replace_items u ts)) (item (replace u t) ts)) no_names + count (cond v (redex_items ts here) (redex t)) ≡ count t + uses_all k P ts no_names + count u
  hidden_item t ts here true q e r = let i = r e in omega (arith, i)
  hidden_item t ts here false q e r = absurd (let i : false ≡ true = q in cc)

  mutual
    pub even : (t : Kernel) → Sealed me roles t no_roles → Even t
    even (const v) h = swap (count u) 0
    even (var n) h = swap (count u) 0
    even (branch c a b) h = by (is_value c) (even c h.0) where
      by : (v : Bool) → Even c → count (cond v u (branch (replace u c) a b)) + count (cond v (branch c a b) (redex c)) ≡ count c + count a + count b + count u
      by true j = swap (count u) (count c + count a + count b)
      by false j = omega (arith, j)
    even (bind empty body) h = swap (count u) (count body)
    even (bind (binding n t bs) body) h = by (is_value t) refl (λ e. even t (bound_sealed me roles h.1.0 t e h.1.1)) where
      rest : ℕ
      rest = uses_behind k P bs (known no_names n (stands_for_port P no_names t)) (use_count k P body)

      by : (v : Bool) → is_value t ≡ v → (is_value t ≡ false → Even t) → count (cond (not v) (bind (binding n (replace u t) bs) body) u) + count (cond v (bind (binding n t bs) body) (redex t)) ≡ count t + rest + count u
      by true e f = swap (count u) (count t + rest)
      by false e f = let q = behind_same n t bs (use_count k P body) e in let j = f e in omega (arith, q, j)
    even (loop fs empty body) h = swap (count u) (count body + count body)
    even (loop fs (binding n t bs) body) h = by (is_value t) refl (even t h.2.0) where
      rest : ℕ
      rest = uses_behind k P bs (known no_names n (stands_for_port P no_names t)) (λ M. use_count k P body M + use_count k P body M)

      by : (v : Bool) → is_value t ≡ v → Even t → count (cond (not v) (loop fs (binding n (replace u t) bs) body) u) + count (cond v (loop fs (binding n t bs) body) (redex t)) ≡ count t + rest + count u
      by true e j = swap (count u) (count t + rest)
      by false e j = let q = behind_same n t bs (λ M. use_count k P body M + use_count k P body M) e in omega (arith, q, j)
    even (seq none) h = swap (count u) 0
    even (seq (item t none)) h = swap (count u) (count t + 0)
    even (seq (item t (item w ws))) h = by (is_value t) (even t h.0) where
      by : (v : Bool) → Even t → count (cond v u (seq (item (replace u t) (item w ws)))) + count (cond v (seq (item t (item w ws))) (redex t)) ≡ count t + (count w + uses_all k P ws no_names) + count u
      by true j = swap (count u) (count t + (count w + uses_all k P ws no_names))
      by false j = omega (arith, j)
    even (frame body) h = by (is_value body) (even body h) where
      by : (v : Bool) → Even body → count (cond v u (frame (replace u body))) + count (cond v (frame body) (redex body)) ≡ count body + count u
      by true j = swap (count u) (count body)
      by false j = j
    even (turn ns again now) h = by (is_value now) (is_ready_recur now) (even now h.1) where
      by : (v r : Bool) → Even now → count (cond v u (cond r u (turn ns again (replace u now)))) + count (cond v (turn ns again now) (cond r (turn ns again now) (redex now))) ≡ count again + count again + count now + count u
      by true r j = swap (count u) (count again + count again + count now)
      by false true j = swap (count u) (count again + count again + count now)
      by false false j = omega (arith, j)
    even (apply f ts p) h = by (all_values ts) refl (λ e. even_items h.0 ts (apply f ts p) e h.2) where
      whole : ℕ
      whole = node k P no_names f ts + uses_all k P ts no_names

      by : (v : Bool) → all_values ts ≡ v → (all_values ts ≡ false → uses_all k P (replace_items u ts) no_names + count (redex_items ts (apply f ts p)) ≡ uses_all k P ts no_names + count u) → count (cond v u (apply f (replace_items u ts) p)) + count (redex_items ts (apply f ts p)) ≡ whole + count u
      by true e j = ap (λ z. count u + count z) (redex_items-values ts (apply f ts p) e) ∙ swap (count u) whole
      by false e j = let q = node_stays k me P roles u f p ts h.0 h.1 h.2 in let i = j e in omega (arith, q, i)

    even_items : (mask : List Role) (ts : Kernels) (here : Kernel) → all_values ts ≡ false → AllSealed me roles mask ts no_roles → uses_all k P (replace_items u ts) no_names + count (redex_items ts here) ≡ uses_all k P ts no_names + count u
    even_items mask none here e h = absurd (let j : true ≡ false = e in cc)
    even_items [] (item t ts) here e h = one_item t ts here (is_value t) e (even t h.0) (λ e. even_items [] ts here e h.1)
    even_items (public ∷ mask) (item t ts) here e h = one_item t ts here (is_value t) e (even t h.0) (λ e. even_items mask ts here e h.1)
    even_items (hidden q x ∷ mask) (item t ts) here e h = hidden_item t ts here (is_value t) (named_value me roles q x t h.0) e (λ e. even_items mask ts here e h.1)
