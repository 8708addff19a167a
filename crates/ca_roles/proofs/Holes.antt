-- The place of a sealed term's redex: what may stand there.
use Rattle.std.proofs.Common.{◌≡◌, ℕ, List, [], ◌∷◌, ◌⊎◌, inl, inr, refl, sym, ap, ◌∙◌, subst, Bool, true, false, cond, not, ◌||◌, ◌&&◌, ◌==◌, suc, arith, Some, None}
use Rattle.ca_value.specs.Tree.{Tree, nil, port}
use Rattle.ca_term.specs.declared.place.Place.{Place}
use Rattle.ca_term.specs.declared.head.MakeKind.{MakeKind}
use Rattle.ca_term.specs.declared.head.Head.{Head}
use Rattle.ca_term.specs.declared.head.Head.TheVariants.{Make, Spawn}
use Rattle.ca_term.specs.declared.head.SeedKind.TheVariants.{System}
use Rattle.ca_term.specs.declared.head.SystemTask.TheVariants.{Collect}
use Rattle.ca_term.specs.Fits.{count_terms}
use Rattle.ca_meaning.specs.Applied.{Work}
use Rattle.ca_term.specs.Kernel.{Kernel, Kernels, const, var, branch, bind, loop, seq, frame, turn, apply, none, item, empty, binding}
use Rattle.ca_meaning.specs.Redex.{redex, redex_items, replace, replace_items, is_value, all_values, is_ready_recur}
use Rattle.ca_meaning.proofs.Sizes.{redex_items-values}
use Rattle.ca_roles.specs.Roles.{Hidden, replies, Role, public, hidden, Roles, no_roles, known_as, Grows}
use Rattle.ca_roles.specs.Sealed.{hides, is_onto, IsNamed, HasHiddenBuffer, IsMake, IsHiddenPort, IsHiddenBound, KeywordIs, no_keyword, a_keyword, HasMask, plain, of_job, of_feed, of_collect, of_mult, Sealed, AllSealed, SealedBindings, all_public}
use Rattle.ca_roles.proofs.Sealing.{sealed_more, all_sealed_more, bindings_more, inits_more, founds_more}

-- The place of the redex: a public one, or the Make of a hidden name, whose answer is a hidden port. C is
-- what the whole becomes, where roles may have been added.
abbrev pub Hole : ℕ → Roles → Kernel → (Roles → Kernel → Type 0) → Type 0
Hole me roles here C =
    (Sealed me roles here no_roles × ((more : Roles) (u : Kernel) → Grows roles more → Sealed me more u no_roles → C more u))
    ⊎ ((x : Hidden) × IsMake x here × Sealed me roles here no_roles × ((more : Roles) (p : ℕ) → Grows roles more → more p ≡ Some (hidden me x) → C more (const (port p))))

hole_in : (me : ℕ) (roles : Roles) (here : Kernel) (C D : Roles → Kernel → Type 0) → ((more : Roles) (u : Kernel) → Grows roles more → C more u → D more u) → Hole me roles here C → Hole me roles here D
hole_in me roles here C D f (inl h) = inl (h.0, λ more u g k. f more u g (h.1 more u g k))
hole_in me roles here C D f (inr h) = inr (h.0, h.1, h.2, λ more p g e. f more (const (port p)) g (h.3 more p g e))

whole : (me : ℕ) (roles : Roles) (here : Kernel) → Sealed me roles here no_roles → Hole me roles here (λ more u. Sealed me more u no_roles)
whole me roles here h = inl (h, λ more u g k. k)

replaced_keyword : (k : Tree) (u : Kernel) (ts : Kernels) → KeywordIs k ts → KeywordIs k (replace_items u ts)
replaced_keyword k u ts (no_keyword {j}) = by (is_value j) where
  by : (b : Bool) → KeywordIs nil (cond b (item j none) (item (replace u j) none))
  by true = no_keyword
  by false = no_keyword
replaced_keyword k u ts (a_keyword {j}) = by (is_value j) where
  by : (b : Bool) → KeywordIs k (cond b (item j (item (const k) none)) (item (replace u j) (item (const k) none)))
  by true = a_keyword
  by false = a_keyword

replaced_count : (u : Kernel) (ts : Kernels) → count_terms (replace_items u ts) ≡ count_terms ts
replaced_count u none = refl
replaced_count u (item t ts) = by (is_value t) (replaced_count u ts) where
  by : (b : Bool) → count_terms (replace_items u ts) ≡ count_terms ts → count_terms (cond b (item t (replace_items u ts)) (item (replace u t) ts)) ≡ suc (count_terms ts)
  by true e = ap suc e
  by false e = refl

collect_mask : (me : ℕ) (w : Work) (p : Place) (ts : Kernels) → count_terms ts ≡ 4 → HasMask me (Spawn (System Collect)) p ts (hidden me (replies w) ∷ [])
collect_mask me w p none e = absurd (let k : 0 ≡ 4 = e in cc)
collect_mask me w p (item a none) e = absurd (let k : 1 ≡ 4 = e in cc)
collect_mask me w p (item a (item b none)) e = absurd (let k : 2 ≡ 4 = e in cc)
collect_mask me w p (item a (item b (item c none))) e = absurd (let k : 3 ≡ 4 = e in cc)
collect_mask me w p (item a (item b (item c (item d none)))) e = of_collect w
collect_mask me w p (item a (item b (item c (item d (item f ts))))) e = absurd (let k : suc (suc (suc (suc (suc (count_terms ts))))) ≡ 4 = e in omega (arith, k))

replaced_mask : (me : ℕ) (u : Kernel) (h : Head) (p : Place) (ts : Kernels) (mask : List Role) → HasMask me h p ts mask → HasMask me h p (replace_items u ts) mask
replaced_mask me u h p ts mask (plain e) = plain (ap (λ k. hides h || (is_onto h && not (k == 4))) (replaced_count u ts) ∙ e)
replaced_mask me u h p ts mask (of_job w k) = of_job w (replaced_keyword w.keyword u ts k)
replaced_mask me u h p ts mask (of_feed w) = of_feed w
replaced_mask me u h p ts mask (of_collect w) = collect_mask me w p (replace_items u ts) (replaced_count u ts)
replaced_mask me u h p ts mask of_mult = of_mult

-- a hidden operand of a term without free names is a value
pub named_value : (me : ℕ) (roles : Roles) (o : ℕ) (x : Hidden) (t : Kernel) → IsNamed me roles no_roles (hidden o x) t → is_value t ≡ true
named_value me roles o x t (own, inl i) = ap is_value i.1
named_value me roles o x t (own, inr i) = absurd (let k : None ≡ Some (hidden me x) = i.2 in cc)

hidden_value : (me : ℕ) (roles : Roles) (x : Hidden) (t : Kernel) → IsHiddenPort me roles x t → is_value t ≡ true
hidden_value me roles x t i = ap is_value i.1

module _ (me : ℕ) (roles : Roles) where
  abbrev Whole : Kernel → Type 0
  Whole t = Hole me roles (redex t) (λ more u. Sealed me more (replace u t) no_roles)

  -- the Make of a hidden name, where its operands are values or not
  hole_of_make : (o : ℕ) (x : Hidden) (kind : MakeKind) (ts : Kernels) (p : Place) → o ≡ me → HasHiddenBuffer x kind → Sealed me roles (apply (Make kind) ts p) no_roles → Whole (apply (Make kind) ts p) → Hole me roles (redex (apply (Make kind) ts p)) (λ more u. IsHiddenBound me more (hidden o x) (replace u (apply (Make kind) ts p)) (Sealed me more (replace u (apply (Make kind) ts p)) no_roles))
  hole_of_make o x kind ts p own holds h hole = by (all_values ts) refl hole where
    there : all_values ts ≡ true → redex (apply (Make kind) ts p) ≡ apply (Make kind) ts p
    there e = redex_items-values ts (apply (Make kind) ts p) e

    by : (b : Bool) → all_values ts ≡ b → Hole me roles (redex (apply (Make kind) ts p)) (λ more u. Sealed me more (cond b u (apply (Make kind) (replace_items u ts) p)) no_roles) → Hole me roles (redex (apply (Make kind) ts p)) (λ more u. IsHiddenBound me more (hidden o x) (cond b u (apply (Make kind) (replace_items u ts) p)) (Sealed me more (cond b u (apply (Make kind) (replace_items u ts) p)) no_roles))
    by true e k = inr (x, (kind, ts, p, there e, holds), subst (λ (z : Kernel). Sealed me roles z no_roles) (sym (there e)) h, λ more q g is. (own, inr (q, refl, is)))
    by false e k = hole_in me roles (redex (apply (Make kind) ts p)) _ _ (λ more u g s. (own, inl ((kind, replace_items u ts, p, refl, holds), s))) k

  hole_of_bound : (o : ℕ) (x : Hidden) (t : Kernel) → is_value t ≡ false → IsHiddenBound me roles (hidden o x) t (Sealed me roles t no_roles) → (Sealed me roles t no_roles → Whole t) → Hole me roles (redex t) (λ more u. IsHiddenBound me more (hidden o x) (replace u t) (Sealed me more (replace u t) no_roles))
  hole_of_bound o x t e (own, inr i) f = absurd (let k : true ≡ false = sym (hidden_value me roles x t i) ∙ e in cc)
  hole_of_bound o x t e (own, inl h) f = subst (λ (z : Kernel). Sealed me roles z no_roles → Whole z → Hole me roles (redex z) (λ more u. IsHiddenBound me more (hidden o x) (replace u z) (Sealed me more (replace u z) no_roles))) (sym h.0.3) (hole_of_make o x h.0.0 h.0.1 h.0.2 own h.0.4) h.1 (f h.1)

  mutual
    pub hole : (t : Kernel) → Sealed me roles t no_roles → Whole t
    hole (const v) h = whole me roles (const v) h
    hole (var n) h = whole me roles (var n) h
    hole (branch c a b) h = by (is_value c) (hole c h.0) where
      by : (v : Bool) → Whole c → Hole me roles (cond v (branch c a b) (redex c)) (λ more u. Sealed me more (cond v u (branch (replace u c) a b)) no_roles)
      by true k = whole me roles (branch c a b) h
      by false k = hole_in me roles (redex c) _ _ (λ more u g s. (s, sealed_more me roles more g a no_roles h.1, sealed_more me roles more g b no_roles h.2)) k
    hole (bind empty body) h = whole me roles (bind empty body) h
    hole (bind (binding n t bs) body) h = by (is_value t) refl (hole t) where
      -- with another term there
      behind : (more : Roles) (g : Grows roles more) (r : Role) (x : Kernel) → SealedBindings me roles bs (known_as no_roles n r) h.0 → IsHiddenBound me more r x (Sealed me more x no_roles) → Sealed me more (bind (binding n x bs) body) no_roles
      behind more g r x s b = (h.0, (r, b, h.1.2, bindings_more me roles more g bs (known_as no_roles n r) h.0 s), sealed_more me roles more g body h.0 h.2)

      open_at : (Sealed me roles t no_roles → Whole t) → is_value t ≡ false → (r : Role) → IsHiddenBound me roles r t (Sealed me roles t no_roles) → SealedBindings me roles bs (known_as no_roles n r) h.0 → Hole me roles (redex t) (λ more u. Sealed me more (bind (binding n (replace u t) bs) body) no_roles)
      open_at f e public b s = hole_in me roles (redex t) _ _ (λ more u g k. behind more g public (replace u t) s k) (f b)
      open_at f e (hidden o x) b s = hole_in me roles (redex t) _ _ (λ more u g k. behind more g (hidden o x) (replace u t) s k) (hole_of_bound o x t e b f)

      by : (v : Bool) → is_value t ≡ v → (Sealed me roles t no_roles → Whole t) → Hole me roles (cond v (bind (binding n t bs) body) (redex t)) (λ more u. Sealed me more (cond (not v) (bind (binding n (replace u t) bs) body) u) no_roles)
      by true e f = whole me roles (bind (binding n t bs) body) h
      by false e f = open_at f e h.1.0 h.1.1 h.1.3
    hole (loop fs empty body) h = whole me roles (loop fs empty body) h
    hole (loop fs (binding n t bs) body) h = by (is_value t) (hole t h.2.0) where
      by : (v : Bool) → Whole t → Hole me roles (cond v (loop fs (binding n t bs) body) (redex t)) (λ more u. Sealed me more (cond (not v) (loop fs (binding n (replace u t) bs) body) u) no_roles)
      by true k = whole me roles (loop fs (binding n t bs) body) h
      by false k = hole_in me roles (redex t) _ _ (λ more u g s. (h.0, h.1, (s, h.2.1, inits_more me roles more g bs (known_as no_roles n public) h.0 h.2.2), founds_more roles more g fs h.0 h.1 h.3, sealed_more me roles more g body h.1 h.4)) k
    hole (seq none) h = whole me roles (seq none) h
    hole (seq (item t none)) h = whole me roles (seq (item t none)) h
    hole (seq (item t (item w ws))) h = by (is_value t) (hole t h.0) where
      by : (v : Bool) → Whole t → Hole me roles (cond v (seq (item t (item w ws))) (redex t)) (λ more u. Sealed me more (cond v u (seq (item (replace u t) (item w ws)))) no_roles)
      by true k = whole me roles (seq (item t (item w ws))) h
      by false k = hole_in me roles (redex t) _ _ (λ more u g s. (s, all_sealed_more me roles more g [] (item w ws) no_roles h.1)) k
    hole (frame body) h = by (is_value body) (hole body h) where
      by : (v : Bool) → Whole body → Hole me roles (cond v (frame body) (redex body)) (λ more u. Sealed me more (cond v u (frame (replace u body))) no_roles)
      by true k = whole me roles (frame body) h
      by false k = k
    hole (turn ns again now) h = by (is_value now) (is_ready_recur now) (hole now h.1) where
      by : (v r : Bool) → Whole now → Hole me roles (cond v (turn ns again now) (cond r (turn ns again now) (redex now))) (λ more u. Sealed me more (cond v u (cond r u (turn ns again (replace u now)))) no_roles)
      by true r k = whole me roles (turn ns again now) h
      by false true k = whole me roles (turn ns again now) h
      by false false k = hole_in me roles (redex now) _ _ (λ more u g s. (sealed_more me roles more g again (all_public ns) h.0, s)) k
    hole (apply f ts p) h = by (all_values ts) refl (λ e. items_hole h.0 ts (apply f ts p) e h.2) where
      by : (v : Bool) → all_values ts ≡ v → (all_values ts ≡ false → Hole me roles (redex_items ts (apply f ts p)) (λ more u. AllSealed me more h.0 (replace_items u ts) no_roles)) → Hole me roles (redex_items ts (apply f ts p)) (λ more u. Sealed me more (cond v u (apply f (replace_items u ts) p)) no_roles)
      by true e k = subst (λ z. Hole me roles z (λ more u. Sealed me more u no_roles)) (sym (redex_items-values ts (apply f ts p) e)) (whole me roles (apply f ts p) h)
      by false e k = hole_in me roles (redex_items ts (apply f ts p)) _ _ (λ more u g s. (h.0, replaced_mask me u f p ts h.0 h.1, s)) (k e)

    items_hole : (mask : List Role) (ts : Kernels) (here : Kernel) → all_values ts ≡ false → AllSealed me roles mask ts no_roles → Hole me roles (redex_items ts here) (λ more u. AllSealed me more mask (replace_items u ts) no_roles)
    items_hole mask none here e h = absurd (let k : true ≡ false = e in cc)
    items_hole [] (item t ts) here e h = by (is_value t) e (hole t h.0) (λ e. items_hole [] ts here e h.1) where
      by : (v : Bool) → v && all_values ts ≡ false → Whole t → (all_values ts ≡ false → Hole me roles (redex_items ts here) (λ more u. AllSealed me more [] (replace_items u ts) no_roles)) → Hole me roles (cond v (redex_items ts here) (redex t)) (λ more u. AllSealed me more [] (cond v (item t (replace_items u ts)) (item (replace u t) ts)) no_roles)
      by true e k r = hole_in me roles (redex_items ts here) _ _ (λ more u g s. (sealed_more me roles more g t no_roles h.0, s)) (r e)
      by false e k r = hole_in me roles (redex t) _ _ (λ more u g s. (s, all_sealed_more me roles more g [] ts no_roles h.1)) k
    items_hole (public ∷ mask) (item t ts) here e h = by (is_value t) e (hole t h.0) (λ e. items_hole mask ts here e h.1) where
      by : (v : Bool) → v && all_values ts ≡ false → Whole t → (all_values ts ≡ false → Hole me roles (redex_items ts here) (λ more u. AllSealed me more mask (replace_items u ts) no_roles)) → Hole me roles (cond v (redex_items ts here) (redex t)) (λ more u. AllSealed me more (public ∷ mask) (cond v (item t (replace_items u ts)) (item (replace u t) ts)) no_roles)
      by true e k r = hole_in me roles (redex_items ts here) _ _ (λ more u g s. (sealed_more me roles more g t no_roles h.0, s)) (r e)
      by false e k r = hole_in me roles (redex t) _ _ (λ more u g s. (s, all_sealed_more me roles more g mask ts no_roles h.1)) k
    items_hole (hidden o x ∷ mask) (item t ts) here e h = by (is_value t) (named_value me roles o x t h.0) e (λ e. items_hole mask ts here e h.1) where
      by : (v : Bool) → v ≡ true → v && all_values ts ≡ false → (all_values ts ≡ false → Hole me roles (redex_items ts here) (λ more u. AllSealed me more mask (replace_items u ts) no_roles)) → Hole me roles (cond v (redex_items ts here) (redex t)) (λ more u. AllSealed me more (hidden o x ∷ mask) (cond v (item t (replace_items u ts)) (item (replace u t) ts)) no_roles)
      by true y e r = hole_in me roles (redex_items ts here) _ _ (λ more u g s. ((all_sealed_more me roles more g (hidden o x ∷ []) (item t none) no_roles (h.0, tt)).0, s)) (r e)
      by false y e r = absurd (let k : false ≡ true = y in cc)
