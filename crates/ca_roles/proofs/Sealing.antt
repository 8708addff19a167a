-- A sealed term stays sealed: where roles are added, and where a value is put in for a name of its role.
use Rattle.std.proofs.Common.{◌≡◌, ◌≢◌, ℕ, List, [], ◌∷◌, ◌⊎◌, inl, inr, refl, sym, ap, ◌∙◌, subst, Bool, true, false, cond, not, ◌||◌, ◌&&◌, suc, ◌==◌, eqb, eqb-true, eq-eqb, Option, Some, None}
use Rattle.std.proofs.lemmas.Map.{update_apart}
use Rattle.ca_value.specs.Tree.{Tree, Trees, TreePairs, nil, bool, int, text, key, vector, map, port, none as no_trees, item as tree, empty as no_pairs, pair}
use Rattle.ca_term.specs.declared.place.Place.{Place}
use Rattle.ca_term.specs.declared.head.Head.{Head}
use Rattle.ca_term.specs.Kernel.{Kernel, Kernels, Bindings, Founds, const, var, branch, bind, loop, seq, frame, turn, apply, none, item, empty, binding, put, put_items, put_bindings}
use Rattle.ca_term.specs.Fits.{count_terms}
use Rattle.ca_roles.specs.Roles.{Hidden, Role, public, hidden, Roles, no_roles, known_as, Grows, IsPublic, ArePublic, ArePublicPairs, Is}
use Rattle.ca_roles.specs.Sealed.{hides, is_onto, IsHiddenPort, IsNamed, HiddenOperand, IsMake, IsHiddenBound, KeywordIs, no_keyword, a_keyword, HasMask, plain, of_job, of_feed, of_collect, of_mult, SealedFounds, all_public, Sealed, AllSealed, SealedBindings, SealedInits}

mutual
  pub public_more : (roles more : Roles) → Grows roles more → (v : Tree) → IsPublic roles v → IsPublic more v
  public_more roles more g nil h = tt
  public_more roles more g (bool b) h = tt
  public_more roles more g (int z) h = tt
  public_more roles more g (text s) h = tt
  public_more roles more g (key s) h = tt
  public_more roles more g (vector vs) h = all_public_more roles more g vs h
  public_more roles more g (map ps) h = pairs_public_more roles more g ps h
  public_more roles more g (port n) h = g n public h

  pub all_public_more : (roles more : Roles) → Grows roles more → (vs : Trees) → ArePublic roles vs → ArePublic more vs
  all_public_more roles more g no_trees h = tt
  all_public_more roles more g (tree v vs) h = (public_more roles more g v h.0, all_public_more roles more g vs h.1)

  pairs_public_more : (roles more : Roles) → Grows roles more → (ps : TreePairs) → ArePublicPairs roles ps → ArePublicPairs more ps
  pairs_public_more roles more g no_pairs h = tt
  pairs_public_more roles more g (pair k v ps) h = (public_more roles more g k h.0, public_more roles more g v h.1, pairs_public_more roles more g ps h.2)

pub founds_more : (roles more : Roles) → Grows roles more → (fs : Founds) (s e : Roles) → SealedFounds roles fs s e → SealedFounds more fs s e
founds_more roles more g [] s e h = h
founds_more roles more g (x ∷ fs) s e h = (public_more roles more g x.1 h.0, h.1, founds_more roles more g fs (known_as s x.0 public) e h.2)

-- a term stays sealed where roles are added
module _ (me : ℕ) (roles more : Roles) (g : Grows roles more) where
  hidden_more : (x : Hidden) (t : Kernel) → IsHiddenPort me roles x t → IsHiddenPort me more x t
  hidden_more x t i = (i.0, i.1, g i.0 (hidden me x) i.2)

  pub named_more : (s : Roles) (r : Role) (t : Kernel) → IsNamed me roles s r t → IsNamed me more s r t
  named_more s public t h = h
  named_more s (hidden u x) t (e, inl i) = (e, inl (hidden_more x t i))
  named_more s (hidden u x) t (e, inr i) = (e, inr i)

  operand_more : (s : Roles) (r : Role) (t : Kernel) (P Q : Type 0) → (P → Q) → HiddenOperand me roles s r t P → HiddenOperand me more s r t Q
  operand_more s public t P Q f h = f h
  operand_more s (hidden u x) t P Q f h = named_more s (hidden u x) t h

  bound_more : (r : Role) (t : Kernel) (P Q : Type 0) → (P → Q) → IsHiddenBound me roles r t P → IsHiddenBound me more r t Q
  bound_more public t P Q f h = f h
  bound_more (hidden u x) t P Q f (e, inl h) = (e, inl (h.0, f h.1))
  bound_more (hidden u x) t P Q f (e, inr h) = (e, inr (hidden_more x t h))

  mutual
    pub sealed_more : (t : Kernel) (s : Roles) → Sealed me roles t s → Sealed me more t s
    sealed_more (const w) s h = public_more roles more g w h
    sealed_more (var m) s h = h
    sealed_more (branch c x y) s h = (sealed_more c s h.0, sealed_more x s h.1, sealed_more y s h.2)
    sealed_more (bind bs body) s h = (h.0, bindings_more bs s h.0 h.1, sealed_more body h.0 h.2)
    sealed_more (loop fs bs body) s h = (h.0, h.1, inits_more bs s h.0 h.2, founds_more roles more g fs h.0 h.1 h.3, sealed_more body h.1 h.4)
    sealed_more (seq ts) s h = all_sealed_more [] ts s h
    sealed_more (frame body) s h = sealed_more body no_roles h
    sealed_more (turn ns again now) s h = (sealed_more again (all_public ns) h.0, sealed_more now no_roles h.1)
    sealed_more (apply f ts p) s h = (h.0, h.1, all_sealed_more h.0 ts s h.2)

    pub all_sealed_more : (mask : List Role) (ts : Kernels) (s : Roles) → AllSealed me roles mask ts s → AllSealed me more mask ts s
    all_sealed_more mask none s h = tt
    all_sealed_more [] (item t ts) s h = (sealed_more t s h.0, all_sealed_more [] ts s h.1)
    all_sealed_more (r ∷ mask) (item t ts) s h = (operand_more s r t (Sealed me roles t s) (Sealed me more t s) (sealed_more t s) h.0, all_sealed_more mask ts s h.1)

    pub bindings_more : (bs : Bindings) (s e : Roles) → SealedBindings me roles bs s e → SealedBindings me more bs s e
    bindings_more empty s e h = h
    bindings_more (binding k t bs) s e h = (h.0, bound_more h.0 t (Sealed me roles t s) (Sealed me more t s) (sealed_more t s) h.1, h.2, bindings_more bs (known_as s k h.0) e h.3)

    pub inits_more : (bs : Bindings) (s e : Roles) → SealedInits me roles bs s e → SealedInits me more bs s e
    inits_more empty s e h = h
    inits_more (binding k t bs) s e h = (sealed_more t s h.0, h.1, inits_more bs (known_as s k public) e h.2)

-- scopes that agree but for the name n
abbrev pub Agree : ℕ → Roles → Roles → Type 0
Agree n s z = (m : ℕ) → m ≢ n → z m ≡ s m

pub known_other : (s : Roles) (k n : ℕ) (r : Role) → n ≢ k → known_as s k r n ≡ s n
known_other s k n r ne = update_apart s k (Some r) n ne

agree_more : (n k : ℕ) (r : Role) (s z : Roles) → Agree n s z → Agree n (known_as s k r) (known_as z k r)
agree_more n k r s z a m ne = by (eqb k m) where
  by : (b : Bool) → cond b (Some r) (z m) ≡ cond b (Some r) (s m)
  by true = refl
  by false = a m ne

-- The value v is put in for the name n of its role. Roles may have been added since.
module _ (me : ℕ) (roles more : Roles) (g : Grows roles more) (n : ℕ) (v : Tree) (role : Role) (is : Is more role v) where
  same_role : (a b : Role) → Some a ≡ Some b → a ≡ b
  same_role a b e = cc

  -- a name of this role gets a value of the role
  put_name : (s z : Roles) (m : ℕ) (r : Role) → s n ≡ Some role → s m ≡ Some r → Agree n s z → (b : Bool) → (m == n) ≡ b → (P : Kernel → Type 0) → ((w : Tree) → Is more r w → P (const w)) → (z m ≡ Some r → P (var m)) → P (cond b (const v) (var m))
  put_name s z m r at there a true e P c f = c v (subst (λ q. Is more q v) (same_role role r (sym at ∙ ap s (sym (eqb-true m n e)) ∙ there)) is)
  put_name s z m r at there a false e P c f = f (a m (λ k. let j : true ≡ false = sym (eq-eqb m n k) ∙ e in cc) ∙ there)

  put_hidden : (x : Hidden) (t : Kernel) → IsHiddenPort me roles x t → IsHiddenPort me more x (put n v t)
  put_hidden x t i = (i.0, ap (put n v) i.1, g i.0 (hidden me x) i.2)

  put_named : (s z : Roles) (r : Role) (t : Kernel) → s n ≡ Some role → Agree n s z → IsNamed me roles s r t → IsNamed me more z r (put n v t)
  put_named s z public t at a h = h
  put_named s z (hidden u x) t at a (e, inl i) = (e, inl (put_hidden x t i))
  put_named s z (hidden u x) t at a (e, inr i) = (e, subst (λ k. IsHiddenPort me more x (put n v k) ⊎ ((m : ℕ) × (put n v k ≡ var m) × (z m ≡ Some (hidden me x)))) (sym i.1) (put_name s z i.0 (hidden me x) at i.2 a (i.0 == n) refl (λ k. IsHiddenPort me more x k ⊎ ((m : ℕ) × (k ≡ var m) × (z m ≡ Some (hidden me x)))) (λ w k. inl (k.0, ap const k.1, k.2)) (λ k. inr (i.0, refl, k))))

  put_operand : (s z : Roles) (r : Role) (t : Kernel) → s n ≡ Some role → Agree n s z → (P Q : Type 0) → (P → Q) → HiddenOperand me roles s r t P → HiddenOperand me more z r (put n v t) Q
  put_operand s z public t at a P Q f h = f h
  put_operand s z (hidden u x) t at a P Q f h = put_named s z (hidden u x) t at a h

  put_make : (x : Hidden) (t : Kernel) → IsMake x t → IsMake x (put n v t)
  put_make x t h = (h.0, put_items n v h.1, h.2, ap (put n v) h.3, h.4)

  put_bound : (r : Role) (t : Kernel) (P Q : Type 0) → (P → Q) → IsHiddenBound me roles r t P → IsHiddenBound me more r (put n v t) Q
  put_bound public t P Q f h = f h
  put_bound (hidden u x) t P Q f (e, inl h) = (e, inl (put_make x t h.0, f h.1))
  put_bound (hidden u x) t P Q f (e, inr h) = (e, inr (put_hidden x t h))

  put_keyword : (k : Tree) (ts : Kernels) → KeywordIs k ts → KeywordIs k (put_items n v ts)
  put_keyword k ts no_keyword = no_keyword
  put_keyword k ts a_keyword = a_keyword

  put_count : (ts : Kernels) → count_terms (put_items n v ts) ≡ count_terms ts
  put_count none = refl
  put_count (item t ts) = ap suc (put_count ts)

  put_mask : (h : Head) (p : Place) (ts : Kernels) (mask : List Role) → HasMask me h p ts mask → HasMask me h p (put_items n v ts) mask
  put_mask h p ts mask (plain e) = plain (ap (λ k. hides h || (is_onto h && not (k == 4))) (put_count ts) ∙ e)
  put_mask h p ts mask (of_job w k) = of_job w (put_keyword w.keyword ts k)
  put_mask h p ts mask (of_feed w) = of_feed w
  put_mask h p ts mask (of_collect w) = of_collect w
  put_mask h p ts mask of_mult = of_mult

  fresh_apart : (s : Roles) (k : ℕ) → s n ≡ Some role → s k ≡ None → n ≢ k
  fresh_apart s k at free e = let j : None ≡ Some role = sym free ∙ ap s (sym e) ∙ at in cc

  fresh_still : (s z : Roles) (k : ℕ) → s n ≡ Some role → s k ≡ None → Agree n s z → z k ≡ None
  fresh_still s z k at free a = a k (λ e. fresh_apart s k at free (sym e)) ∙ free

  -- Scope z agrees with e but for n, which has its role in e. In z the name n is still what it was in the scope of
  -- which z is made.
  abbrev pub Beside : Option Role → Roles → Roles → Type 0
  Beside was e z = (e n ≡ Some role) × Agree n e z × (z n ≡ was)

  beside_more : (was : Option Role) (s z : Roles) (k : ℕ) (r : Role) → Beside was s z → s k ≡ None → Beside was (known_as s k r) (known_as z k r)
  beside_more was s z k r b free = (known_other s k n r (fresh_apart s k b.0 free) ∙ b.0, agree_more n k r s z b.1, known_other z k n r (fresh_apart s k b.0 free) ∙ b.2)

  pub put_founds : (was : Option Role) (fs : Founds) (s z e : Roles) → Beside was s z → SealedFounds roles fs s e → (e2 : Roles) × SealedFounds more fs z e2 × Beside was e e2
  put_founds was [] s z e b h = (z, refl, subst (λ (y : Roles). Beside was y z) (sym h) b)
  put_founds was (x ∷ fs) s z e b h =
      let k = put_founds was fs (known_as s x.0 public) (known_as z x.0 public) e (beside_more was s z x.0 public b h.1) h.2 in
      (k.0, (public_more roles more g x.1 h.0, fresh_still s z x.0 b.0 h.1 b.1, k.1), k.2)

  mutual
    pub put_sealed : (t : Kernel) (s z : Roles) → s n ≡ Some role → Agree n s z → Sealed me roles t s → Sealed me more (put n v t) z
    put_sealed (const w) s z at a h = public_more roles more g w h
    put_sealed (var m) s z at a h = put_name s z m public at h a (m == n) refl (λ k. Sealed me more k z) (λ w i. i) (λ e. e)
    put_sealed (branch c x y) s z at a h = (put_sealed c s z at a h.0, put_sealed x s z at a h.1, put_sealed y s z at a h.2)
    put_sealed (bind bs body) s z at a h = let k = put_bindings_sealed (z n) bs s z h.0 (at, a, refl) h.1 in (k.0, k.1, put_sealed body h.0 k.0 k.2.0 k.2.1 h.2)
    put_sealed (loop fs bs body) s z at a h =
        let f = put_inits (z n) bs s z h.0 (at, a, refl) h.2 in
        let k = put_founds (z n) fs h.0 f.0 h.1 f.2 h.3 in
        (f.0, k.0, f.1, k.1, put_sealed body h.1 k.0 k.2.0 k.2.1 h.4)
    put_sealed (seq ts) s z at a h = put_all_sealed [] ts s z at a h
    put_sealed (frame body) s z at a h = sealed_more me roles more g body no_roles h
    put_sealed (turn ns again now) s z at a h = (sealed_more me roles more g again (all_public ns) h.0, sealed_more me roles more g now no_roles h.1)
    put_sealed (apply f ts p) s z at a h = (h.0, put_mask f p ts h.0 h.1, put_all_sealed h.0 ts s z at a h.2)

    pub put_all_sealed : (mask : List Role) (ts : Kernels) (s z : Roles) → s n ≡ Some role → Agree n s z → AllSealed me roles mask ts s → AllSealed me more mask (put_items n v ts) z
    put_all_sealed mask none s z at a h = tt
    put_all_sealed [] (item t ts) s z at a h = (put_sealed t s z at a h.0, put_all_sealed [] ts s z at a h.1)
    put_all_sealed (r ∷ mask) (item t ts) s z at a h = (put_operand s z r t at a (Sealed me roles t s) (Sealed me more (put n v t) z) (put_sealed t s z at a) h.0, put_all_sealed mask ts s z at a h.1)

    pub put_bindings_sealed : (was : Option Role) (bs : Bindings) (s z e : Roles) → Beside was s z → SealedBindings me roles bs s e → (e2 : Roles) × SealedBindings me more (put_bindings n v bs) z e2 × Beside was e e2
    put_bindings_sealed was empty s z e b h = (z, refl, subst (λ (y : Roles). Beside was y z) (sym h) b)
    put_bindings_sealed was (binding k t bs) s z e b h =
        let j = put_bindings_sealed was bs (known_as s k h.0) (known_as z k h.0) e (beside_more was s z k h.0 b h.2) h.3 in
        (j.0, (h.0, put_bound h.0 t (Sealed me roles t s) (Sealed me more (put n v t) z) (put_sealed t s z b.0 b.1) h.1, fresh_still s z k b.0 h.2 b.1, j.1), j.2)

    pub put_inits : (was : Option Role) (bs : Bindings) (s z e : Roles) → Beside was s z → SealedInits me roles bs s e → (e2 : Roles) × SealedInits me more (put_bindings n v bs) z e2 × Beside was e e2
    put_inits was empty s z e b h = (z, refl, subst (λ (y : Roles). Beside was y z) (sym h) b)
    put_inits was (binding k t bs) s z e b h =
        let j = put_inits was bs (known_as s k public) (known_as z k public) e (beside_more was s z k public b h.1) h.2 in
        (j.0, (put_sealed t s z b.0 b.1 h.0, fresh_still s z k b.0 h.1 b.1, j.1), j.2)
