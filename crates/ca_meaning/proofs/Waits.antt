-- Lists of waits and the queues that they make.
use Rattle.std.proofs.Common.{◌≡◌, ◌⊎◌, inl, inr, ⊎_elim, ℕ, suc, List, [], ◌∷◌, ◌++◌, refl, sym, ap, ◌∙◌, subst, Bool, true, false, not, cond, Option, Some, None, eqb, eqb-true, eq-eqb, ne_eqb, filter, append_assoc, append-nil, slice_get}
use Rattle.std.proofs.lemmas.Bool.{eqb-false}
use Rattle.std.proofs.lemmas.List.Elements.{filter-append}
use Rattle.ca_value.specs.Tree.{Tree}
use Rattle.ca_term.specs.declared.event.Side.{Side}
use Rattle.ca_term.specs.declared.event.Side.TheVariants.{Take, Put}
use Rattle.ca_term.specs.Event.{BranchView, take_of, put_of}
use Rattle.ca_meaning.specs.Sound.{Each}
use Rattle.ca_meaning.specs.Wait.{Wait, Handler, is_on, port_of, brought, handlers, queue, head, front, without, is_live, owner_of}

pub each-append : {A : Type 0} (P : A → Type 0) (xs ys : List A) → Each P xs → Each P ys → Each P (xs ++ ys)
each-append P [] ys a b = b
each-append P (x ∷ xs) ys a b = (a.0, each-append P xs ys a.1 b)

pub each-weaker : {A : Type 0} (P Q : A → Type 0) (xs : List A) → ((x : A) → P x → Q x) → Each P xs → Each Q xs
each-weaker P Q [] f a = tt
each-weaker P Q (x ∷ xs) f a = (f x a.0, each-weaker P Q xs f a.1)

pub each-filter : {A : Type 0} (P : A → Type 0) (t : A → Bool) (xs : List A) → Each P xs → Each P (filter t xs)
each-filter P t [] a = tt
each-filter P t (x ∷ xs) a = by (t x) (each-filter P t xs a.1) where
  by : (b : Bool) → Each P (filter t xs) → Each P (cond b (x ∷ filter t xs) (filter t xs))
  by true r = (a.0, r)
  by false r = r

pub each-head : {A : Type 0} (P : A → Type 0) (xs : List A) (x : A) → Each P xs → head xs ≡ Some x → P x
each-head P [] x a e = absurd (let k : None ≡ Some x = e in cc)
each-head P (y ∷ ys) x a e = subst P (let k : y ≡ x = cc in k) a.0

-- the handlers of a wait bear its number
pub handlers_of : (side : Side) (p w k : ℕ) (bs : List BranchView) → Each (λ (h : Handler). h.wait ≡ w) (handlers side p w k bs)
handlers_of side p w k [] = tt
handlers_of side p w k (b ∷ bs) = by (is_on side p b) (handlers_of side p w (suc k) bs) where
  by : (t : Bool) → Each (λ (h : Handler). h.wait ≡ w) (handlers side p w (suc k) bs)
      → Each (λ (h : Handler). h.wait ≡ w) (cond t (record { wait = w; branch = k; value = brought b } ∷ handlers side p w (suc k) bs) (handlers side p w (suc k) bs))
  by true a = (refl, a)
  by false a = a

filter_none : {A : Type 0} (t : A → Bool) (xs : List A) → Each (λ x. t x ≡ false) xs → filter t xs ≡ []
filter_none t [] a = refl
filter_none t (x ∷ xs) a = ap (λ c. cond c (x ∷ filter t xs) (filter t xs)) a.0 ∙ filter_none t xs a.1

filter_all : {A : Type 0} (t : A → Bool) (xs : List A) → Each (λ x. t x ≡ true) xs → filter t xs ≡ xs
filter_all t [] a = refl
filter_all t (x ∷ xs) a = ap (λ c. cond c (x ∷ filter t xs) (filter t xs)) a.0 ∙ ap (λ l. x ∷ l) (filter_all t xs a.1)

abbrev pub other : ℕ → Handler → Bool
other w h = not (eqb w h.wait)

-- the queue of the waits without w is the queue without w's handlers
pub queue_without : (side : Side) (p w : ℕ) (ws : List Wait) → queue side p (without w ws) ≡ filter (other w) (queue side p ws)
queue_without side p w [] = refl
queue_without side p w (x ∷ xs) = by (eqb w x.number) refl (queue_without side p w xs) ∙ sym (filter-append (other w) (handlers side p x.number 0 x.branches) (queue side p xs)) where
  by : (b : Bool) → eqb w x.number ≡ b → queue side p (without w xs) ≡ filter (other w) (queue side p xs) → queue side p (cond (not b) (x ∷ without w xs) (without w xs)) ≡ filter (other w) (handlers side p x.number 0 x.branches) ++ filter (other w) (queue side p xs)
  by true e ih = ih ∙ ap (λ l. l ++ filter (other w) (queue side p xs)) (sym (filter_none (other w) (handlers side p x.number 0 x.branches)
      (each-weaker (λ (h : Handler). h.wait ≡ x.number) (λ h. other w h ≡ false) (handlers side p x.number 0 x.branches) (λ h is. ap (λ n. not (eqb w n)) is ∙ ap not e) (handlers_of side p x.number 0 x.branches))))
  by false e ih = ap (λ l. handlers side p x.number 0 x.branches ++ l) ih ∙ ap (λ l. l ++ filter (other w) (queue side p xs)) (sym (filter_all (other w) (handlers side p x.number 0 x.branches)
      (each-weaker (λ (h : Handler). h.wait ≡ x.number) (λ h. other w h ≡ true) (handlers side p x.number 0 x.branches) (λ h is. ap (λ n. not (eqb w n)) is ∙ ap not e) (handlers_of side p x.number 0 x.branches))))

pub queue-append : (side : Side) (p : ℕ) (xs ys : List Wait) → queue side p (xs ++ ys) ≡ queue side p xs ++ queue side p ys
queue-append side p [] ys = refl
queue-append side p (x ∷ xs) ys = ap (λ l. handlers side p x.number 0 x.branches ++ l) (queue-append side p xs ys) ∙ sym (append_assoc (handlers side p x.number 0 x.branches) (queue side p xs) (queue side p ys))

pub queue_joined : (side : Side) (p : ℕ) (ws : List Wait) (x : Wait) → queue side p (ws ++ x ∷ []) ≡ queue side p ws ++ handlers side p x.number 0 x.branches
queue_joined side p ws x = queue-append side p ws (x ∷ []) ∙ ap (λ l. queue side p ws ++ l) (append-nil (handlers side p x.number 0 x.branches))

pub not_live : (w : ℕ) (ws : List Wait) → is_live w (without w ws) ≡ false
not_live w [] = refl
not_live w (x ∷ xs) = by (eqb w x.number) refl (not_live w xs) where
  by : (b : Bool) → eqb w x.number ≡ b → is_live w (without w xs) ≡ false → is_live w (cond (not b) (x ∷ without w xs) (without w xs)) ≡ false
  by true e ih = ih
  by false e ih = ap (λ c. cond c true (is_live w (without w xs))) e ∙ ih

pub live_else : (v w : ℕ) (ws : List Wait) → eqb w v ≡ false → is_live v (without w ws) ≡ is_live v ws
live_else v w [] ne = refl
live_else v w (x ∷ xs) ne = by (eqb w x.number) refl (live_else v w xs ne) where
  by : (b : Bool) → eqb w x.number ≡ b → is_live v (without w xs) ≡ is_live v xs → is_live v (cond (not b) (x ∷ without w xs) (without w xs)) ≡ cond (eqb v x.number) true (is_live v xs)
  by true e ih = ih ∙ sym (ap (λ c. cond c true (is_live v xs)) (ne_eqb v x.number (λ is. eqb-false w v ne (eqb-true w x.number e ∙ sym is))))
  by false e ih = ap (λ (c : Bool). cond (eqb v x.number) true c) ih

-- owners alike
pub owner_gone : (w : ℕ) (ws : List Wait) → owner_of w (without w ws) ≡ None
owner_gone w [] = refl
owner_gone w (x ∷ xs) = by (eqb w x.number) refl (owner_gone w xs) where
  by : (b : Bool) → eqb w x.number ≡ b → owner_of w (without w xs) ≡ None → owner_of w (cond (not b) (x ∷ without w xs) (without w xs)) ≡ None
  by true e ih = ih
  by false e ih = ap (λ c. cond c x.owner (owner_of w (without w xs))) e ∙ ih

pub owner_else : (v w : ℕ) (ws : List Wait) → eqb w v ≡ false → owner_of v (without w ws) ≡ owner_of v ws
owner_else v w [] ne = refl
owner_else v w (x ∷ xs) ne = by (eqb w x.number) refl (owner_else v w xs ne) where
  by : (b : Bool) → eqb w x.number ≡ b → owner_of v (without w xs) ≡ owner_of v xs → owner_of v (cond (not b) (x ∷ without w xs) (without w xs)) ≡ cond (eqb v x.number) x.owner (owner_of v xs)
  by true e ih = ih ∙ sym (ap (λ c. cond c x.owner (owner_of v xs)) (ne_eqb v x.number (λ is. eqb-false w v ne (eqb-true w x.number e ∙ sym is))))
  by false e ih = ap (λ (c : Option ℕ). cond (eqb v x.number) x.owner c) ih

pub live-append : (w : ℕ) (xs : List Wait) (y : Wait) → is_live w (xs ++ y ∷ []) ≡ cond (eqb w y.number) true (is_live w xs)
live-append w [] y = refl
live-append w (x ∷ xs) y = by (eqb w x.number) (eqb w y.number) (live-append w xs y) where
  by : (b c : Bool) → is_live w (xs ++ y ∷ []) ≡ cond c true (is_live w xs) → cond b true (is_live w (xs ++ y ∷ [])) ≡ cond c true (cond b true (is_live w xs))
  by true true e = refl
  by true false e = refl
  by false c e = e

-- of a wait that isn't the last one the owner is as before
pub owner_before : (w : ℕ) (xs : List Wait) (y : Wait) → eqb w y.number ≡ false → owner_of w (xs ++ y ∷ []) ≡ owner_of w xs
owner_before w [] y ne = ap (λ c. cond c y.owner None) ne
owner_before w (x ∷ xs) y ne = ap (λ (o : Option ℕ). cond (eqb w x.number) x.owner o) (owner_before w xs y ne)

-- of a wait that wasn't there before it is that of the new one
pub owner_joined : (xs : List Wait) (y : Wait) → is_live y.number xs ≡ false → owner_of y.number (xs ++ y ∷ []) ≡ y.owner
owner_joined [] y f = ap (λ c. cond c y.owner None) (eq-eqb y.number y.number refl)
owner_joined (x ∷ xs) y f = by (eqb y.number x.number) f (owner_joined xs y) where
  by : (b : Bool) → cond b true (is_live y.number xs) ≡ false → (is_live y.number xs ≡ false → owner_of y.number (xs ++ y ∷ []) ≡ y.owner) → cond b x.owner (owner_of y.number (xs ++ y ∷ [])) ≡ y.owner
  by true e ih = absurd (let k : true ≡ false = e in cc)
  by false e ih = ih e

-- a wait with an owner is in the list
pub owner_live : (w u : ℕ) (ws : List Wait) → owner_of w ws ≡ Some u → is_live w ws ≡ true
owner_live w u [] e = absurd (let k : None ≡ Some u = e in cc)
owner_live w u (x ∷ xs) e = by (eqb w x.number) e (owner_live w u xs) where
  by : (b : Bool) → cond b x.owner (owner_of w xs) ≡ Some u → (owner_of w xs ≡ Some u → is_live w xs ≡ true) → cond b true (is_live w xs) ≡ true
  by true e ih = refl
  by false e ih = ih e

head_or : (hs q : List Handler) (w : ℕ) (h : Handler) → Each (λ (g : Handler). g.wait ≡ w) hs → head (hs ++ q) ≡ Some h → (h.wait ≡ w) ⊎ (head q ≡ Some h)
head_or [] q w h a e = inr e
head_or (g ∷ hs) q w h a e = inl (ap (λ (i : Handler). i.wait) (let k : h ≡ g = cc in k) ∙ a.0)

pub front_live : (side : Side) (p : ℕ) (ws : List Wait) (h : Handler) → front side p ws ≡ Some h → is_live h.wait ws ≡ true
front_live side p [] h e = absurd (let k : None ≡ Some h = e in cc)
front_live side p (x ∷ xs) h e = ⊎_elim (λ is. ap (λ c. cond c true (is_live h.wait xs)) (eq-eqb h.wait x.number is)) (λ more. by (eqb h.wait x.number) (front_live side p xs h more)) (head_or (handlers side p x.number 0 x.branches) (queue side p xs) x.number h (handlers_of side p x.number 0 x.branches) e) where
  by : (b : Bool) → is_live h.wait xs ≡ true → cond b true (is_live h.wait xs) ≡ true
  by true e = refl
  by false e = e

pub no_head : {G : Type 0} (h : Handler) → None ≡ Some h → G
no_head h e = absurd cc

pub head_filter : (t : Handler → Bool) (q : List Handler) (h : Handler) → head (filter t q) ≡ Some h → (g : Handler) × (head q ≡ Some g)
head_filter t [] h e = no_head h e
head_filter t (g ∷ q) h e = (g, refl)

pub head_append : (q r : List Handler) (h : Handler) → head (q ++ r) ≡ Some h → ((g : Handler) × (head q ≡ Some g)) ⊎ ((q ≡ []) × (head r ≡ Some h))
head_append [] r h e = inr (refl, e)
head_append (g ∷ q) r h e = inl (g, refl)

pub headless : (q : List Handler) → head q ≡ None → q ≡ []
headless [] e = refl
headless (g ∷ q) e = absurd (let k : Some g ≡ None = e in cc)

-- a handler that joins comes from a branch
pub from_branch : (side : Side) (p w k : ℕ) (bs : List BranchView) (h : Handler) → head (handlers side p w k bs) ≡ Some h → (j : ℕ) × (b : BranchView) × (slice_get bs j ≡ Some b) × (is_on side p b ≡ true)
from_branch side p w k [] h e = no_head h e
from_branch side p w k (b ∷ bs) h e = by (is_on side p b) refl (from_branch side p w (suc k) bs h) e where
  by : (t : Bool) → is_on side p b ≡ t → (head (handlers side p w (suc k) bs) ≡ Some h → (j : ℕ) × (o : BranchView) × (slice_get bs j ≡ Some o) × (is_on side p o ≡ true)) → head (cond t (record { wait = w; branch = k; value = brought b } ∷ handlers side p w (suc k) bs) (handlers side p w (suc k) bs)) ≡ Some h → (j : ℕ) × (o : BranchView) × (slice_get (b ∷ bs) j ≡ Some o) × (is_on side p o ≡ true)
  by true is ih e = (0, b, refl, is)
  by false is ih e = let r = ih e in (suc r.0, r.1, r.2, r.3)

pub none_joins : (side : Side) (p w k : ℕ) (bs : List BranchView) → ((j : ℕ) (b : BranchView) → slice_get bs j ≡ Some b → is_on side p b ≡ true → ⊥) → handlers side p w k bs ≡ []
none_joins side p w k bs f = by (handlers side p w k bs) refl where
  by : (q : List Handler) → handlers side p w k bs ≡ q → q ≡ []
  by [] e = refl
  by (h ∷ q) e = let r = from_branch side p w k bs h (ap head e) in absurd (f r.0 r.1 r.2 r.3)

-- the port and the side of a branch
pub on_port : (side : Side) (p : ℕ) (b : BranchView) → is_on side p b ≡ true → p ≡ port_of b
on_port Take p (take_of q) e = eqb-true p q e
on_port Put p (put_of q v) e = eqb-true p q e
on_port Take p (put_of q v) e = absurd (let k : false ≡ true = e in cc)
on_port Put p (take_of q) e = absurd (let k : false ≡ true = e in cc)

pub takes_there : (p : ℕ) (b : BranchView) → is_on Take p b ≡ true → b ≡ take_of p
takes_there p (take_of q) e = ap take_of (sym (eqb-true p q e))
takes_there p (put_of q v) e = absurd (let k : false ≡ true = e in cc)

pub puts_there : (p : ℕ) (b : BranchView) → is_on Put p b ≡ true → (v : Tree) × (b ≡ put_of p v)
puts_there p (put_of q v) e = (v, ap (λ n. put_of n v) (sym (eqb-true p q e)))
puts_there p (take_of q) e = absurd (let k : false ≡ true = e in cc)
