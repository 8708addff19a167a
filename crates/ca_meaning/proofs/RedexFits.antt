-- Where the redex of a term stands: it fits there, and what fits there too may take its place.
use Rattle.std.proofs.Common.{◌≡◌, ℕ, suc, List, length, refl, sym, ap, ◌∙◌, subst, Bool, true, false, cond, not, ◌&&◌, Option, Some, None}
use Rattle.ca_term.specs.declared.place.Place.{Place}
use Rattle.ca_term.specs.declared.head.Head.{Head}
use Rattle.ca_term.specs.declared.head.Head.TheVariants.{Recur, Builtin, Call, Take, Put, Alts, Make, Spawn, Close, Register, Print, Post}
use Rattle.ca_term.specs.Kernel.{Kernel, Kernels, const, var, branch, bind, loop, seq, frame, turn, apply, none, item, empty, binding}
use Rattle.ca_term.specs.Fits.{count_terms, Fits, FitTerms}
use Rattle.ca_meaning.specs.Redex.{redex, redex_items, replace, replace_items, is_value, all_values, is_ready_recur}
use Rattle.ca_meaning.proofs.Sizes.{redex_items-values}

abbrev pub is_recur : Kernel → Bool
is_recur (apply Recur ts p) = true
is_recur t = false

-- The target of a place, which the redex r there fits; what fits that target makes the whole fit.
pub record Seat (S : Option ℕ → Head → ℕ → Type 0) (r : Kernel) (Whole : Kernel → Type 0) : Type 0 where
  pub target : Option ℕ
  pub fits : Fits S target r
  pub back : (u : Kernel) → Fits S target u → Whole u

-- S judges the heads
module _ (S : Option ℕ → Head → ℕ → Type 0) where
  -- the whole is the redex
  own : (target : Option ℕ) (t : Kernel) → Fits S target t → Seat S t (λ u. Fits S target u)
  own target t h = record { target = target; fits = h; back = λ u k. k }

  -- the redex is that of a part
  within : (r : Kernel) (P Q : Kernel → Type 0) → ((u : Kernel) → P u → Q u) → Seat S r P → Seat S r Q
  within r P Q f s = record { target = s.target; fits = s.fits; back = λ u k. f u (s.back u k) }

  abbrev SeatOf : Option ℕ → Kernel → Type 0
  SeatOf target t = Seat S (redex t) (λ u. Fits S target (replace u t))

  by-value : (v : Bool) (target : Option ℕ) (whole inside : Kernel) (make : Kernel → Kernel) → Fits S target whole → Seat S inside (λ u. Fits S target (make u)) → Seat S (cond v whole inside) (λ u. Fits S target (cond v u (make u)))
  by-value true target whole inside make h s = own target whole h
  by-value false target whole inside make h s = s

  by-open : (v : Bool) (target : Option ℕ) (whole inside : Kernel) (make : Kernel → Kernel) → Fits S target whole → Seat S inside (λ u. Fits S target (make u)) → Seat S (cond v whole inside) (λ u. Fits S target (cond (not v) (make u) u))
  by-open true target whole inside make h s = own target whole h
  by-open false target whole inside make h s = s

  abbrev ItemsSeat : Kernels → Kernel → Type 0
  ItemsSeat ts here = Seat S (redex_items ts here) (λ u. FitTerms S (replace_items u ts) × (count_terms (replace_items u ts) ≡ count_terms ts))

  by-items : (target : Option ℕ) (f : Head) (ts : Kernels) (p : Place) → Fits S target (apply f ts p) → (v : Bool) → all_values ts ≡ v → (all_values ts ≡ false → ItemsSeat ts (apply f ts p)) → Seat S (redex_items ts (apply f ts p)) (λ u. Fits S target (cond v u (apply f (replace_items u ts) p)))
  by-items target f ts p h true e items = subst (λ r. Seat S r (λ u. Fits S target u)) (sym (redex_items-values ts (apply f ts p) e)) (own target (apply f ts p) h)
  by-items target f ts p h false e items = within (redex_items ts (apply f ts p)) (λ u. FitTerms S (replace_items u ts) × (count_terms (replace_items u ts) ≡ count_terms ts)) (λ u. Fits S target (apply f (replace_items u ts) p))
      (λ u k. (subst (S target f) (sym k.1) h.0, k.0)) (items e)

  mutual
    pub seat : (target : Option ℕ) (t : Kernel) → Fits S target t → SeatOf target t
    seat target (const v) h = own target (const v) h
    seat target (var n) h = own target (var n) h
    seat target (branch c a b) h = by-value (is_value c) target (branch c a b) (redex c) (λ u. branch (replace u c) a b) h
        (within (redex c) (λ u. Fits S None (replace u c)) (λ u. Fits S target (branch (replace u c) a b)) (λ u k. (k, h.1, h.2)) (seat None c h.0))
    seat target (bind empty body) h = own target (bind empty body) h
    seat target (bind (binding n t bs) body) h = by-open (is_value t) target (bind (binding n t bs) body) (redex t) (λ u. bind (binding n (replace u t) bs) body) h
        (within (redex t) (λ u. Fits S None (replace u t)) (λ u. Fits S target (bind (binding n (replace u t) bs) body)) (λ u k. ((k, h.0.1), h.1)) (seat None t h.0.0))
    seat target (loop fs empty body) h = own target (loop fs empty body) h
    seat target (loop fs (binding n t bs) body) h = by-open (is_value t) target (loop fs (binding n t bs) body) (redex t) (λ u. loop fs (binding n (replace u t) bs) body) h
        (within (redex t) (λ u. Fits S None (replace u t)) (λ u. Fits S target (loop fs (binding n (replace u t) bs) body)) (λ u k. ((k, h.0.1), h.1)) (seat None t h.0.0))
    seat target (seq none) h = own target (seq none) h
    seat target (seq (item t none)) h = own target (seq (item t none)) h
    seat target (seq (item t (item v vs))) h = by-value (is_value t) target (seq (item t (item v vs))) (redex t) (λ u. seq (item (replace u t) (item v vs))) h
        (within (redex t) (λ u. Fits S None (replace u t)) (λ u. Fits S target (seq (item (replace u t) (item v vs)))) (λ u k. (k, h.1)) (seat None t h.0))
    seat target (frame body) h = by-value (is_value body) target (frame body) (redex body) (λ u. frame (replace u body)) h
        (within (redex body) (λ u. Fits S None (replace u body)) (λ u. Fits S target (frame (replace u body))) (λ u k. k) (seat None body h))
    seat target (turn ns text now) h = by-value (is_value now) target (turn ns text now) (cond (is_ready_recur now) (turn ns text now) (redex now)) (λ u. cond (is_ready_recur now) u (turn ns text (replace u now))) h
        (by-value (is_ready_recur now) target (turn ns text now) (redex now) (λ u. turn ns text (replace u now)) h
        (within (redex now) (λ u. Fits S (Some (length ns)) (replace u now)) (λ u. Fits S target (turn ns text (replace u now))) (λ u k. (h.0, k)) (seat (Some (length ns)) now h.1)))
    seat target (apply f ts p) h = by-items target f ts p h (all_values ts) refl (λ e. seat-items ts (apply f ts p) e h.1)

    seat-items : (ts : Kernels) (here : Kernel) → all_values ts ≡ false → FitTerms S ts → ItemsSeat ts here
    seat-items none here e h = cc
    seat-items (item t ts) here e h = by (is_value t) e (seat-items ts here) (seat None t h.0) where
      by : (v : Bool) → (v && all_values ts) ≡ false → (all_values ts ≡ false → FitTerms S ts → ItemsSeat ts here) → SeatOf None t → Seat S (cond v (redex_items ts here) (redex t)) (λ u. FitTerms S (cond v (item t (replace_items u ts)) (item (replace u t) ts)) × (count_terms (cond v (item t (replace_items u ts)) (item (replace u t) ts)) ≡ suc (count_terms ts)))
      by true e more one = within (redex_items ts here) (λ u. FitTerms S (replace_items u ts) × (count_terms (replace_items u ts) ≡ count_terms ts)) (λ u. FitTerms S (item t (replace_items u ts)) × (count_terms (item t (replace_items u ts)) ≡ suc (count_terms ts))) (λ u k. ((h.0, k.0), ap suc k.1)) (more e h.1)
      by false e more one = within (redex t) (λ u. Fits S None (replace u t)) (λ u. FitTerms S (item (replace u t) ts) × (suc (count_terms ts) ≡ suc (count_terms ts))) (λ u k. ((k, h.1), refl)) one

-- Where a recur stands only in a loop, the redex is no recur without its loop.
module _ (S : Option ℕ → Head → ℕ → Type 0) (in_loop : (k : ℕ) → S None Recur k → ⊥) where
  not-here : (t : Kernel) → Fits S None t → is_ready_recur t ≡ false
  not-here (const v) h = refl
  not-here (var n) h = refl
  not-here (branch c a b) h = refl
  not-here (bind bs body) h = refl
  not-here (loop fs bs body) h = refl
  not-here (seq ts) h = refl
  not-here (frame body) h = refl
  not-here (turn ns text now) h = refl
  not-here (apply Recur ts p) h = absurd (in_loop (count_terms ts) h.0)
  not-here (apply (Builtin b) ts p) h = refl
  not-here (apply (Call n) ts p) h = refl
  not-here (apply Take ts p) h = refl
  not-here (apply Put ts p) h = refl
  not-here (apply (Alts options) ts p) h = refl
  not-here (apply (Make kind) ts p) h = refl
  not-here (apply (Spawn kind) ts p) h = refl
  not-here (apply Close ts p) h = refl
  not-here (apply (Register name) ts p) h = refl
  not-here (apply Print ts p) h = refl
  not-here (apply Post ts p) h = refl

  choice : (v : Bool) (x y : Kernel) → is_recur x ≡ false → is_recur y ≡ false → is_recur (cond v x y) ≡ false
  choice true x y g h = g
  choice false x y g h = h

  ready-recur : (f : Head) (ts : Kernels) (p : Place) → all_values ts ≡ true → is_ready_recur (apply f ts p) ≡ false → is_recur (apply f ts p) ≡ false
  ready-recur Recur ts p e h = absurd (let k : true ≡ false = sym e ∙ h in cc)
  ready-recur (Builtin b) ts p e h = refl
  ready-recur (Call n) ts p e h = refl
  ready-recur Take ts p e h = refl
  ready-recur Put ts p e h = refl
  ready-recur (Alts options) ts p e h = refl
  ready-recur (Make kind) ts p e h = refl
  ready-recur (Spawn kind) ts p e h = refl
  ready-recur Close ts p e h = refl
  ready-recur (Register name) ts p e h = refl
  ready-recur Print ts p e h = refl
  ready-recur Post ts p e h = refl

  by-ready : (ns : List ℕ) (text now : Kernel) (v : Bool) → is_ready_recur now ≡ v → (is_ready_recur now ≡ false → is_recur (redex now) ≡ false) → is_recur (cond v (turn ns text now) (redex now)) ≡ false
  by-ready ns text now true e inside = refl
  by-ready ns text now false e inside = inside e

  bare-apply : (f : Head) (ts : Kernels) (p : Place) → is_ready_recur (apply f ts p) ≡ false → (v : Bool) → all_values ts ≡ v → (all_values ts ≡ false → is_recur (redex_items ts (apply f ts p)) ≡ false) → is_recur (redex_items ts (apply f ts p)) ≡ false
  bare-apply f ts p r true e items = ap is_recur (redex_items-values ts (apply f ts p) e) ∙ ready-recur f ts p e r
  bare-apply f ts p r false e items = items e

  mutual
    bare : (target : Option ℕ) (t : Kernel) → Fits S target t → is_ready_recur t ≡ false → is_recur (redex t) ≡ false
    bare target (const v) h r = refl
    bare target (var n) h r = refl
    bare target (branch c a b) h r = choice (is_value c) (branch c a b) (redex c) refl (bare None c h.0 (not-here c h.0))
    bare target (bind empty body) h r = refl
    bare target (bind (binding n t bs) body) h r = choice (is_value t) (bind (binding n t bs) body) (redex t) refl (bare None t h.0.0 (not-here t h.0.0))
    bare target (loop fs empty body) h r = refl
    bare target (loop fs (binding n t bs) body) h r = choice (is_value t) (loop fs (binding n t bs) body) (redex t) refl (bare None t h.0.0 (not-here t h.0.0))
    bare target (seq none) h r = refl
    bare target (seq (item t none)) h r = refl
    bare target (seq (item t (item v vs))) h r = choice (is_value t) (seq (item t (item v vs))) (redex t) refl (bare None t h.0 (not-here t h.0))
    bare target (frame body) h r = choice (is_value body) (frame body) (redex body) refl (bare None body h (not-here body h))
    bare target (turn ns text now) h r = choice (is_value now) (turn ns text now) (cond (is_ready_recur now) (turn ns text now) (redex now)) refl (by-ready ns text now (is_ready_recur now) refl (λ e. bare (Some (length ns)) now h.1 e))
    bare target (apply f ts p) h r = bare-apply f ts p r (all_values ts) refl (λ e. bare-items ts (apply f ts p) e h.1)

    bare-items : (ts : Kernels) (here : Kernel) → all_values ts ≡ false → FitTerms S ts → is_recur (redex_items ts here) ≡ false
    bare-items none here e h = cc
    bare-items (item t ts) here e h = by (is_value t) e (bare-items ts here) (bare None t h.0 (not-here t h.0)) where
      by : (v : Bool) → (v && all_values ts) ≡ false → (all_values ts ≡ false → FitTerms S ts → is_recur (redex_items ts here) ≡ false) → is_recur (redex t) ≡ false → is_recur (cond v (redex_items ts here) (redex t)) ≡ false
      by true e more one = more e h.1
      by false e more one = one

  pub no-bare-recur : (t : Kernel) → Fits S None t → is_recur (redex t) ≡ false
  no-bare-recur t h = bare None t h (not-here t h)
