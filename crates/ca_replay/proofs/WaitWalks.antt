-- The waits of a scene from a place on, one after the other.
use Rattle.std.proofs.Common.{◌≡◌, ℕ, zero, suc, ◌+◌, ◌≤◌, List, [], ◌∷◌, length, drop, refl, sym, ap, ap₂, ◌∙◌, arith, Option, Some, None, slice_get, add-one}
use Rattle.ca_meaning.specs.Wait.{Wait}
use Rattle.ca_scene.specs.declared.scene.Waiting.{Waiting}
use Rattle.ca_scene.specs.Scene.{wait_or, waits_in}
use Rattle.ca_replay.specs.World.{wait_entry, wait_of}

abbrev Entries : Type 0
Entries = List (ℕ × Option Waiting)

abbrev with_wait : Option Wait → List Wait → List Wait
with_wait None ws = ws
with_wait (Some w) ws = w ∷ ws

entry_is : (n : ℕ) (o : Option Waiting) (ws : List Wait) → wait_or n o ws ≡ with_wait (wait_of n o) ws
entry_is n None ws = refl
entry_is n (Some x) ws = refl

at_place : (es : Entries) (i : ℕ) → waits_in (drop i es) ≡ with_wait (wait_entry (slice_get es i)) (waits_in (drop (suc i) es))
at_place [] zero = refl
at_place [] (suc i) = refl
at_place (e ∷ es) zero = entry_is e.0 e.1 (waits_in es)
at_place (e ∷ es) (suc i) = at_place es i

at_next : (es : Entries) (i : ℕ) (o : Option Wait) → wait_entry (slice_get es i) ≡ o → waits_in (drop i es) ≡ with_wait o (waits_in (drop (i + 1) es))
at_next es i o e = at_place es i ∙ ap₂ (λ (w : Option Wait) (k : ℕ). with_wait w (waits_in (drop k es))) e (sym (add-one i))

-- at a place without a wait, or with one that is gone
pub gone_at : (es : Entries) (i : ℕ) → wait_entry (slice_get es i) ≡ None → waits_in (drop i es) ≡ waits_in (drop (i + 1) es)
gone_at es i e = at_next es i None e

-- and with one that isn't
pub wait_at : (es : Entries) (i : ℕ) (w : Wait) → wait_entry (slice_get es i) ≡ Some w → waits_in (drop i es) ≡ w ∷ waits_in (drop (i + 1) es)
wait_at es i w e = at_next es i (Some w) e

none_behind : {A : Type 0} (xs : List A) (i : ℕ) → length xs ≤ i → drop i xs ≡ []
none_behind [] zero h = refl
none_behind [] (suc i) h = refl
none_behind (x ∷ xs) zero h = absurd (omega (arith, h))
none_behind (x ∷ xs) (suc i) h = none_behind xs i (omega (arith, h))

pub no_waits : (es : Entries) (i : ℕ) → length es ≤ i → waits_in (drop i es) ≡ []
no_waits es i h = ap waits_in (none_behind es i h)

module _ {A : Type 0} where
  -- none at a place where none is left, nor behind it
  pub past_end : (xs : List A) (i p : ℕ) → drop i xs ≡ [] → i ≤ p → slice_get xs p ≡ None
  past_end [] i zero e h = refl
  past_end [] i (suc p) e h = refl
  past_end (x ∷ xs) zero p e h = absurd (let k : x ∷ xs ≡ [] = e in cc)
  past_end (x ∷ xs) (suc i) zero e h = absurd (omega (arith, h))
  past_end (x ∷ xs) (suc i) (suc p) e h = past_end xs i p e (omega (arith, h))

  -- the first of those that are left
  pub first_left : (xs : List A) (i : ℕ) (x : A) (ys : List A) → drop i xs ≡ x ∷ ys → slice_get xs i ≡ Some x
  first_left [] zero x ys e = absurd (let k : [] ≡ x ∷ ys = e in cc)
  first_left [] (suc i) x ys e = absurd (let k : [] ≡ x ∷ ys = e in cc)
  first_left (z ∷ xs) zero x ys e = let k : z ≡ x = cc in ap (λ (y : A). Some y) k
  first_left (z ∷ xs) (suc i) x ys e = first_left xs i x ys e

  tail_left : (xs : List A) (i : ℕ) (x : A) (ys : List A) → drop i xs ≡ x ∷ ys → drop (suc i) xs ≡ ys
  tail_left [] zero x ys e = absurd (let k : [] ≡ x ∷ ys = e in cc)
  tail_left [] (suc i) x ys e = absurd (let k : [] ≡ x ∷ ys = e in cc)
  tail_left (z ∷ xs) zero x ys e = let k : xs ≡ ys = cc in k
  tail_left (z ∷ xs) (suc i) x ys e = tail_left xs i x ys e

  pub others_left : (xs : List A) (i : ℕ) (x : A) (ys : List A) → drop i xs ≡ x ∷ ys → drop (i + 1) xs ≡ ys
  others_left xs i x ys e = ap (λ k. drop k xs) (add-one i) ∙ tail_left xs i x ys e
