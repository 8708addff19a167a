-- A queue from a place on.
use Rattle.std.proofs.Common.{◌≡◌, ℕ, zero, suc, ◌+◌, List, [], ◌∷◌, drop, refl, sym, ap, ◌∙◌, Option, Some, None, slice_get, add-one}
use Rattle.ca_term.specs.declared.event.Side.{Side}
use Rattle.ca_meaning.specs.Wait.{Handler, head}
use Rattle.ca_commit.specs.Holds.{changes_at, groups}
use Rattle.ca_commit.specs.Branching.{plan_or}
use Rattle.ca_commit.specs.Planning.{Planned, Seen, all_asked, handler_asked, handler_wait}
use Rattle.ca_commit.specs.declared.planned.Plan.{Plan}

-- what stands at a place is the first from there on
pub cut_queue : (q : List Handler) (i w : ℕ) → handler_wait (slice_get q i) ≡ Some w → (h : Handler) × (h.wait ≡ w) × (drop i q ≡ h ∷ drop (suc i) q)
cut_queue [] zero w e = absurd cc
cut_queue [] (suc i) w e = absurd cc
cut_queue (h ∷ q) zero w e = (h, let k : h.wait ≡ w = cc in k, refl)
cut_queue (h ∷ q) (suc i) w e = cut_queue q i w e

-- no plan
pub none_or : (o : Option Plan) (rest : Planned) → ((p : Plan) → o ≡ Some p → ⊥) → plan_or o rest ≡ rest
none_or None rest none = refl
none_or (Some p) rest none = absurd (none p refl)

pub second_in : (q : List Handler) (i : ℕ) → head (drop i q) ≡ slice_get q i
second_in [] zero = refl
second_in [] (suc i) = refl
second_in (h ∷ q) zero = refl
second_in (h ∷ q) (suc i) = second_in q i

pub asked_step : (x : Seen) (p : ℕ) (side : Side) (q : List Handler) (i w : ℕ) (rest : Planned) → handler_wait (slice_get q i) ≡ Some w → all_asked x p side i (drop i q) rest ≡ handler_asked (x.see w) p side i w (all_asked x p side (i + 1) (drop (i + 1) q) rest)
asked_step x p side q i w rest e = let k = cut_queue q i w e in
    ap (λ l. all_asked x p side i l rest) k.2 ∙ ap (λ v. handler_asked (x.see v) p side i v (all_asked x p side (i + 1) (drop (suc i) q) rest)) k.1 ∙ ap (λ n. handler_asked (x.see w) p side i w (all_asked x p side (i + 1) (drop n q) rest)) (sym (add-one i))

pub groups_step : (q : List Handler) (i w : ℕ) → handler_wait (slice_get q i) ≡ Some w → groups (drop i q) ≡ changes_at w (slice_get q (i + 1)) + groups (drop (i + 1) q)
groups_step q i w e = let k = cut_queue q i w e in
    ap groups k.2 ∙ ap (λ v. changes_at v (head (drop (suc i) q)) + groups (drop (suc i) q)) k.1 ∙ ap (λ n. changes_at w (head (drop n q)) + groups (drop n q)) (sym (add-one i)) ∙ ap (λ o. changes_at w o + groups (drop (i + 1) q)) (second_in q (i + 1))
