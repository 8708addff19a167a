-- Lists that are taken from, in a vector.
use Rattle.std.proofs.Common.{◌≡◌, ℕ, zero, suc, ◌<◌, List, [], ◌∷◌, length, get_or, drop, map, ◌∙◌, ap, arith}
use Rattle.std.specs.Prelude.{slice_set, slice_index_or}

-- what is left without its front stands in its place
pub popped : {A B : Type 0} (f : A → List B) (qs : List A) (place : ℕ) (old new : A) → place < length qs → old ≡ get_or qs place old → f new ≡ drop 1 (f old) → map f (slice_set qs place new) ≡ slice_set (map f qs) place (drop 1 (slice_index_or (map f qs) place []))
popped {A} {B} f [] place old new lt e h = absurd (omega arith)
popped {A} {B} f (q ∷ qs) zero old new lt e h = ap (λ (s : List B). s ∷ map f qs) (h ∙ ap (λ (s : A). drop 1 (f s)) e)
popped {A} {B} f (q ∷ qs) (suc i) old new lt e h = ap (λ (s : List (List B)). f q ∷ s) (popped f qs i old new (omega arith) e h)
