-- What is left of a queue.
use Rattle.std.proofs.Common.{◌≡◌, ℕ, zero, suc, ◌≤◌, List, [], ◌∷◌, length, map, remove, refl, sym, ◌∙◌, ap, arith}
use Rattle.indexmap.proofs.SetLemmas.{map-remove}

-- past the end nothing goes
pub remove_past : {X : Type 0} (xs : List X) (i : ℕ) → length xs ≤ i → remove xs i ≡ xs
remove_past [] zero h = refl
remove_past [] (suc i) h = refl
remove_past (x ∷ xs) zero h = absurd (omega arith)
remove_past (x ∷ xs) (suc i) h = ap (λ ys. x ∷ ys) (remove_past xs i (omega arith))

pub view_removed : {X Y : Type 0} (f : X → Y) (xs : List X) (i : ℕ) → map f (remove xs i) ≡ remove (map f xs) i
view_removed f xs i = map-remove f xs i

pub view_past : {X Y : Type 0} (f : X → Y) (xs : List X) (i : ℕ) → length xs ≤ i → map f xs ≡ remove (map f xs) i
view_past f xs i h = ap (map f) (sym (remove_past xs i h)) ∙ map-remove f xs i
