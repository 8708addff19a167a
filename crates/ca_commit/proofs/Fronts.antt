-- The handler in front of a queue.
use Rattle.std.proofs.Common.{◌≡◌, List, [], ◌∷◌, refl, slice_get}
use Rattle.ca_meaning.specs.Wait.{head}

pub head_is : {A : Type 0} (xs : List A) → head xs ≡ slice_get xs 0
head_is [] = refl
head_is (x ∷ xs) = refl
