-- What a task took, put and made after one more deed.
use Rattle.std.proofs.Common.{◌≡◌, ℕ, suc, ◌+◌, List, [], ◌∷◌, ◌++◌, length, slice_get, refl, ap, ◌∙◌, arith, Bool, Option, Some, flat_map, append-nil}
use Rattle.std.proofs.lemmas.List.{length-append}
use Rattle.std.proofs.lemmas.Grind.{flat_map-append}
use Rattle.ca_value.specs.Tree.{Tree}
use Rattle.ca_laws.specs.Deeds.{Deed}
use Rattle.ca_laws.specs.Taken.{answer_after, answer_from, since_after, since_from}

pub one_longer : {A : Type 0} (xs : List A) (x : A) → length (xs ++ x ∷ []) ≡ suc (length xs)
one_longer xs x = length-append xs (x ∷ []) ∙ (let k : length xs + 1 ≡ suc (length xs) = omega arith in k)

pub each_more : {A : Type 0} (f : Deed → List A) (ds : List Deed) (d : Deed) → flat_map f (ds ++ d ∷ []) ≡ flat_map f ds ++ f d
each_more f ds d = flat_map-append f ds (d ∷ []) ∙ ap (λ z. flat_map f ds ++ z) (append-nil (f d))

pub answer_more : (o : Option (ℕ × Tree)) (ds : List Deed) (d : Deed) → answer_from o (ds ++ d ∷ []) ≡ answer_after d (answer_from o ds)
answer_more o [] d = refl
answer_more o (c ∷ ds) d = answer_more (answer_after c o) ds d

pub since_more : (test : Deed → Bool) (n : ℕ) (ds : List Deed) (d : Deed) → since_from test n (ds ++ d ∷ []) ≡ since_after test d (since_from test n ds)
since_more test n [] d = refl
since_more test n (c ∷ ds) d = since_more test (since_after test c n) ds d

-- the item behind these
pub next_item : {A : Type 0} (xs : List A) (y : A) (ys : List A) → slice_get (xs ++ y ∷ ys) (length xs) ≡ Some y
next_item [] y ys = refl
next_item (x ∷ xs) y ys = next_item xs y ys
