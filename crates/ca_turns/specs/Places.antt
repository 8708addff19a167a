-- Lists that are read and written at places.
use Rattle.std.specs.Prelude.{◌≡◌, ◌≢◌, ℕ, ◌+◌, List, [], ◌∷◌, slice_set, nat_eq, if◌then◌else◌}
use mathlib.Core.Option.{some}
use lib.ListN.{get_elem?}

module _ {A : Type 0} where
  -- the list with these values at these places
  abbrev pub write : List A → List ℕ → List A → List A
  write s [] cs = s
  write s (i ∷ is) [] = s
  write s (i ∷ is) (c ∷ cs) = write (slice_set s i c) is cs

  -- the values at these places are these
  abbrev pub ReadsPlaces : List A → List ℕ → List A → Type 0
  ReadsPlaces s [] [] = Unit {0}
  ReadsPlaces s [] (c ∷ cs) = ⊥
  ReadsPlaces s (i ∷ is) [] = ⊥
  ReadsPlaces s (i ∷ is) (c ∷ cs) = (get_elem? s i ≡ some c) × ReadsPlaces s is cs

  -- what f counts, of all of them together
  abbrev pub total : (A → ℕ) → List A → ℕ
  total f [] = 0
  total f (v ∷ vs) = f v + total f vs

-- the list without the first pair that has this number
abbrev pub without_first_pair : {A : Type 0} → ℕ → List (ℕ × A) → List (ℕ × A)
without_first_pair i [] = []
without_first_pair i (x ∷ xs) = if nat_eq x.0 i then xs else x ∷ without_first_pair i xs

-- each of these places is such
abbrev pub AllIn : (ℕ → Type 0) → List ℕ → Type 0
AllIn K [] = Unit {0}
AllIn K (i ∷ is) = K i × AllIn K is

-- no place is named twice
abbrev pub IsDistinct : List ℕ → Type 0
IsDistinct [] = Unit {0}
IsDistinct (i ∷ is) = AllIn (λ j. i ≢ j) is × IsDistinct is
