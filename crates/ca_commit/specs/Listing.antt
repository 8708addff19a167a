-- A list of parts with their numbers, as a map. Of several with one number the first counts.
use Rattle.std.specs.Prelude.{◌≡◌, ◌≢◌, ℕ, ◌<◌, List, [], ◌∷◌, Option, Some, None, option_map, eqb, cond, length, slice_index_or}
use Rattle.std.specs.Map.{update}
use Rattle.ca_commit.specs.Contents.{home}

module _ {T : Type 0} (number : T → ℕ) where
  abbrev pub listed : List T → ℕ → Option T
  listed [] i = None
  listed (x ∷ xs) i = cond (eqb (number x) i) (Some x) (listed xs i)

  -- none of the first i parts has this number
  abbrev pub NoneBefore : List T → ℕ → ℕ → Type 0
  NoneBefore xs n i = (k : ℕ) (d : T) → k < i → k < length xs → number (slice_index_or xs k d) ≢ n

  -- the first part with this number stands at place i
  abbrev pub IsFirst : List T → ℕ → ℕ → Type 0
  IsFirst xs n i = (i < length xs) × ((d : T) → number (slice_index_or xs i d) ≡ n) × NoneBefore xs n i

-- the part that has n changes there by f, and no other part
abbrev pub changed_at : {X : Type 0} → ℕ → (Option X → Option X) → (ℕ → Option (ℕ → Option X)) → ℕ → Option (ℕ → Option X)
changed_at n f m i = cond (eqb (home n) i) (option_map (λ g. update eqb g n (f (g n))) (m i)) (m i)
