-- What a row of places shows.
use Rattle.std.specs.Prelude.{ℕ, ◌/◌, ◌%◌, List, [], ◌∷◌, Option, Some, None, Bool, true, false, cond, nat_eq, slice_get}
use Rattle.ca_bank.specs.declared.near_row.NearRow.{NearRow}

module _ {V : Type 0} where
  -- the value of the number, where that is what stands at a place
  abbrev pub near_value : ℕ → Option (Option (ℕ × V)) → Option V
  near_value n None = None
  near_value n (Some None) = None
  near_value n (Some (Some e)) = cond (nat_eq n e.0) (Some e.1) None

  -- whether the place is there, with nothing
  abbrev pub is_empty_place : Option (Option (ℕ × V)) → Bool
  is_empty_place None = false
  is_empty_place (Some None) = true
  is_empty_place (Some (Some e)) = false

  -- what stands at the places, in their order
  abbrev pub seated : List (Option (ℕ × V)) → List (ℕ × V)
  seated [] = []
  seated (None ∷ ps) = seated ps
  seated (Some e ∷ ps) = e ∷ seated ps

-- the place that a number tells
abbrev pub near_place : ℕ → ℕ
near_place n = (n / 16) % 16

abbrev pub near_at : {V : Type 0} → NearRow V → ℕ → Option V
near_at r n = near_value n (slice_get r.places.items (near_place n))

abbrev pub is_free_at : {V : Type 0} → NearRow V → ℕ → Bool
is_free_at r n = is_empty_place (slice_get r.places.items (near_place n))

abbrev pub near_entries : {V : Type 0} → NearRow V → List (ℕ × V)
near_entries r = seated r.places.items
