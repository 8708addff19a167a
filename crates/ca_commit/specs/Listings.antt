-- What a listing shows.
use Rattle.std.specs.Prelude.{ℕ, ◌-◌, List}
use Rattle.std.specs.Vec.{vec_len, vec_capacity}
use Rattle.ca_commit.specs.declared.listing.Listing.{Listing}

abbrev pub parts : {T : Type 0} → Listing T → List T
parts l = l.items.items

-- how many more parts fit with no growth
abbrev pub spare_parts : {T : Type 0} → Listing T → ℕ
spare_parts l = vec_capacity l.items - vec_len l.items
