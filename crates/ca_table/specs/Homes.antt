-- Some of the sixteen banks, or of the sixteen shards.
use Rattle.std.specs.Prelude.{ℕ, List, Bool, false, get_or}
use Rattle.ca_commit.specs.Touched.{wanted}
use Rattle.ca_table.specs.declared.homes.Homes.{Homes}

abbrev pub has_home : Homes → ℕ → Bool
has_home h i = get_or h.flags i false

-- their numbers
abbrev pub members : Homes → List ℕ
members h = wanted (has_home h) 0 0 16
