-- What a contract sees of the pairs of a map: the list, and how many more fit with no growth.
use Rattle.std.specs.Prelude.{ℕ, List}
use Rattle.ca_value.specs.Seq.{list, spare}
use Rattle.ca_value.specs.declared.value.Pair.{Pair}
use Rattle.ca_value.specs.declared.value.Pairs.{Pairs}

abbrev pub pairs_list : Pairs → List Pair
pairs_list s = list s.pairs

abbrev pub pairs_spare : Pairs → ℕ
pairs_spare s = spare s.pairs
