-- The branches of a mix's alts are ports alone.
use Rattle.std.proofs.Common.{◌≡◌, ℕ, List, [], ◌∷◌, None, refl}
use Rattle.ca_meaning.specs.Asking.{too_large_branches}
use Rattle.ca_meaning.specs.MixTable.{port_trees}

pub ports_weigh_nothing : (ns : List ℕ) → too_large_branches (port_trees ns) ≡ None
ports_weigh_nothing [] = refl
ports_weigh_nothing (n ∷ ns) = ports_weigh_nothing ns
