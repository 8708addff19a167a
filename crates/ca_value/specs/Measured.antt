-- What is kept beside the items of a vector or the pairs of a map: their weight and their depth, each as far
-- as 64 bits tell.
use Rattle.std.specs.Prelude.{◌≡◌, ◌≤◌, ◌-◌, ◌^◌, ℕ, List, min, max}
use Rattle.ca_value.specs.Tree.{Tree, trees_of, pairs_of}
use Rattle.ca_value.specs.Measure.{weight_of_items, depth_of_items, weight_of_pairs, depth_of_pairs}

-- the number, or 2 ^ 64 - 1 where it is larger
abbrev pub capped : ℕ → ℕ
capped n = min n (2 ^ 64 - 1)

pub record IsMeasured (ts : List Tree) (weight depth : ℕ) : Type 0 where
  pub weighs : weight ≡ capped (weight_of_items (trees_of ts))
  pub reaches : depth ≡ capped (depth_of_items (trees_of ts))

pub record ArePairsMeasured (ps : List (Tree × Tree)) (weight depth : ℕ) : Type 0 where
  pub weighs : weight ≡ capped (weight_of_pairs (pairs_of ps))
  pub reaches : depth ≡ capped (depth_of_pairs (pairs_of ps))

-- a list of depth d whose item of depth o gave way to one of depth n has depth e
pub record IsDepthAfter (d o n e : ℕ) : Type 0 where
  pub there : o ≤ d
  pub least : n ≤ e
  pub most : e ≤ max d n
  pub rest : d ≤ max e o
