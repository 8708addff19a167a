-- How heavy and how deep a value is.
use Rattle.std.specs.Prelude.{ℕ, ◌+◌, suc, max, length}
use Rattle.ca_value.specs.Tree.{Tree, Trees, TreePairs, nil, bool, int, text, key, vector, map, port, none, item, empty, pair}

-- a scalar weighs 1, a text or a keyword 1 more than its bytes, a vector or a map 1 more than its parts
abbrev mutual
  pub weight_of : Tree → ℕ
  weight_of nil = 1
  weight_of (bool b) = 1
  weight_of (int z) = 1
  weight_of (text s) = suc (length s)
  weight_of (key s) = suc (length s)
  weight_of (vector ts) = suc (weight_of_items ts)
  weight_of (map ps) = suc (weight_of_pairs ps)
  weight_of (port n) = 1

  pub weight_of_items : Trees → ℕ
  weight_of_items none = 0
  weight_of_items (item t ts) = weight_of t + weight_of_items ts

  pub weight_of_pairs : TreePairs → ℕ
  weight_of_pairs empty = 0
  weight_of_pairs (pair k v ps) = weight_of k + weight_of v + weight_of_pairs ps

-- a scalar has depth 1, a vector or a map one more than its deepest part
abbrev mutual
  pub depth_of : Tree → ℕ
  depth_of nil = 1
  depth_of (bool b) = 1
  depth_of (int z) = 1
  depth_of (text s) = 1
  depth_of (key s) = 1
  depth_of (vector ts) = suc (depth_of_items ts)
  depth_of (map ps) = suc (depth_of_pairs ps)
  depth_of (port n) = 1

  pub depth_of_items : Trees → ℕ
  depth_of_items none = 0
  depth_of_items (item t ts) = max (depth_of t) (depth_of_items ts)

  pub depth_of_pairs : TreePairs → ℕ
  depth_of_pairs empty = 0
  depth_of_pairs (pair k v ps) = max (max (depth_of k) (depth_of v)) (depth_of_pairs ps)
