-- When two values are equal. (Clojure reference, Equality: `=`.)
use Rattle.std.specs.Prelude.{ℕ, suc, Bool, true, false, cond, ◌&&◌, ◌==◌}
use Rattle.std.specs.Ordering.{int_eq}
use Rattle.std.specs.Str.{bytes_eq}
use Rattle.std.specs.Bool.{beq}
use Rattle.ca_value.specs.Tree.{Tree, Trees, TreePairs, nil, bool, int, text, key, vector, map, port, none, item, empty, pair}

-- how many pairs there are
abbrev pub pair_count : TreePairs → ℕ
pair_count empty = 0
pair_count (pair k v ps) = suc (pair_count ps)

-- the first pair whose key passes the one test is there, and its value passes the other
abbrev pub has_pair : (Tree → Bool) → (Tree → Bool) → TreePairs → Bool
has_pair is_key is_value empty = false
has_pair is_key is_value (pair k v ps) = cond (is_key k) (is_value v) (has_pair is_key is_value ps)

-- a map's pairs count in any order
abbrev mutual
  pub equals : Tree → Tree → Bool
  equals nil nil = true
  equals (bool a) (bool b) = beq a b
  equals (int a) (int b) = int_eq a b
  equals (text a) (text b) = bytes_eq a b
  equals (key a) (key b) = bytes_eq a b
  equals (vector a) (vector b) = equal_items a b
  equals (map a) (map b) = (pair_count a == pair_count b) && is_map_within a b
  equals (port a) (port b) = a == b
  equals a b = false

  pub equal_items : Trees → Trees → Bool
  equal_items none none = true
  equal_items (item t ts) (item u us) = equals t u && equal_items ts us
  equal_items ts us = false

  -- each pair of the first map is in the second
  pub is_map_within : TreePairs → TreePairs → Bool
  is_map_within empty b = true
  is_map_within (pair k v a) b = has_pair (equals k) (equals v) b && is_map_within a b

-- a pair with an equal key is there
abbrev pub has_key : Tree → TreePairs → Bool
has_key k ps = has_pair (equals k) (λ v. true) ps
