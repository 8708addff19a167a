-- The test whether two trees are one, as a function: a map's pairs have to stand in the same order too.
use Rattle.std.specs.Prelude.{Bool, true, false, ◌&&◌, eqb}
use Rattle.std.specs.Ordering.{int_eq}
use Rattle.std.specs.Str.{bytes_eq}
use Rattle.std.specs.Bool.{beq}
use Rattle.ca_value.specs.Tree.{Tree, Trees, TreePairs, nil, bool, int, text, key, vector, map, port, none, item, empty, pair}

abbrev mutual
  pub same : Tree → Tree → Bool
  same nil nil = true
  same (bool a) (bool b) = beq a b
  same (int a) (int b) = int_eq a b
  same (text a) (text b) = bytes_eq a b
  same (key a) (key b) = bytes_eq a b
  same (vector a) (vector b) = same_items a b
  same (map a) (map b) = same_pairs a b
  same (port a) (port b) = eqb a b
  same a b = false

  pub same_items : Trees → Trees → Bool
  same_items none none = true
  same_items (item t ts) (item u us) = same t u && same_items ts us
  same_items ts us = false

  pub same_pairs : TreePairs → TreePairs → Bool
  same_pairs empty empty = true
  same_pairs (pair j u ps) (pair k v qs) = same j k && (same u v && same_pairs ps qs)
  same_pairs ps qs = false
