-- What holds of every value: in each of its maps no key is equal to an earlier one, it weighs at most
-- 131,072, and it is at most 80 deep. Where no more than a script's text is asked to write stands in it, each integer
-- lies in 64 bits and each keyword is one.
use Rattle.std.specs.Prelude.{◌≡◌, ◌≤◌, ℕ, ℤ, List, [], ◌∷◌, map as map_list, Bool, true, false, ◌||◌, ◌==◌, codes, AllPairs}
use Rattle.std.specs.Int.{is_in_range}
use Rattle.std.specs.List.{list_all, list_any}
use Rattle.ca_value.specs.Tree.{Tree, Trees, TreePairs, nil, bool, int, text, key, vector, map, port, none, item, empty, pair, entries_of}
use Rattle.ca_value.specs.Measure.{weight_of, depth_of}
use Rattle.ca_value.specs.Equality.{equals}
use Rattle.ca_value.specs.Numbers.{fits_64}

-- ASCII letters and digits, and these
abbrev pub is_keyword_byte : ℕ → Bool
is_keyword_byte b = is_in_range 97 122 b || is_in_range 65 90 b || is_in_range 48 57 b || list_any (λ c. c == b) (codes "*+!-_?<>=&%$./")

-- the text of a keyword, without its colon
abbrev pub is_keyword : List ℕ → Bool
is_keyword [] = false
is_keyword (b ∷ s) = list_all is_keyword_byte (b ∷ s)

-- What is said of the scalars in a value: nothing, or what a script's text comes to.
pub data Scalars : Type 0 where
  any : Scalars
  written : Scalars

abbrev pub IsInteger : Scalars → ℤ → Type 0
IsInteger any z = Unit {0}
IsInteger written z = fits_64 z ≡ true

abbrev pub IsKeyword : Scalars → List ℕ → Type 0
IsKeyword any s = Unit {0}
IsKeyword written s = is_keyword s ≡ true

-- no key is equal to an earlier one
abbrev pub KeysDiffer : List (Tree × Tree) → Type 0
KeysDiffer ps = AllPairs (λ k l. equals l k ≡ false) (map_list (λ p. p.0) ps)

abbrev mutual
  -- the keys of each map in it differ, and its scalars are such
  pub IsRegular : Scalars → Tree → Type 0
  IsRegular w nil = Unit {0}
  IsRegular w (bool b) = Unit {0}
  IsRegular w (int z) = IsInteger w z
  IsRegular w (text s) = Unit {0}
  IsRegular w (key s) = IsKeyword w s
  IsRegular w (vector ts) = AreRegular w ts
  IsRegular w (map ps) = KeysDiffer (entries_of ps) × ArePairsRegular w ps
  IsRegular w (port n) = Unit {0}

  pub AreRegular : Scalars → Trees → Type 0
  AreRegular w none = Unit {0}
  AreRegular w (item t ts) = IsRegular w t × AreRegular w ts

  pub ArePairsRegular : Scalars → TreePairs → Type 0
  ArePairsRegular w empty = Unit {0}
  ArePairsRegular w (pair k v ps) = IsRegular w k × IsRegular w v × ArePairsRegular w ps

pub record IsValue (w : Scalars) (t : Tree) : Type 0 where
  pub regular : IsRegular w t
  pub light : weight_of t ≤ 131072
  pub shallow : depth_of t ≤ 80

-- each of them is a value
abbrev pub AreValues : Scalars → Trees → Type 0
AreValues w none = Unit {0}
AreValues w (item t ts) = IsValue w t × AreValues w ts
