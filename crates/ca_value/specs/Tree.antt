-- What a value is to a contract: a tree of plain data. (Clojure reference, Data Structures.)
use Rattle.std.specs.Prelude.{ℕ, ℤ, List, [], ◌∷◌, Bool}

mutual
  pub data Tree : Type 0 where
    nil : Tree
    bool : Bool → Tree
    int : ℤ → Tree
    text : List ℕ → Tree
    -- a keyword, without its colon
    key : List ℕ → Tree
    vector : Trees → Tree
    -- in order of insertion
    map : TreePairs → Tree
    port : ℕ → Tree

  pub data Trees : Type 0 where
    none : Trees
    item : Tree → Trees → Trees

  pub data TreePairs : Type 0 where
    empty : TreePairs
    pair : Tree → Tree → TreePairs → TreePairs

abbrev pub trees_of : List Tree → Trees
trees_of [] = none
trees_of (t ∷ ts) = item t (trees_of ts)

abbrev pub pairs_of : List (Tree × Tree) → TreePairs
pairs_of [] = empty
pairs_of (p ∷ ps) = pair p.0 p.1 (pairs_of ps)

-- the same trees and pairs as lists
abbrev pub items_of : Trees → List Tree
items_of none = []
items_of (item t ts) = t ∷ items_of ts

abbrev pub entries_of : TreePairs → List (Tree × Tree)
entries_of empty = []
entries_of (pair k v ps) = (k, v) ∷ entries_of ps
