-- The tree that a value stands for. Spare room is no part of it.
use Rattle.std.specs.Prelude.{List, map as map_list}
use Rattle.std.specs.Arc.{arc_value}
use Rattle.ca_value.specs.Seq.{list}
use Rattle.ca_value.specs.Tree.{Tree, Trees, TreePairs, nil, bool, int, text, key, vector, map, port, trees_of, pairs_of}
use Rattle.ca_value.specs.declared.value.Value.{Value}
use Rattle.ca_value.specs.declared.value.Value.TheVariants.{Nil, Bool, Int, Text, Key, Vector, Map, Port}
use Rattle.ca_value.specs.declared.value.Vector.{Vector as SharedItems}
use Rattle.ca_value.specs.declared.value.Map.{Map as SharedPairs}
use Rattle.ca_value.specs.declared.value.Pair.{Pair}
use Rattle.ca_value.specs.declared.value.Pairs.{Pairs}

-- the items of a vector, and the pairs of a map
abbrev pub vector_trees : SharedItems → List Tree
vector_trees s = arc_value s.spine

abbrev pub map_pairs : SharedPairs → List (Tree × Tree)
map_pairs s = arc_value s.table

abbrev pub view : Value → Tree
view Nil = nil
view (Bool b) = bool b
view (Int z) = int z
view (Text s) = text (list (arc_value s))
view (Key s) = key (list (arc_value s))
view (Vector s) = vector (trees_of (vector_trees s))
view (Map s) = map (pairs_of (map_pairs s))
view (Port p) = port p.n

abbrev pub pair_view : Pair → Tree × Tree
pair_view p = (view p.key, view p.value)

-- the trees of a list of values, and of a list of pairs
abbrev pub trees : List Value → Trees
trees vs = trees_of (map_list view vs)

abbrev pub tree_pairs : List Pair → TreePairs
tree_pairs ps = pairs_of (map_list pair_view ps)

-- the same as lists of trees
abbrev pub views : List Value → List Tree
views vs = map_list view vs

abbrev pub pair_views : List Pair → List (Tree × Tree)
pair_views ps = map_list pair_view ps

abbrev pub pairs_view : Pairs → TreePairs
pairs_view s = tree_pairs (list s.pairs)
