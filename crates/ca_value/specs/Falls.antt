-- Each item's own parts are less deep than the items, and those of a pair than the pairs.
use Rattle.std.specs.Prelude.{◌≤◌, List, [], ◌∷◌}
use Rattle.std.proofs.Common.{arith}
use denote.Param.Weighed.{most}
use Rattle.ca_value.specs.Tree.{trees_of, pairs_of}
use Rattle.ca_value.specs.Measure.{depth_of, depth_of_items, depth_of_pairs}
use Rattle.ca_value.specs.declared.value.Value.{Value}
use Rattle.ca_value.specs.declared.value.Pair.{Pair}
use Rattle.ca_value.specs.declared.value.Value.TheVariants.{Nil, Bool, Int, Text, Key, Vector, Map, Port}
use Rattle.ca_value.specs.View.{view, views, pair_views}
use Rattle.ca_value.specs.declared.value.Spine.TheDeep.{deep-Value, deep-Pair}

value_falls : (v : Value) → deep-Value v ≤ depth_of (view v)
value_falls Nil = omega arith
value_falls (Bool b) = omega arith
value_falls (Int z) = omega arith
value_falls (Text s) = omega arith
value_falls (Key s) = omega arith
value_falls (Vector s) = omega arith
value_falls (Map s) = omega arith
value_falls (Port n) = omega arith

pub items_fall : (vs : List Value) → most deep-Value vs ≤ depth_of_items (trees_of (views vs))
items_fall [] = omega arith
items_fall (v ∷ vs) = omega (arith, value_falls v, items_fall vs)

pub pairs_fall : (ps : List Pair) → most deep-Pair ps ≤ depth_of_pairs (pairs_of (pair_views ps))
pairs_fall [] = omega arith
pairs_fall (p ∷ ps) = omega (arith, value_falls p.key, value_falls p.value, pairs_fall ps)
