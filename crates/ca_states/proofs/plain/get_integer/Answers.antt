use Rattle.std.proofs.Common.{◌≡◌, Some, IfSome}
use Rattle.std.proofs.lemmas.Int.{to_z-of_z}
use Rattle.ca_value.specs.Tree.{int}
use Rattle.ca_value.specs.View.{pair_views}
use Rattle.ca_value.specs.Maps.{value_at}
use Rattle.ca_states.proofs.PairLaws.{get_found}
use Rattle.ca_states.proofs.plain.get_integer.Goals as goal

pub returns-in-Map : goal.returns-in-Map
returns-in-Map c =
    let found : IfSome c.integer_of_key.result (λ n. value_at (pair_views c.as_slice.result.now) (int c.args.key) ≡ Some (int n)) = simp (to_z-of_z, c.ranges.key) at c.integer_of_key.ensures in
    get_found c.args.collection.now c.in-Map.pairs c.as_slice.result.now c.args.key c.integer_of_key.result c.in-Map.is c.as_slice.ensures found
