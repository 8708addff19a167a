-- An answer of a value and a port.
use Rattle.std.proofs.Common.{◌≡◌, ◌≤◌, ◌<◌, List, [], ◌∷◌, length, None, refl, arith}
use Rattle.ca_value.specs.Tree.{Tree, Trees, port, vector, item}
use Rattle.ca_value.specs.View.{view, trees}
use Rattle.ca_value.specs.declared.value.Value.{Value}
use Rattle.ca_meaning.specs.Asks.{value_and_port}

second_is_last : (a b c : Tree) (vs : Trees) → value_and_port (vector (item a (item b (item c vs)))) ≡ None
second_is_last a (port n) c vs = refl
second_is_last a b c vs = refl

-- an answer of a value and a port has two items
pub fewer_than_two : (vs : List Value) → length vs < 2 → value_and_port (vector (trees vs)) ≡ None
fewer_than_two [] h = refl
fewer_than_two (v ∷ []) h = refl
fewer_than_two (v ∷ w ∷ vs) h = absurd (omega arith)

pub more_than_two : (vs : List Value) → 3 ≤ length vs → value_and_port (vector (trees vs)) ≡ None
more_than_two [] h = refl
more_than_two (v ∷ []) h = refl
more_than_two (v ∷ w ∷ []) h = absurd (omega arith)
more_than_two (v ∷ w ∷ u ∷ vs) h = second_is_last (view v) (view w) (view u) (trees vs)
