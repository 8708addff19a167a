-- What the operations, choices and orders of the code stand for.
use Rattle.std.specs.Prelude.{ℤ, ◌+ℤ◌, ◌-ℤ◌, ◌*ℤ◌, int_lt, int_le, Bool}
use Rattle.std.specs.Int.{int_min, int_max}
use Rattle.ca_value.specs.declared.builtin.numbers.Operation.{Operation}
use Rattle.ca_value.specs.declared.builtin.numbers.Choice.{Choice}
use Rattle.ca_value.specs.declared.builtin.maps.Half.{Half}
use Rattle.ca_value.specs.Tree.{Tree}
use Rattle.ca_value.specs.declared.builtin.numbers.Order.{Order}

abbrev pub operation_of : Operation → ℤ → ℤ → ℤ
operation_of Operation.Sum = ◌+ℤ◌
operation_of Operation.Difference = ◌-ℤ◌
operation_of Operation.Product = ◌*ℤ◌

abbrev pub choice_of : Choice → ℤ → ℤ → ℤ
choice_of Choice.Least = int_min
choice_of Choice.Greatest = int_max

abbrev pub order_of : Order → ℤ → ℤ → Bool
order_of Order.Less = int_lt
order_of Order.Greater = λ x y. int_lt y x
order_of Order.LessOrEqual = int_le
order_of Order.GreaterOrEqual = λ x y. int_le y x

abbrev pub half_of : Half → Tree × Tree → Tree
half_of Half.Key p = p.0
half_of Half.Value p = p.1
