-- How a builtin's operands come to it.
use Rattle.std.specs.Prelude.{ℕ, zero, suc}
use Rattle.ca_value.specs.declared.builtin.Builtin.{Builtin}
use Rattle.ca_value.specs.declared.builtin.Builtin.TheVariants.{Conj, Assoc}
use Rattle.ca_lower.specs.declared.emit.Layout.{Layout}

abbrev pub layout_of_two : Builtin → Layout
layout_of_two Conj = Layout.Push
layout_of_two b = Layout.Two

abbrev pub layout_of_three : Builtin → Layout
layout_of_three Assoc = Layout.Put
layout_of_three b = Layout.Row

abbrev pub layout_of : Builtin → ℕ → Layout
layout_of b zero = Layout.Row
layout_of b (suc zero) = Layout.One
layout_of b (suc (suc zero)) = layout_of_two b
layout_of b (suc (suc (suc zero))) = layout_of_three b
layout_of b (suc (suc (suc (suc n)))) = Layout.Row
