-- Builtins that test values.
use Rattle.std.specs.Prelude.{ℤ, pos, int_lt, Bool, true, false, not, ◌&&◌, List, [], ◌∷◌}
use Rattle.ca_value.specs.declared.builtin.predicates.Test.{Test}
use Rattle.ca_value.specs.Tree.{Tree, nil, bool}
use Rattle.ca_value.specs.Equality.{equals}
use Rattle.ca_value.specs.Numbers.{is_zero, is_even}

-- false and nil are false, all else is true
abbrev pub is_falsy : Tree → Bool
is_falsy nil = true
is_falsy (bool b) = not b
is_falsy t = false

abbrev pub is_nil_tree : Tree → Bool
is_nil_tree nil = true
is_nil_tree t = false

abbrev pub is_the_bool : Bool → Tree → Bool
is_the_bool true (bool b) = b
is_the_bool false (bool b) = not b
is_the_bool c t = false

-- each is equal to the next
abbrev pub all_equal : Tree → List Tree → Bool
all_equal t [] = true
all_equal t (u ∷ us) = equals t u && all_equal u us

abbrev pub test_of : Test → ℤ → Bool
test_of Test.Zero z = is_zero z
test_of Test.Positive z = int_lt (pos 0) z
test_of Test.Negative z = int_lt z (pos 0)
test_of Test.Even z = is_even z
test_of Test.Odd z = not (is_even z)
