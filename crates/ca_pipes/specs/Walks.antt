-- What is left of a vector's items.
use Rattle.std.specs.Prelude.{ℕ, zero, suc, Bool, true, false}
use Rattle.ca_value.specs.Tree.{Trees, none, item}
use Rattle.ca_value.specs.View.{view}
use Rattle.ca_meaning.specs.Operands.{rest_of}
use Rattle.ca_meaning.specs.Asks.{trees_in}
use Rattle.ca_pipes.specs.declared.walk.Walk.{Walk}

-- without the first so many
abbrev pub skipped : ℕ → Trees → Trees
skipped zero vs = vs
skipped (suc n) vs = skipped n (rest_of vs)

abbrev pub walk_left : Walk → Trees
walk_left w = skipped w.place (trees_in (view w.vector))

abbrev pub is_none : Trees → Bool
is_none none = true
is_none (item v vs) = false
