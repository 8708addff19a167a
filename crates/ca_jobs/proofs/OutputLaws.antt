-- A nil among outputs.
use Rattle.std.proofs.Common.{◌≡◌, false, ap, ◌||◌}
use Rattle.ca_value.specs.Tree.{Tree, Trees, item}
use Rattle.ca_meaning.specs.Applied.{has_nil}
use Rattle.ca_meaning.specs.Operands.{is_nil}

-- past an output that isn't nil
pub nil_past : (v : Tree) (vs : Trees) → is_nil v ≡ false → has_nil (item v vs) ≡ has_nil vs
nil_past v vs e = ap (λ b. b || has_nil vs) e
