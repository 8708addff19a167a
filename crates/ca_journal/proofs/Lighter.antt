-- A part of a value is lighter than all parts together.
use Rattle.std.proofs.Common.{◌≡◌, ℕ, zero, suc, ◌+◌, ◌<◌, ◌≤◌, List, [], ◌∷◌, length, get_or, arith, subst, sym}
use Rattle.ca_value.specs.Measure.{weight_of, weight_of_items, weight_of_pairs}
use Rattle.ca_value.specs.View.{view, trees, tree_pairs}
use Rattle.ca_value.specs.declared.value.Value.{Value}
use Rattle.ca_value.specs.declared.value.Pair.{Pair}

item_at : (vs : List Value) (i : ℕ) (d : Value) → i < length vs → weight_of (view (get_or vs i d)) ≤ weight_of_items (trees vs)
item_at [] i d h = absurd (omega arith)
item_at (v ∷ vs) zero d h = omega arith
item_at (v ∷ vs) (suc i) d h = omega (arith, item_at vs i d (omega arith))

pub lighter_item : (vs : List Value) (i : ℕ) (v : Value) → i < length vs → v ≡ get_or vs i v → weight_of (view v) ≤ weight_of_items (trees vs)
lighter_item vs i v h e = subst (λ (x : Value). weight_of (view x) ≤ weight_of_items (trees vs)) (sym e) (item_at vs i v h)

pair_at : (ps : List Pair) (i : ℕ) (d : Pair) → i < length ps → weight_of (view (get_or ps i d).key) + weight_of (view (get_or ps i d).value) ≤ weight_of_pairs (tree_pairs ps)
pair_at [] i d h = absurd (omega arith)
pair_at (p ∷ ps) zero d h = omega arith
pair_at (p ∷ ps) (suc i) d h = omega (arith, pair_at ps i d (omega arith))

pub lighter_pair : (ps : List Pair) (i : ℕ) (p : Pair) → i < length ps → p ≡ get_or ps i p → weight_of (view p.key) + weight_of (view p.value) ≤ weight_of_pairs (tree_pairs ps)
lighter_pair ps i p h e =
    subst (λ (x : Pair). weight_of (view x.key) + weight_of (view x.value) ≤ weight_of_pairs (tree_pairs ps)) (sym e) (pair_at ps i p h)
