-- How a tree of deadlines is stored.
use Rattle.std.specs.Prelude.{◌≡◌, ℕ, ◌+◌, ◌≤◌, max, List, [], ◌∷◌, ◌++◌, length}
use Rattle.ca_value.specs.Deadlines.{Deadline}
use Rattle.ca_timers.specs.Timers.{deadline_view}
use Rattle.ca_timers.specs.Tree.{TreeView}
use Rattle.ca_timers.specs.declared.tree.Tree.TheInside.{Inside}
use Rattle.ca_timers.specs.declared.tree.Node.{Node}
use Rattle.ca_timers.specs.declared.tree.Root.{Root}
use Rattle.ca_timers.specs.declared.tree.Root.TheVariants.{Empty, Fork}

-- the deadlines before a node's own, its own and those behind it
abbrev pub node_deadlines : Node → List Deadline
node_deadlines n = n.before.deadlines ++ deadline_view n.deadline ∷ n.behind.deadlines

abbrev pub root_deadlines : Root → List Deadline
root_deadlines Empty = []
root_deadlines (Fork n) = node_deadlines n.value

abbrev pub tree_view : Inside → TreeView
tree_view t = record { deadlines = root_deadlines t.root; height = t.height }

-- neither height is more than this above the other
abbrev pub DifferByAtMost : ℕ → ℕ → ℕ → Type 0
DifferByAtMost by l r = (l ≤ r + by) × (r ≤ l + by)

-- the sides of a node differ by one level at most, and the height is that of the higher one and one more
abbrev pub IsBalanced : Root → ℕ → Type 0
IsBalanced Empty h = h ≡ 0
IsBalanced (Fork n) h = (h ≡ max n.value.before.height n.value.behind.height + 1) × DifferByAtMost 1 n.value.before.height n.value.behind.height

-- it is balanced, its count is that of its deadlines, and no level is without one
abbrev pub IsTree : Inside → Type 0
IsTree t = IsBalanced t.root t.height × (t.count ≡ length (root_deadlines t.root)) × (t.height ≤ t.count)

-- the height that a node with sides of these heights comes to when it is balanced again
abbrev pub Rebalances : ℕ → ℕ → ℕ → Type 0
Rebalances l r h = (max l r ≤ h) × (h ≤ max l r + 1) × (DifferByAtMost 1 l r → h ≡ max l r + 1)
