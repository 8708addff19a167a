-- The operations that put, take or choose: their branches, and which of them may be done.
-- (core.async API reference: `alts!`, `do-alts`, `put!`.)
use Rattle.std.specs.Prelude.{◌≡◌, ◌≢◌, ℕ, ◌<◌, List, [], ◌∷◌, slice_get, Option, Some, None, Bool, true, false, cond, map}
use Rattle.ca_value.specs.Tree.{Tree, vector}
use Rattle.ca_term.specs.declared.event.Side.TheVariants.{Take, Put}
use Rattle.ca_term.specs.Operation.{OpView, taking, putting, choosing, posting}
use Rattle.ca_term.specs.Event.{BranchView, take_of, put_of}
use Rattle.ca_meaning.specs.Operands.{port_of_value, first_of, second_of, values_in}
use Rattle.ca_meaning.specs.Wait.{front, port_of}
use Rattle.ca_meaning.specs.Row.{Row, not_ready, completes, meets, row_at}
use Rattle.ca_meaning.specs.State.{State}

-- a port is a take, a pair of a port and a value is a put
abbrev pub branch_of : Tree → BranchView
branch_of (vector vs) = put_of (port_of_value (first_of vs)) (second_of vs)
branch_of v = take_of (port_of_value v)

abbrev pub branches_of : OpView → List BranchView
branches_of (taking c) = take_of (port_of_value c) ∷ []
branches_of (putting c v) = put_of (port_of_value c) v ∷ []
branches_of (posting c v) = put_of (port_of_value c) v ∷ []
branches_of (choosing ports priority default) = map branch_of (values_in ports)
branches_of op = []

abbrev pub has_priority : OpView → Bool
has_priority (choosing ports priority default) = priority
has_priority op = false

abbrev pub default_of : OpView → Option Tree
default_of (choosing ports priority default) = default
default_of op = None

-- a task waits at it, if nothing is ready and it has no default
abbrev pub parks : OpView → Bool
parks (taking c) = true
parks (putting c v) = true
parks (choosing ports priority default) = true
parks op = false

-- what becomes of the branch in this state
abbrev pub row : State → BranchView → Row
row s b = row_at (s.channels (port_of b)) (front Take (port_of b) s.waits) (front Put (port_of b) s.waits) b

abbrev pub is_ready : Row → Bool
is_ready not_ready = false
is_ready (completes answer after) = true
is_ready (meets h v) = true

abbrev pub Ready : BranchView → State → Type 0
Ready b s = row s b ≢ not_ready

abbrev pub any_ready : State → List BranchView → Bool
any_ready s [] = false
any_ready s (b ∷ bs) = cond (is_ready (row s b)) true (any_ready s bs)

abbrev pub NoneReady : State → List BranchView → Type 0
NoneReady s bs = any_ready s bs ≡ false

-- b is the branch k of the operation, with priority the first that is ready; else the choice is free
abbrev pub Picks : State → OpView → ℕ → BranchView → Type 0
Picks s op k b =
    (slice_get (branches_of op) k ≡ Some b)
    × (has_priority op ≡ true → (j : ℕ) (o : BranchView) → j < k → slice_get (branches_of op) j ≡ Some o → row s o ≡ not_ready)
