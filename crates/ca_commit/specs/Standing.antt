-- The operation at which an agent stands, and its branches.
use Rattle.std.specs.Prelude.{◌≡◌, ℕ, ◌<◌, List, [], length, slice_index_or, Bool, true, false}
use Rattle.ca_term.specs.Operation.{OpView, printing}
use Rattle.ca_term.specs.Event.{BranchView, take_of}
use Rattle.ca_meaning.specs.Body.{At, at_op, ended, faulted, local, nowhere}
use Rattle.ca_meaning.specs.BodyViews.{is_at_op}
use Rattle.ca_meaning.specs.Choice.{branches_of}
use Rattle.ca_commit.specs.Planning.{is_alts}

abbrev pub op_at : At → OpView
op_at (at_op want) = want.op
op_at local = printing []
op_at (ended v) = printing []
op_at (faulted f p) = printing []
op_at nowhere = printing []

abbrev pub is_alts_at : At → Bool
is_alts_at at = is_alts (op_at at)

-- branch k of a list that has one
abbrev pub nth_branch : List BranchView → ℕ → BranchView
nth_branch bs k = slice_index_or bs k (take_of 0)

abbrev pub branch_no : At → ℕ → BranchView
branch_no at k = nth_branch (branches_of (op_at at)) k

-- it stands at an operation that has a branch k
abbrev pub IsAtBranch : At → ℕ → Type 0
IsAtBranch at k = (is_at_op at ≡ true) × (k < length (branches_of (op_at at)))

-- at one that is no alts: branch 0 is its only one
abbrev pub IsAtOne : At → Type 0
IsAtOne at = IsAtBranch at 0 × (is_alts_at at ≡ false)
