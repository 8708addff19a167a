-- What is seen of the branches of an alts, each in its channel, before a wait is asked.
use Rattle.std.specs.Prelude.{◌≡◌, ℕ, ◌<◌, List, [], length, true}
use Rattle.ca_term.specs.Event.{BranchView}
use Rattle.ca_meaning.specs.Body.{At}
use Rattle.ca_meaning.specs.Choice.{default_of}
use Rattle.ca_commit.specs.Finding.{Glance}
use Rattle.ca_commit.specs.Planning.{Planned, decided, found_of, otherwise, planned, to_print}
use Rattle.ca_commit.specs.Showing.{seen_by}
use Rattle.ca_commit.specs.Sights.{found_by}
use Rattle.ca_commit.specs.Standing.{branch_no, is_alts_at, nth_branch, op_at}
use Rattle.ca_commit.specs.declared.choosing.Choice.{Choice}
use Rattle.ca_commit.specs.declared.held.HeldBank.{HeldBank}
use Rattle.ca_commit.specs.declared.listing.Listing.{Listing}
use Rattle.ca_commit.specs.declared.sight.Sight.{Sight}

-- it isn't ready, whatever the waits
abbrev pub IsIdle : Sight → Type 0
IsIdle Sight.Unready = Unit {0}
IsIdle Sight.Crowded = Unit {0}
IsIdle other = ⊥

-- it decides, whatever the waits
abbrev pub IsDecisive : Sight → Type 0
IsDecisive Sight.Alone = Unit {0}
IsDecisive (Sight.Meets side q) = Unit {0}
IsDecisive other = ⊥

-- what p makes of the branches is what was chosen; the second argument of p is where none is ready
abbrev pub ChoosesAs : List BranchView → ((ℕ → Glance) → Planned → Planned) → Choice → Type 0
ChoosesAs bs p Choice.Unready = (see : ℕ → Glance) (rest : Planned) → p see rest ≡ rest
ChoosesAs bs p (Choice.Branch k s) = (see : ℕ → Glance) (rest : Planned) → p see rest ≡ decided (found_by s see) true k (nth_branch bs k) rest
ChoosesAs bs p Choice.Asks = Unit {0}

-- a branch that was chosen is there, and decides by what is seen of it
abbrev pub IsSeenAt : Listing HeldBank → List BranchView → Choice → Type 0
IsSeenAt banks bs (Choice.Branch k s) = (k < length bs) × IsDecisive s × ((see : ℕ → Glance) → found_by s see ≡ found_of (seen_by banks see) (nth_branch bs k))
IsSeenAt banks bs other = Unit {0}

-- what the operation at `at` becomes over these banks, looked at from branch `start` on
abbrev pub IsChosen : Listing HeldBank → At → ℕ → Choice → Type 0
IsChosen banks at start Choice.Unready = (see : ℕ → Glance) → planned (seen_by banks see) (op_at at) start ≡ otherwise (seen_by banks see) (op_at at) (default_of (op_at at))
IsChosen banks at start (Choice.Branch k s) = (see : ℕ → Glance) → planned (seen_by banks see) (op_at at) start ≡ decided (found_by s see) (is_alts_at at) k (branch_no at k) (to_print [])
IsChosen banks at start Choice.Asks = Unit {0}
