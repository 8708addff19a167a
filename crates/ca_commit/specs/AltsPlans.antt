-- What is seen of the branches of an alts in their channels decides what it becomes.
use Rattle.std.specs.Prelude.{◌≡◌, ℕ, Option, Some, false, is_some, true}
use Rattle.ca_term.specs.declared.event.Side.{Side}
use Rattle.ca_meaning.specs.Body.{At}
use Rattle.ca_meaning.specs.Wait.{port_of}
use Rattle.ca_commit.specs.Choosing.{IsChosen}
use Rattle.ca_commit.specs.Contents.{Parked, Parts, home}
use Rattle.ca_commit.specs.Deciding.{seen_in}
use Rattle.ca_commit.specs.Planning.{planned, to_do, to_meet, to_prune}
use Rattle.ca_commit.specs.Showing.{channels_held, registries_held}
use Rattle.ca_commit.specs.Standing.{branch_no, is_alts_at, op_at}
use Rattle.ca_commit.specs.declared.choosing.Choice.{Choice}
use Rattle.ca_commit.specs.declared.held.HeldBank.{HeldBank}
use Rattle.ca_commit.specs.declared.listing.Listing.{Listing}
use Rattle.ca_commit.specs.declared.sight.Partner.{Partner}
use Rattle.ca_commit.specs.declared.sight.Sight.{Sight}

-- these banks are those of the parts
abbrev pub AreBanks : {A : Type 0} → Listing HeldBank → Parts A → Type 0
AreBanks banks old = ((i : ℕ) → old.bank i ≡ channels_held banks i) × ((i : ℕ) → old.registry i ≡ registries_held banks i)

-- branch k is done at once
abbrev pub AltsDone : Type 0 → Type 0
AltsDone A = (old : Parts A) (banks : Listing HeldBank) (at : At) (start k : ℕ) → AreBanks banks old → IsChosen banks at start (Choice.Branch k Sight.Alone)
    → planned (seen_in old) (op_at at) start ≡ to_do k (branch_no at k) (is_alts_at at)

-- it meets the one in front, whose wait lives
abbrev pub AltsMeets : Type 0 → Type 0
AltsMeets A = (old : Parts A) (banks : Listing HeldBank) (at : At) (start k : ℕ) (side : Side) (q : Partner) (from : ℕ → Option (Parked A)) → AreBanks banks old → IsChosen banks at start (Choice.Branch k (Sight.Meets side q))
    → old.shard (home q.wait.n) ≡ Some from → is_some (from q.wait.n) ≡ true
    → planned (seen_in old) (op_at at) start ≡ to_meet k (branch_no at k) (is_alts_at at) q.wait.n q.branch

-- or whose wait is gone, and so it has to be pruned
abbrev pub AltsStale : Type 0 → Type 0
AltsStale A = (old : Parts A) (banks : Listing HeldBank) (at : At) (start k : ℕ) (side : Side) (q : Partner) (from : ℕ → Option (Parked A)) → AreBanks banks old → IsChosen banks at start (Choice.Branch k (Sight.Meets side q))
    → old.shard (home q.wait.n) ≡ Some from → is_some (from q.wait.n) ≡ false
    → planned (seen_in old) (op_at at) start ≡ to_prune (port_of (branch_no at k)) side 0
