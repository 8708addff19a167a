-- What is seen of a take or a put in its channel decides what it becomes, from whichever branch one begins.
use Rattle.std.specs.Prelude.{◌≡◌, ℕ, [], ◌∷◌, Option, Some, cond, is_some, false, true}
use Rattle.ca_term.specs.declared.event.Side.{Side}
use Rattle.ca_meaning.specs.Body.{At}
use Rattle.ca_meaning.specs.Choice.{parks}
use Rattle.ca_meaning.specs.Wait.{port_of, side_of}
use Rattle.ca_bank.specs.Kept.{queue_at}
use Rattle.ca_commit.specs.Contents.{Kept, Parked, Parts, home}
use Rattle.ca_commit.specs.Deciding.{seen_in}
use Rattle.ca_commit.specs.Finding.{Glance, find_at}
use Rattle.ca_commit.specs.InPlace.{IsPlainOperation}
use Rattle.ca_commit.specs.Planning.{planned, to_do, to_meet, to_park, to_post, to_prune}
use Rattle.ca_commit.specs.Sights.{TellsFew, found_by}
use Rattle.ca_commit.specs.Standing.{branch_no, is_alts_at, op_at}
use Rattle.ca_commit.specs.declared.sight.Partner.{Partner}
use Rattle.ca_commit.specs.declared.sight.Sight.{Sight}

module _ {A : Type 0} where
  -- s is seen of the take or put at `at` in a bank, which lies among the parts
  pub record IsSightSeen (old : Parts A) (kept : ℕ → Option Kept) (at : At) (s : Sight) : Type 0 where
    pub plain : IsPlainOperation kept (op_at at)
    pub was : old.bank (home (port_of (branch_no at 0))) ≡ Some kept
    pub found : (see : ℕ → Glance) → found_by s see ≡ find_at see (kept (port_of (branch_no at 0))) (branch_no at 0)
    pub few : TellsFew s (queue_at (side_of (branch_no at 0)) (kept (port_of (branch_no at 0))))

-- it is done at once
abbrev pub PlainDone : Type 0 → Type 0
PlainDone A = (old : Parts A) (kept : ℕ → Option Kept) (at : At) (start : ℕ) → IsSightSeen old kept at Sight.Alone
    → planned (seen_in old) (op_at at) start ≡ to_do 0 (branch_no at 0) (is_alts_at at)

-- it meets the one in front, whose wait lives
abbrev pub PlainMeets : Type 0 → Type 0
PlainMeets A = (old : Parts A) (kept : ℕ → Option Kept) (at : At) (start : ℕ) (side : Side) (q : Partner) (from : ℕ → Option (Parked A)) → IsSightSeen old kept at (Sight.Meets side q)
    → old.shard (home q.wait.n) ≡ Some from → is_some (from q.wait.n) ≡ true
    → planned (seen_in old) (op_at at) start ≡ to_meet 0 (branch_no at 0) (is_alts_at at) q.wait.n q.branch

-- or whose wait is gone, and so it has to be pruned
abbrev pub PlainStale : Type 0 → Type 0
PlainStale A = (old : Parts A) (kept : ℕ → Option Kept) (at : At) (start : ℕ) (side : Side) (q : Partner) (from : ℕ → Option (Parked A)) → IsSightSeen old kept at (Sight.Meets side q)
    → old.shard (home q.wait.n) ≡ Some from → is_some (from q.wait.n) ≡ false
    → planned (seen_in old) (op_at at) start ≡ to_prune (port_of (branch_no at 0)) side 0

-- it waits: its task, or a posted put alone
abbrev pub PlainWaits : Type 0 → Type 0
PlainWaits A = (old : Parts A) (kept : ℕ → Option Kept) (at : At) (start : ℕ) → IsSightSeen old kept at Sight.Unready
    → planned (seen_in old) (op_at at) start ≡ cond (parks (op_at at)) (to_park (branch_no at 0 ∷ [])) (to_post (branch_no at 0 ∷ []))
