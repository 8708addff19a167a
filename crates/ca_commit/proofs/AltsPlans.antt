-- An alts becomes what is seen of the branch that decides.
use Rattle.std.proofs.Common.{◌≡◌, ℕ, [], Option, refl, sym, ap, ◌∙◌}
use Rattle.ca_meaning.specs.Body.{At}
use Rattle.ca_commit.specs.AltsPlans.{AltsDone, AltsMeets, AltsStale, AreBanks}
use Rattle.ca_commit.specs.Choosing.{IsChosen}
use Rattle.ca_commit.specs.Contents.{Kept, Parts, whole}
use Rattle.ca_commit.specs.Deciding.{seen_in}
use Rattle.ca_commit.specs.Finding.{Glance, glance, gone, here}
use Rattle.ca_commit.specs.Planning.{Seen, decided, planned, to_print}
use Rattle.ca_commit.specs.Showing.{channels_held, seen_by}
use Rattle.ca_commit.specs.Sights.{asked_of, found_with}
use Rattle.ca_commit.specs.Standing.{branch_no, is_alts_at, op_at}
use Rattle.ca_meaning.specs.Registry.{Registry}
use Rattle.ca_commit.specs.declared.choosing.Choice.{Choice}
use Rattle.ca_commit.specs.declared.held.HeldBank.{HeldBank}
use Rattle.ca_commit.specs.declared.listing.Listing.{Listing}
use Rattle.ca_commit.specs.declared.sight.Sight.{Sight}
use Rattle.ca_commit.proofs.PlainPlans.{glanced, lives_here, not_here}

-- the banks show what the parts do
seen_so : {A : Type 0} (old : Parts A) (banks : Listing HeldBank) → AreBanks banks old → seen_in old ≡ seen_by banks (glance old.shard)
seen_so old banks e =
    ap (λ (m : ℕ → Option (ℕ → Option Kept)). record { ports = whole m; registries = whole old.registry; see = glance old.shard }) (λ j i. e.0 i j)
    ∙ ap (λ (m : ℕ → Option (ℕ → Option Registry)). record { ports = whole (channels_held banks); registries = whole m; see = glance old.shard }) (λ j i. e.1 i j)

alts_planned : {A : Type 0} (old : Parts A) (banks : Listing HeldBank) (at : At) (start k : ℕ) (s : Sight) (g : Glance) → AreBanks banks old → IsChosen banks at start (Choice.Branch k s) → g ≡ glance old.shard (asked_of s)
    → planned (seen_in old) (op_at at) start ≡ decided (found_with s g) (is_alts_at at) k (branch_no at k) (to_print [])
alts_planned old banks at start k s g are chosen e =
    ap (λ (x : Seen). planned x (op_at at) start) (seen_so old banks are) ∙ chosen (glance old.shard) ∙ ap (λ h. decided (found_with s h) (is_alts_at at) k (branch_no at k) (to_print [])) (sym e)

pub alts_done : {A : Type 0} → AltsDone A
alts_done old banks at start k are chosen = alts_planned old banks at start k Sight.Alone (glance old.shard 0) are chosen refl

pub alts_meets : {A : Type 0} → AltsMeets A
alts_meets old banks at start k side q from are chosen was lives = alts_planned old banks at start k (Sight.Meets side q) here are chosen (glanced old q.wait.n from here was (lives_here (from q.wait.n) lives))

pub alts_stale : {A : Type 0} → AltsStale A
alts_stale old banks at start k side q from are chosen was lives = alts_planned old banks at start k (Sight.Meets side q) gone are chosen (glanced old q.wait.n from gone was (not_here (from q.wait.n) lives))
