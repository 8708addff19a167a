-- A held shard with one wait changed.
use Rattle.std.proofs.Common.{◌≡◌, ℕ, List, ap, ◌∙◌, Option, option_map, eqb, slice_index_or, slice_set}
use Rattle.std.specs.Map.{update}
use Rattle.ca_bank.specs.Shard.{parked_in}
use Rattle.ca_bank.specs.declared.shard.Parked.{Parked as ParkedCode}
use Rattle.ca_bank.specs.declared.shard.Shard.{Shard}
use Rattle.ca_commit.specs.Contents.{home}
use Rattle.ca_commit.specs.Listing.{IsFirst, changed_at, listed}
use Rattle.ca_commit.specs.Numbers.{number_of_shard}
use Rattle.ca_commit.specs.Showing.{parked_view, shard_in, waits_of}
use Rattle.ca_commit.specs.declared.held.HeldShard.{HeldShard}
use Rattle.ca_commit.specs.declared.task.Task.{Task}
use Rattle.ca_commit.proofs.Listed.{part_changes}
use Rattle.ca_commit.proofs.Updates.{mapped_update}

pub shard_changes : {A : Type 0} (xs : List (HeldShard A)) (n i : ℕ) (e e2 : HeldShard A) (s s2 : Shard (Task A)) (o : Option (ParkedCode (Task A))) → IsFirst number_of_shard xs (home n) i → e ≡ slice_index_or xs i e → s ≡ e.shard.value → e2.shard.value ≡ s2 → e2.number ≡ e.number → ((q : ℕ) → parked_in s2 q ≡ update eqb (parked_in s) n o q)
    → (j : ℕ) → option_map shard_in (listed number_of_shard (slice_set xs i e2) j) ≡ changed_at n (λ z. option_map parked_view o) (λ i. option_map shard_in (listed number_of_shard xs i)) j
shard_changes {A} xs n i e e2 s s2 o first at was is same after = part_changes number_of_shard shard_in xs n i e e2 (waits_of s) (λ z. option_map parked_view o) first at same (ap waits_of was)
    (λ q. ap (λ (s : Shard (Task A)). option_map parked_view (parked_in s q)) is ∙ ap (option_map parked_view) (after q) ∙ mapped_update parked_view (parked_in s) n o q)
