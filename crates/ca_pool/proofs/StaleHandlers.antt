-- A stale handler that left its queue: the worker may draw that.
use Rattle.std.proofs.Common.{◌≡◌, ◌∙◌, ℕ, List, refl, sym, ap, Option, Some, None, false, is_some}
use Rattle.std.specs.Prelude.{option_map, slice_get}
use Rattle.ca_value.specs.Tree.{Tree}
use Rattle.ca_term.specs.declared.event.Side.{Side}
use Rattle.ca_term.specs.Operation.{SeedView}
use Rattle.ca_term.specs.Program.{ProgramView}
use Rattle.ca_meaning.specs.Body.{At}
use Rattle.ca_meaning.specs.Wait.{Handler}
use Rattle.ca_bank.specs.Kept.{pruned, queue_at}
use Rattle.ca_states.specs.Code.{CodeView}
use Rattle.ca_states.specs.declared.valid_code.ValidCode.{ValidCode}
use Rattle.ca_commit.specs.Contents.{whole}
use Rattle.ca_commit.specs.Deciding.{IsStale}
use Rattle.ca_commit.specs.Listing.{changed_at, listed}
use Rattle.ca_commit.specs.Listings.{parts}
use Rattle.ca_commit.specs.Making.{KeepsOthers}
use Rattle.ca_commit.specs.Numbers.{number_of_bank, number_of_shard}
use Rattle.ca_commit.specs.Showing.{bank_in, channels_held, registries_held, waits_held}
use Rattle.ca_commit.specs.Touched.{prunes}
use Rattle.ca_commit.specs.Waking.{ready_in}
use Rattle.ca_commit.specs.declared.held.Held.{Held}
use Rattle.ca_table.specs.Bearing.{parts_held}
use Rattle.ca_table.specs.Halting.{KeepAll}
use Rattle.ca_table.specs.Parts.{part_seen}
use Rattle.ca_table.specs.declared.part.Lane.{Lane}
use Rattle.ca_table.proofs.SettleMoved.{prunes_draw}
use Rattle.ca_table.proofs.Staying.{changed_still, shows_there}
use Rattle.ca_pool.specs.Desk.{ClockBox, IsMovedWith, SameHeld, holds_banks, holds_shards, laid_aside}
use Rattle.ca_pool.proofs.Desk.{aside_brings, aside_turned}

module _ {A : Type 0} (held held2 : Held A) (others : KeepsOthers held held2) where
  pub keep_all : ((i : ℕ) → registries_held held2.banks i ≡ registries_held held.banks i) → KeepAll held held2
  keep_all registries = record { registries = registries; waits = λ i. ap (λ s. waits_held s i) others.0; ready = ap ready_in others.2 }

  -- what of the held parts changes inside them
  pub same_held : {C : Type 0} (clock clock2 : Option (ClockBox C)) → is_some clock2 ≡ is_some clock → ((i : ℕ) → is_some (channels_held held2.banks i) ≡ is_some (channels_held held.banks i)) → SameHeld clock clock2 held held2
  same_held clock clock2 there banks = record {
    banks = λ i. sym (shows_there bank_in (listed number_of_bank (parts held2.banks) i)) ∙ banks i ∙ shows_there bank_in (listed number_of_bank (parts held.banks) i);
    shards = λ i. ap (λ s. is_some (listed number_of_shard (parts s) i)) others.0;
    ready = ap is_some others.2;
    timers = there;
  }

module _ {A C : Type 0} (over : CodeView → A → Type 0) (place : A → At) (advances : ProgramView → A → A → Type 0) (gives : A → Tree → A → Type 0) (starts : ProgramView → SeedView → A → Type 0) (least faults : C → ℕ) (readings : C → Option (List ℕ)) (code : ValidCode)
    (w p i wait : ℕ) (side : Side) (held held2 : Held A)
    (ready : held.ready ≡ None) (stale : IsStale (parts_held w None None held) p side i)
    (leaves : (h : Handler) → slice_get (queue_at side (whole (channels_held held.banks) p)) i ≡ Some h → wait ≡ h.wait)
    (channels : (j : ℕ) → channels_held held2.banks j ≡ changed_at p (option_map (pruned side i)) (channels_held held.banks) j)
    (registries : (j : ℕ) → registries_held held2.banks j ≡ registries_held held.banks j) (others : KeepsOthers held held2) where
  abbrev pub no_clock : Option (ClockBox C)
  no_clock = None

  pub pruned_held : SameHeld no_clock no_clock held held2
  pruned_held = same_held held held2 others no_clock no_clock refl (λ j. ap is_some (channels j) ∙ changed_still p (option_map (pruned side i)) (channels_held held.banks) j)

  its_wait : wait ≡ stale.handler.wait
  its_wait = leaves stale.handler (ap (λ o. slice_get (queue_at side o) i) stale.there ∙ stale.at_place)

  pub pruned_moved : (n : ℕ) (l : Lane A) → IsMovedWith over place advances gives starts (part_seen least faults readings) code n w (holds_banks held2) (holds_shards held2) (prunes side p wait) (laid_aside (part_seen least faults readings) n code w l None held None held2)
  pruned_moved n l = λ ports looked banks shards.
      prunes_draw over place advances gives starts (part_seen least faults readings) code w n p wait i side (laid_aside (part_seen least faults readings) n code w l None held None held2) held held2 ports looked
      (aside_turned least faults readings n code w l None None held held2 pruned_held) refl stale its_wait channels (keep_all held held2 others registries)
      (aside_brings least faults readings n code w l None None held held2 pruned_held ports looked false false banks shards refl (sym (ap is_some (others.2 ∙ ready))))
