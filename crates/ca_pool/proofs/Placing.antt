-- Banks that were moved out have the channels whose home they are, and whoever waits in a shard is paused.
use Rattle.std.proofs.Common.{◌≡◌, ◌∙◌, ℕ, ◌+◌, List, [], ◌∷◌, ◌++◌, refl, sym, ap, subst, arith, Bool, true, false, Option, Some, None, eqb, eqb-true}
use Rattle.std.specs.Prelude.{option_map}
use Rattle.std.specs.FinMap as map
use Rattle.std.proofs.lemmas.Bool.{eqb-false}
use Rattle.ca_meaning.specs.Body.{At}
use Rattle.ca_states.specs.Code.{CodeView}
use Rattle.ca_commit.specs.Agents.{TaskAgent}
use Rattle.ca_commit.specs.Contents.{Kept, Parked, at_key, home, nobody, owner, whole}
use Rattle.ca_commit.specs.Listing.{listed}
use Rattle.ca_commit.specs.Listings.{parts}
use Rattle.ca_commit.specs.Numbers.{number_of_bank, number_of_shard}
use Rattle.ca_commit.specs.Running.{Placed}
use Rattle.ca_commit.specs.Showing.{bank_in, channels_held, shard_in, waits_held}
use Rattle.ca_commit.specs.Waking.{IsPaused}
use Rattle.ca_commit.specs.declared.held.HeldBank.{HeldBank}
use Rattle.ca_commit.specs.declared.held.HeldShard.{HeldShard}
use Rattle.ca_commit.specs.declared.listing.Listing.{Listing}
use Rattle.ca_table.specs.Parts.{bank_seen, contents_seen, shard_seen}
use Rattle.ca_table.specs.Seen.{held_of}
use Rattle.ca_table.specs.Sound.{IsSound}
use Rattle.ca_table.specs.declared.part.Contents.TheVariants as V
use Rattle.ca_table.proofs.Bearing.{channels_seen, waits_seen}
use Rattle.ca_table.proofs.Liftings.{listed_else, listed_last}
use Rattle.ca_table.proofs.MadeOf.{some_same}

module _ {A C : Type 0} (over : CodeView → A → Type 0) (place : A → At) (code : CodeView) (least faults : C → ℕ) (readings : C → Option (List ℕ)) (n : ℕ) where
  abbrev SoundBank : ℕ → HeldBank → Type 0
  SoundBank k x = IsSound over place code n k (held_of (contents_seen least faults readings (V.Bank x)))

  abbrev SoundShard : ℕ → HeldShard A → Type 0
  SoundShard k x = IsSound over place code n k (held_of (contents_seen least faults readings (V.Shard x)))

  pub placed_by : (banks : Listing HeldBank) → ((i : ℕ) (x : HeldBank) → listed number_of_bank (parts banks) i ≡ Some x → SoundBank (n + i) x) → Placed (channels_held banks)
  placed_by banks sound i p f k there is = by (listed number_of_bank (parts banks) i) refl there where
    by : (o : Option HeldBank) → listed number_of_bank (parts banks) i ≡ o → option_map bank_in o ≡ Some f → home p ≡ i
    by None l e = absurd (let z : None ≡ Some f = e in cc)
    by (Some x) l e = let z : n + home p ≡ n + i = (sound i x l).channels (record { channels = map.get (bank_seen x.bank.value).channels; registries = map.get (bank_seen x.bank.value).registries }) p k refl
        (ap (λ (g : ℕ → Option Kept). g p) (channels_seen x.bank.value ∙ some_same (bank_in x) f e) ∙ is) in omega (arith, z)

  paused_at : (k : ℕ) (o : Option (HeldShard A)) → ((x : HeldShard A) → o ≡ Some x → SoundShard k x) → (w : ℕ) → IsPaused place (at_key (option_map shard_in o) w)
  paused_at k None sound w = tt
  paused_at k (Some x) sound w = by (shard_in x w) refl where
    by : (o : Option (Parked (TaskAgent A))) → shard_in x w ≡ o → IsPaused place o
    by None e = tt
    by (Some nobody) e = tt
    by (Some (owner u a)) e = (sound x refl).paused (map.get (shard_seen x.shard.value)) w u a refl (ap (λ (g : ℕ → Option (Parked (TaskAgent A))). g w) (waits_seen x.shard.value) ∙ e)

  pub paused_by : (shards : Listing (HeldShard A)) → ((i : ℕ) (x : HeldShard A) → listed number_of_shard (parts shards) i ≡ Some x → SoundShard (n + 16 + i) x) → (w : ℕ) → IsPaused place (whole (waits_held shards) w)
  paused_by shards sound w = paused_at (n + 16 + home w) (listed number_of_shard (parts shards) (home w)) (sound (home w)) w

  -- where none is held nobody waits
  pub paused_none : (shards : Listing (HeldShard A)) → parts shards ≡ [] → (w : ℕ) → IsPaused place (whole (waits_held shards) w)
  paused_none shards e w = subst (λ (xs : List (HeldShard A)). IsPaused place (at_key (option_map shard_in (listed number_of_shard xs (home w))) w)) (sym e) tt

  pub paused_same : (old new : Listing (HeldShard A)) → parts new ≡ parts old → ((w : ℕ) → IsPaused place (whole (waits_held old) w)) → (w : ℕ) → IsPaused place (whole (waits_held new) w)
  paused_same old new e all w = subst (λ (xs : List (HeldShard A)). IsPaused place (at_key (option_map shard_in (listed number_of_shard xs (home w))) w)) (sym e) (all w)

  -- one shard more
  pub paused_more : (old new : Listing (HeldShard A)) (x : HeldShard A) (k : ℕ) → parts new ≡ parts old ++ x ∷ [] → number_of_shard x ≡ k → listed number_of_shard (parts old) k ≡ None → SoundShard (n + 16 + k) x
      → ((w : ℕ) → IsPaused place (whole (waits_held old) w)) → (w : ℕ) → IsPaused place (whole (waits_held new) w)
  paused_more old new x k more is none sound all w = by (eqb k (home w)) refl where
    here : k ≡ home w → listed number_of_shard (parts new) (home w) ≡ Some x
    here e = ap (λ (xs : List (HeldShard A)). listed number_of_shard xs (home w)) more ∙ listed_last number_of_shard (parts old) x (home w) (is ∙ e) (sym (ap (listed number_of_shard (parts old)) e) ∙ none)

    by : (b : Bool) → eqb k (home w) ≡ b → IsPaused place (whole (waits_held new) w)
    by true e = subst (λ (o : Option (HeldShard A)). IsPaused place (at_key (option_map shard_in o) w)) (sym (here (eqb-true k (home w) e)))
        (paused_at (n + 16 + k) (Some x) (λ y s. subst (λ (z : HeldShard A). SoundShard (n + 16 + k) z) (some_same x y s) sound) w)
    by false e = subst (λ (o : Option (HeldShard A)). IsPaused place (at_key (option_map shard_in o) w)) (sym (ap (λ (xs : List (HeldShard A)). listed number_of_shard xs (home w)) more ∙ listed_else number_of_shard (parts old) x (home w) (λ s. eqb-false k (home w) e (sym is ∙ s)))) (all w)
