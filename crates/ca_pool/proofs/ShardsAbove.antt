-- One shard more, above all that are held.
use Rattle.std.proofs.Common.{◌≡◌, ◌≢◌, ◌∙◌, ℕ, ◌<◌, ◌≤◌, refl, sym, ap, Bool, true, false, cond, Option, Some, None, eqb, eqb-true, is_some}
use Rattle.std.proofs.lemmas.Bool.{cases_lt, eqb-false}
use Rattle.std.proofs.Common.{⊎_elim}
use Rattle.std.specs.Prelude.{option_map}
use Rattle.ca_term.specs.Program.{ProgramView}
use Rattle.ca_meaning.specs.Task.{TaskBody}
use Rattle.ca_states.specs.Code.{CodeView}
use Rattle.ca_states.specs.declared.valid_code.ValidCode.{ValidCode}
use Rattle.ca_turns.specs.Hands.{TableId}
use Rattle.ca_commit.specs.Contents.{home}
use Rattle.ca_commit.specs.Listing.{listed}
use Rattle.ca_commit.specs.Listings.{parts}
use Rattle.ca_commit.specs.Numbers.{number_of_bank, number_of_shard}
use Rattle.ca_commit.specs.declared.held.Held.{Held}
use Rattle.ca_table.specs.Homes.{has_home}
use Rattle.ca_table.specs.Seen.{PartSeen}
use Rattle.ca_table.specs.declared.homes.Homes.{Homes}
use Rattle.ca_table.specs.declared.part.Lane.{Lane}
use Rattle.ca_table.specs.declared.part.Part.{Part}
use Rattle.ca_table.specs.declared.worker.Worker.{Worker}
use Rattle.ca_pool.specs.AtEvent.{HasTaken}
use Rattle.ca_pool.specs.Desk.{ClockBox, holds_shards}
use Rattle.ca_pool.specs.Resolving.{HoldsThese}

pub none_there : {X : Type 0} (o : Option X) → is_some o ≡ false → o ≡ None
none_there None e = refl
none_there (Some x) e = absurd (let k : true ≡ false = e in cc)

none_mapped : {X Y : Type 0} (f : X → Y) (o : Option X) → option_map f o ≡ None → o ≡ None
none_mapped f None e = refl
none_mapped f (Some x) e = absurd (let k : Some (f x) ≡ None = e in cc)

module _ {A C : Type 0} (over : CodeView → A → Type 0) (stands_as : ProgramView → A → TaskBody → Type 0) (seen : Part A C → PartSeen A) (code : ValidCode) (id : TableId) (program : ProgramView) (n : ℕ) (l : Lane A) (clock : Option (ClockBox C)) (held : Held A) (w : Worker A C) (s : HasTaken over stands_as code id program n l seen clock held w) where
  -- there are sixteen shards
  none_past : (i : ℕ) → 16 ≤ i → listed number_of_shard (parts held.shards) i ≡ None
  none_past i le = none_mapped _ (listed number_of_shard (parts held.shards) i) (s.sorted.few_shards i le)

  -- none is held from that number on
  pub none_from : (banks shards : Homes) (number : ℕ) → HoldsThese banks shards held → ((i : ℕ) → number ≤ i → i < 16 → has_home shards i ≡ false) → (i : ℕ) → number ≤ i → listed number_of_shard (parts held.shards) i ≡ None
  none_from banks shards number these above i le = ⊎_elim (λ lt. none_there (listed number_of_shard (parts held.shards) i) (these.shards i lt ∙ above i le lt)) (none_past i) (cases_lt i 16)

-- what is held with one shard more
pub more_held : {A : Type 0} (banks old new : Homes) (number : ℕ) (held held2 : Held A) → number < 16 → HoldsThese banks old held → held2.banks ≡ held.banks → is_some (listed number_of_shard (parts held2.shards) number) ≡ true → ((i : ℕ) → i ≢ number → listed number_of_shard (parts held2.shards) i ≡ listed number_of_shard (parts held.shards) i)
    → ((i : ℕ) → has_home new i ≡ cond (eqb (home number) i) true (has_home old i)) → home number ≡ number → HoldsThese banks new held2
more_held banks old new number held held2 lt these same there others added own = record {
  banks = λ i lt. ap (λ b. is_some (listed number_of_bank (parts b) i)) same ∙ these.banks i lt;
  shards = λ i lt. by i lt (eqb number i) refl ∙ sym (added i ∙ ap (λ (k : ℕ). cond (eqb k i) true (has_home old i)) own);
} where
  by : (i : ℕ) → i < 16 → (b : Bool) → eqb number i ≡ b → holds_shards held2 i ≡ cond (eqb number i) true (has_home old i)
  by i lt true e = ap (λ (k : ℕ). holds_shards held2 k) (sym (eqb-true number i e)) ∙ there ∙ sym (ap (λ b. cond b true (has_home old i)) e)
  by i lt false e = ap is_some (others i (λ z. eqb-false number i e (sym z))) ∙ these.shards i lt ∙ sym (ap (λ b. cond b true (has_home old i)) e)
