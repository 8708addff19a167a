-- An event changes what is in the parts that are held, and not which these are.
use Rattle.std.proofs.Common.{◌≡◌, ◌∙◌, ℕ, suc, List, [], ◌∷◌, refl, sym, ap, Bool, true, false, cond, Option, Some, None, eqb, is_some}
use Rattle.std.specs.Prelude.{option_map}
use Rattle.std.specs.Map.{update}
use Rattle.ca_value.specs.Tree.{Tree}
use Rattle.ca_term.specs.Event.{BranchView}
use Rattle.ca_term.specs.Operation.{SeedView}
use Rattle.ca_term.specs.Program.{ProgramView}
use Rattle.ca_meaning.specs.Body.{At}
use Rattle.ca_meaning.specs.Channel.{channel_made}
use Rattle.ca_meaning.specs.ChannelSteps.{other_side}
use Rattle.ca_meaning.specs.Wait.{brought, port_of, side_of}
use Rattle.ca_bank.specs.Kept.{closed_channel, enqueued, pruned, unattended}
use Rattle.ca_commit.specs.Applying.{channels_by, waits_by}
use Rattle.ca_commit.specs.Contents.{Kept, Parked, home, nobody, owner}
use Rattle.ca_commit.specs.Listing.{changed_at, listed}
use Rattle.ca_commit.specs.Listings.{parts}
use Rattle.ca_commit.specs.Numbers.{number_of_bank, number_of_shard}
use Rattle.ca_commit.specs.Parking.{queued_from, waiting_as}
use Rattle.ca_commit.specs.Planning.{Planned, to_close, to_default, to_do, to_look, to_make, to_meet, to_park, to_post, to_print, to_prune, to_refuse, to_register, to_spawn}
use Rattle.ca_commit.specs.Replies.{done_change}
use Rattle.ca_commit.specs.Running.{or_was}
use Rattle.ca_commit.specs.Showing.{bank_in, channels_held, shard_in, waits_held}
use Rattle.ca_commit.specs.Tasks.{agent_of}
use Rattle.ca_commit.specs.Ticking.{closed_result}
use Rattle.ca_states.specs.Code.{CodeView}
use Rattle.ca_states.specs.declared.valid_code.ValidCode.{ValidCode}
use Rattle.ca_table.specs.DrawnEvents.{PartsStay}
use Rattle.ca_table.specs.Seen.{PartSeen}
use Rattle.ca_table.specs.declared.part.Part.{Part}

module _ {X : Type 0} where
  still : (b : Bool) (u : (ℕ → Option X) → ℕ → Option X) (o : Option (ℕ → Option X)) → is_some (cond b (option_map u o) o) ≡ is_some o
  still true u None = refl
  still true u (Some g) = refl
  still false u o = refl

  pub changed_still : (n : ℕ) (f : Option X → Option X) (m : ℕ → Option (ℕ → Option X)) (i : ℕ) → is_some (changed_at n f m i) ≡ is_some (m i)
  changed_still n f m i = still (eqb (home n) i) (λ g. update eqb g n (f (g n))) (m i)

abbrev Ports : Type 0
Ports = ℕ → Option (ℕ → Option Kept)

queued_still : (w k : ℕ) (bs : List BranchView) (m : Ports) (i : ℕ) → is_some (queued_from w k bs m i) ≡ is_some (m i)
queued_still w k [] m i = refl
queued_still w k (b ∷ bs) m i =
    queued_still w (suc k) bs (changed_at (port_of b) (option_map (enqueued (side_of b) (record { wait = w; branch = k; value = brought b }))) m) i
    ∙ changed_still (port_of b) (option_map (enqueued (side_of b) (record { wait = w; branch = k; value = brought b }))) m i

-- the banks
pub channels_still : (p w : ℕ) (q : Planned) (m : Ports) (i : ℕ) → is_some (channels_by p w q m i) ≡ is_some (m i)
channels_still p w (to_do k b alts) m i = changed_still (port_of b) (option_map (done_change b)) m i
channels_still p w (to_meet k b alts v o) m i = changed_still (port_of b) (option_map (pruned (other_side (side_of b)) 0)) m i
channels_still p w (to_park bs) m i = queued_still w 0 bs m i
channels_still p w (to_post bs) m i = queued_still w 0 bs m i
channels_still p w (to_make what) m i = changed_still p (or_was (option_map unattended (channel_made what))) m i
channels_still p w (to_close q) m i = changed_still q (option_map closed_channel) m i
channels_still p w (to_default v) m i = refl
channels_still p w (to_spawn kind r) m i = refl
channels_still p w (to_register name args) m i = refl
channels_still p w (to_print line) m i = refl
channels_still p w (to_look v) m i = refl
channels_still p w (to_prune q side j) m i = refl
channels_still p w (to_refuse f) m i = refl

pub closed_still : (r : Option ℕ) (m : Ports) (i : ℕ) → is_some (closed_result r m i) ≡ is_some (m i)
closed_still None m i = refl
closed_still (Some p) m i = changed_still p (option_map closed_channel) m i

-- and the shards
pub waits_still : {X : Type 0} (w : ℕ) (x none : Parked X) (q : Planned) (m : ℕ → Option (ℕ → Option (Parked X))) (i : ℕ) → is_some (waits_by w x none q m i) ≡ is_some (m i)
waits_still w x none (to_meet k b alts v o) m i = changed_still v (λ z. None) m i
waits_still w x none (to_park bs) m i = changed_still w (λ z. Some x) m i
waits_still w x none (to_post bs) m i = changed_still w (λ z. Some none) m i
waits_still w x none (to_do k b alts) m i = refl
waits_still w x none (to_default v) m i = refl
waits_still w x none (to_make what) m i = refl
waits_still w x none (to_spawn kind r) m i = refl
waits_still w x none (to_close p) m i = refl
waits_still w x none (to_register name args) m i = refl
waits_still w x none (to_print line) m i = refl
waits_still w x none (to_look v) m i = refl
waits_still w x none (to_prune p side j) m i = refl
waits_still w x none (to_refuse f) m i = refl

-- a part that shows something is there
pub shows_there : {T V : Type 0} (view : T → V) (o : Option T) → is_some (option_map view o) ≡ is_some o
shows_there view None = refl
shows_there view (Some x) = refl

stays_by : {T V : Type 0} (view : T → V) (o z : Option T) (m : Option V) → option_map view z ≡ m → is_some m ≡ is_some (option_map view o) → is_some z ≡ is_some o
stays_by view o z m e s = sym (shows_there view z) ∙ ap is_some e ∙ s ∙ shows_there view o

pub parts_stay : {A C : Type 0} (over_code : CodeView → A → Type 0) (place : A → At) (advances : ProgramView → A → A → Type 0) (gives : A → Tree → A → Type 0) (starts : ProgramView → SeedView → A → Type 0) (seen : Part A C → PartSeen A) (code : ValidCode) → PartsStay over_code place advances gives starts seen code
parts_stay over_code place advances gives starts seen code q lane lane2 held held2 task spawned running done = (
  λ i. stays_by bank_in (listed number_of_bank (parts held.banks) i) (listed number_of_bank (parts held2.banks) i) (channels_by held.new_port held.new_wait q (channels_held held.banks) i) (done.channels i) (channels_still held.new_port held.new_wait q (channels_held held.banks) i),
  λ i. stays_by shard_in (listed number_of_shard (parts held.shards) i) (listed number_of_shard (parts held2.shards) i) (waits_by held.new_wait (owner task.number (waiting_as place (agent_of task))) nobody q (waits_held held.shards) i) (done.waits i) (waits_still held.new_wait (owner task.number (waiting_as place (agent_of task))) nobody q (waits_held held.shards) i),
)
