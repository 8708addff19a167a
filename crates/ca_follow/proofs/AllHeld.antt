-- All parts stay held by an event, and each number stays in its own; what they have was there, or is the event's.
use Rattle.std.proofs.Common.{◌≡◌, ◌⊎◌, inl, inr, ⊎_elim, ℕ, suc, List, [], ◌∷◌, refl, sym, ap, ◌∙◌, subst, Bool, true, false, cond, Option, Some, None, option_map, is_some, eqb, eqb-true}
use Rattle.std.specs.Map.{update}
use Rattle.ca_term.specs.Event.{BranchView}
use Rattle.ca_meaning.specs.Channel.{channel_made}
use Rattle.ca_meaning.specs.ChannelSteps.{other_side}
use Rattle.ca_meaning.specs.Operands.{rest_of}
use Rattle.ca_meaning.specs.Registry.{registry_made}
use Rattle.ca_meaning.specs.Wait.{brought, port_of, side_of}
use Rattle.ca_bank.specs.Kept.{closed_channel, enqueued, pruned, unattended}
use Rattle.ca_registry.specs.Registry.{registry_after}
use Rattle.ca_commit.specs.Agents.{TaskAgent}
use Rattle.ca_commit.specs.Applying.{BankChannels, Members, channels_by, registries_by, waits_by}
use Rattle.ca_commit.specs.Contents.{Kept, Parked, at_key, home, whole}
use Rattle.ca_commit.specs.Entering.{registry_of}
use Rattle.ca_commit.specs.Listing.{changed_at}
use Rattle.ca_commit.specs.Parking.{queued_from}
use Rattle.ca_commit.specs.Planning.{Planned, to_close, to_default, to_do, to_look, to_make, to_meet, to_park, to_post, to_print, to_prune, to_refuse, to_register, to_spawn}
use Rattle.ca_commit.specs.Replies.{done_change}
use Rattle.ca_commit.specs.Running.{Placed, or_was}
use Rattle.ca_commit.specs.Ticking.{closed_all, closed_result}
use Rattle.ca_commit.proofs.Laid.{same_map}
use Rattle.ca_commit.proofs.Seats.{some_same}
use Rattle.ca_follow.specs.Has.{AreAll, Has, IsAll}

module _ {X : Type 0} where
  -- all of a kind are held, and each number is in its own
  abbrev pub AreHeld : (ℕ → Option (ℕ → Option X)) → Type 0
  AreHeld m = AreAll m × Placed m

  pub held_same : (m new : ℕ → Option (ℕ → Option X)) → ((i : ℕ) → new i ≡ m i) → AreHeld m → AreHeld new
  held_same m new e h = subst AreHeld (sym (same_map new m e)) h

  pub held_changed : (n : ℕ) (f : Option X → Option X) (m : ℕ → Option (ℕ → Option X)) → AreHeld m → AreHeld (changed_at n f m)
  held_changed n f m h = (there, placed) where
    there : AreAll (changed_at n f m)
    there i lt = by (eqb (home n) i) (m i) (h.0 i lt) where
      by : (b : Bool) (o : Option (ℕ → Option X)) → is_some o ≡ true → is_some (cond b (option_map (λ (g : ℕ → Option X). update eqb g n (f (g n))) o) o) ≡ true
      by false o e = e
      by true None e = e
      by true (Some g) e = refl

    placed : Placed (changed_at n f m)
    placed i k g x is at = by (eqb (home n) i) refl (m i) refl is where
      entry : (z : ℕ → Option X) → m i ≡ Some z → eqb (home n) i ≡ true → (b : Bool) → eqb n k ≡ b → cond b (f (z n)) (z k) ≡ Some x → home k ≡ i
      entry z there e true same v = ap home (sym (eqb-true n k same)) ∙ eqb-true (home n) i e
      entry z there e false same v = h.1 i k z x there v

      by : (b : Bool) → eqb (home n) i ≡ b → (o : Option (ℕ → Option X)) → m i ≡ o → cond b (option_map (λ (z : ℕ → Option X). update eqb z n (f (z n))) o) o ≡ Some g → home k ≡ i
      by false e o there c = h.1 i k g x (there ∙ c) at
      by true e None there c = absurd (let d : None ≡ Some g = c in cc)
      by true e (Some z) there c = entry z there e (eqb n k) refl (ap (λ (y : ℕ → Option X). y k) (some_same (update eqb z n (f (z n))) g c) ∙ at)

  -- what is in the parts after an entry changed was there, or is what it changed to
  pub entry_from : (n : ℕ) (f : Option X → Option X) (m : ℕ → Option (ℕ → Option X)) (k : ℕ) (y : X) → whole (changed_at n f m) k ≡ Some y → (whole m k ≡ Some y) ⊎ (f (whole m n) ≡ Some y)
  entry_from n f m k y e = by (eqb (home n) (home k)) refl (m (home k)) refl e where
    entry : (z : ℕ → Option X) → m (home k) ≡ Some z → eqb (home n) (home k) ≡ true → (b : Bool) → eqb n k ≡ b → cond b (f (z n)) (z k) ≡ Some y → (whole m k ≡ Some y) ⊎ (f (whole m n) ≡ Some y)
    entry z there same false at v = inl (ap (λ (o : Option (ℕ → Option X)). at_key o k) there ∙ v)
    entry z there same true at v = inr (ap (λ (o : Option (ℕ → Option X)). f (at_key o n)) (ap m (eqb-true (home n) (home k) same) ∙ there) ∙ v)

    by : (b : Bool) → eqb (home n) (home k) ≡ b → (o : Option (ℕ → Option X)) → m (home k) ≡ o → at_key (cond b (option_map (λ (z : ℕ → Option X). update eqb z n (f (z n))) o) o) k ≡ Some y → (whole m k ≡ Some y) ⊎ (f (whole m n) ≡ Some y)
    by false same o there v = inl (ap (λ (o : Option (ℕ → Option X)). at_key o k) there ∙ v)
    by true same None there v = absurd (let c : None ≡ Some y = v in cc)
    by true same (Some z) there v = entry z there same (eqb n k) refl v

held_queued : (w k : ℕ) (bs : List BranchView) (m : BankChannels) → AreHeld m → AreHeld (queued_from w k bs m)
held_queued w k [] m h = h
held_queued w k (b ∷ bs) m h = let f : Option Kept → Option Kept = option_map (enqueued (side_of b) (record { wait = w; branch = k; value = brought b })) in
    held_queued w (suc k) bs (changed_at (port_of b) f m) (held_changed (port_of b) f m h)

channels_held_by : (p w : ℕ) (q : Planned) (m : BankChannels) → AreHeld m → AreHeld (channels_by p w q m)
channels_held_by p w (to_do k b alts) m h = held_changed (port_of b) (option_map (done_change b)) m h
channels_held_by p w (to_meet k b alts v o) m h = held_changed (port_of b) (option_map (pruned (other_side (side_of b)) 0)) m h
channels_held_by p w (to_park bs) m h = held_queued w 0 bs m h
channels_held_by p w (to_post bs) m h = held_queued w 0 bs m h
channels_held_by p w (to_make what) m h = held_changed p (or_was (option_map unattended (channel_made what))) m h
channels_held_by p w (to_close q) m h = held_changed q (option_map closed_channel) m h
channels_held_by p w (to_default v) m h = h
channels_held_by p w (to_spawn kind r) m h = h
channels_held_by p w (to_register name args) m h = h
channels_held_by p w (to_print line) m h = h
channels_held_by p w (to_look v) m h = h
channels_held_by p w (to_prune q side place) m h = h
channels_held_by p w (to_refuse f) m h = h

registries_held_by : (p : ℕ) (q : Planned) (m : Members) → AreHeld m → AreHeld (registries_by p q m)
registries_held_by p (to_make what) m h = held_changed p (or_was (registry_made what)) m h
registries_held_by p (to_register name args) m h = held_changed (registry_of args) (option_map (registry_after name (rest_of args))) m h
registries_held_by p (to_do k b alts) m h = h
registries_held_by p (to_meet k b alts w o) m h = h
registries_held_by p (to_park bs) m h = h
registries_held_by p (to_post bs) m h = h
registries_held_by p (to_default v) m h = h
registries_held_by p (to_spawn kind r) m h = h
registries_held_by p (to_close q) m h = h
registries_held_by p (to_print line) m h = h
registries_held_by p (to_look w) m h = h
registries_held_by p (to_prune q side place) m h = h
registries_held_by p (to_refuse f) m h = h

module _ {X : Type 0} (w : ℕ) (x none : Parked X) where
  waits_held_by : (q : Planned) (m : ℕ → Option (ℕ → Option (Parked X))) → AreHeld m → AreHeld (waits_by w x none q m)
  waits_held_by (to_meet k b alts v o) m h = held_changed v (λ z. None) m h
  waits_held_by (to_park bs) m h = held_changed w (λ z. Some x) m h
  waits_held_by (to_post bs) m h = held_changed w (λ z. Some none) m h
  waits_held_by (to_do k b alts) m h = h
  waits_held_by (to_default v) m h = h
  waits_held_by (to_make what) m h = h
  waits_held_by (to_spawn kind r) m h = h
  waits_held_by (to_close p) m h = h
  waits_held_by (to_register name args) m h = h
  waits_held_by (to_print line) m h = h
  waits_held_by (to_look v) m h = h
  waits_held_by (to_prune p side place) m h = h
  waits_held_by (to_refuse f) m h = h

  -- what is so of whoever waits stays so, where it is so of the task and of nobody
  pub waits_keep : (P : Parked X → Type 0) → P x → P none → (q : Planned) (m : ℕ → Option (ℕ → Option (Parked X))) → ((k : ℕ) (y : Parked X) → whole m k ≡ Some y → P y) → (k : ℕ) (y : Parked X) → whole (waits_by w x none q m) k ≡ Some y → P y
  waits_keep P px pn (to_meet c b alts v o) m h k y e = ⊎_elim (h k y) (λ d. absurd (let z : None ≡ Some y = d in cc)) (entry_from v (λ z. None) m k y e)
  waits_keep P px pn (to_park bs) m h k y e = ⊎_elim (h k y) (λ d. subst P (some_same x y d) px) (entry_from w (λ z. Some x) m k y e)
  waits_keep P px pn (to_post bs) m h k y e = ⊎_elim (h k y) (λ d. subst P (some_same none y d) pn) (entry_from w (λ z. Some none) m k y e)
  waits_keep P px pn (to_do c b alts) m h k y e = h k y e
  waits_keep P px pn (to_default v) m h k y e = h k y e
  waits_keep P px pn (to_make what) m h k y e = h k y e
  waits_keep P px pn (to_spawn kind r) m h k y e = h k y e
  waits_keep P px pn (to_close p) m h k y e = h k y e
  waits_keep P px pn (to_register name args) m h k y e = h k y e
  waits_keep P px pn (to_print line) m h k y e = h k y e
  waits_keep P px pn (to_look v) m h k y e = h k y e
  waits_keep P px pn (to_prune p side place) m h k y e = h k y e
  waits_keep P px pn (to_refuse f) m h k y e = h k y e

-- channels that close
pub held_closed : (ports : List ℕ) (m : BankChannels) → AreHeld m → AreHeld (closed_all ports m)
held_closed [] m h = h
held_closed (p ∷ ps) m h = held_closed ps (changed_at p (option_map closed_channel) m) (held_changed p (option_map closed_channel) m h)

pub held_result : (r : Option ℕ) (m : BankChannels) → AreHeld m → AreHeld (closed_result r m)
held_result None m h = h
held_result (Some p) m h = held_changed p (option_map closed_channel) m h

-- all parts are held after the event of a plan
pub all_by : {A : Type 0} (h h2 : Has A) (p w : ℕ) (x none : Parked (TaskAgent A)) (q : Planned) → IsAll h → ((i : ℕ) → h2.bank i ≡ channels_by p w q h.bank i) → ((i : ℕ) → h2.registry i ≡ registries_by p q h.registry i)
    → ((i : ℕ) → h2.shard i ≡ waits_by w x none q h.shard i) → IsAll h2
all_by h h2 p w x none q all bank registry shard =
    let b = held_same (channels_by p w q h.bank) h2.bank bank (channels_held_by p w q h.bank (all.banks, all.bank_placed)) in
    let r = held_same (registries_by p q h.registry) h2.registry registry (registries_held_by p q h.registry (all.registries, all.registry_placed)) in
    let s = held_same (waits_by w x none q h.shard) h2.shard shard (waits_held_by w x none q h.shard (all.shards, all.shard_placed)) in
    record { banks = b.0; registries = r.0; shards = s.0; bank_placed = b.1; registry_placed = r.1; shard_placed = s.1 }
