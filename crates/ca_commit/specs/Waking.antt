-- What a wait that is completed does.
use Rattle.std.specs.Prelude.{◌≡◌, ℕ, ◌<◌, List, [], ◌∷◌, ◌++◌, Option, Some, None, option_map, Bool, true}
use Rattle.ca_value.specs.Tree.{Tree, nil}
use Rattle.ca_value.specs.View.{view}
use Rattle.ca_value.specs.declared.value.Value.{Value}
use Rattle.ca_term.specs.declared.event.Side.TheVariants.{Put}
use Rattle.ca_term.specs.Event.{BranchView, put_of, take_of}
use Rattle.ca_meaning.specs.Body.{At}
use Rattle.ca_meaning.specs.BodyViews.{is_at_op}
use Rattle.ca_meaning.specs.Task.{reply_at}
use Rattle.ca_meaning.specs.ChannelSteps.{other_side}
use Rattle.ca_meaning.specs.Wait.{Handler, port_of, side_of, told}
use Rattle.ca_bank.specs.Shard.{shard_spare}
use Rattle.ca_commit.specs.Agents.{TaskAgent}
use Rattle.ca_commit.specs.Contents.{Kept, Parked, home, nobody, owner, whole}
use Rattle.ca_commit.specs.Finding.{front_at}
use Rattle.ca_commit.specs.Listing.{listed}
use Rattle.ca_commit.specs.Listings.{parts}
use Rattle.ca_commit.specs.Numbers.{number_of_shard}
use Rattle.ca_commit.specs.Replies.{reply_by}
use Rattle.ca_commit.specs.Showing.{channels_held, waits_held}
use Rattle.ca_commit.specs.Tasks.{ready_spare, tasks_in}
use Rattle.ca_commit.specs.declared.held.Held.{Held}
use Rattle.ca_commit.specs.declared.held.HeldShard.{HeldShard}
use Rattle.ca_commit.specs.declared.listing.Listing.{Listing}
use Rattle.ca_commit.specs.declared.task.Ready.{Ready}

-- the tasks of the ready part, if it is held
abbrev pub ready_in : {A : Type 0} → Option (Ready A) → Option (List (ℕ × TaskAgent A))
ready_in r = option_map tasks_in r

-- the ready part is held, and has room for one more task
abbrev pub HasReadyRoom : {A : Type 0} → Option (Ready A) → Type 0
HasReadyRoom None = ⊥
HasReadyRoom (Some r) = 0 < ready_spare r

-- the shard of a wait is held, and has room for one more
abbrev pub HasShardRoom : {A : Type 0} → Listing (HeldShard A) → ℕ → Type 0
HasShardRoom {A} s w = (x : HeldShard A) × (listed number_of_shard (parts s) (home w) ≡ Some x) × (0 < shard_spare x.shard.value)

-- whoever waits is paused at an operation
abbrev pub IsPaused : {A : Type 0} → (A → At) → Option (Parked (TaskAgent A)) → Type 0
IsPaused place None = Unit {0}
IsPaused place (Some nobody) = Unit {0}
IsPaused place (Some (owner u a)) = is_at_op (place a.agent) ≡ true

-- a task waits
abbrev pub IsOwned : {A : Type 0} → Option (Parked (TaskAgent A)) → Type 0
IsOwned None = ⊥
IsOwned (Some nobody) = ⊥
IsOwned (Some (owner u a)) = Unit {0}

-- whoever waited goes on with the answer, last in the ready part
abbrev pub Woke : {A : Type 0} → (A → Tree → A → Type 0) → Option (Parked (TaskAgent A)) → Option Value → Option (List (ℕ × TaskAgent A)) → Option (List (ℕ × TaskAgent A)) → Type 0
Woke gives None v old new = new ≡ old
Woke gives (Some nobody) v old new = new ≡ old
Woke gives (Some (owner u a)) None v new = ⊥
Woke {A} gives (Some (owner u a)) (Some v) old new = (c : TaskAgent A) × (c.result ≡ a.result) × (c.alts ≡ a.alts) × gives a.agent (view v) c.agent × (new ≡ option_map (λ q. q ++ (u, c) ∷ []) old)

-- the answer that was made for whoever waits, where v passes on channel p
abbrev pub IsMadeForWaiter : {A : Type 0} → (A → At) → Option (Parked (TaskAgent A)) → ℕ → Tree → Option Value → Type 0
IsMadeForWaiter place None p v made = Unit {0}
IsMadeForWaiter place (Some nobody) p v made = Unit {0}
IsMadeForWaiter place (Some (owner u a)) p v made = option_map view made ≡ Some (reply_at (place a.agent) p v)

abbrev pub handler_value : Option Handler → Tree
handler_value None = nil
handler_value (Some h) = h.value

-- the value that passes where the branch meets a wait
abbrev pub passing : Option Kept → BranchView → Tree
passing o (take_of p) = handler_value (front_at Put o)
passing o (put_of p v) = v

-- whoever waited goes on with v, which passed on channel p, last in the ready part
abbrev pub WakesBy : {A : Type 0} → (A → At) → (A → Tree → A → Type 0) → Option (Parked (TaskAgent A)) → ℕ → Tree → Option (List (ℕ × TaskAgent A)) → Option (List (ℕ × TaskAgent A)) → Type 0
WakesBy place gives None p v old new = new ≡ old
WakesBy place gives (Some nobody) p v old new = new ≡ old
WakesBy {A} place gives (Some (owner u a)) p v old new = (c : TaskAgent A) × (c.result ≡ a.result) × (c.alts ≡ a.alts) × gives a.agent (reply_at (place a.agent) p v) c.agent × (new ≡ option_map (λ q. q ++ (u, c) ∷ []) old)

module _ {A : Type 0} (place : A → At) where
  -- what a branch needs that meets wait w: the value that passes, the answers of both tasks, and room in the ready part
  abbrev pub IsMadeForMeeting : Held A → Bool → ℕ → BranchView → Type 0
  IsMadeForMeeting h alts w b =
      (option_map view h.spare.value ≡ Some (passing (whole (channels_held h.banks) (port_of b)) b))
      × (option_map view h.spare.answer ≡ Some (reply_by alts (port_of b) (told (side_of b) (passing (whole (channels_held h.banks) (port_of b)) b))))
      × IsMadeForWaiter place (whole (waits_held h.shards) w) (port_of b) (told (other_side (side_of b)) (passing (whole (channels_held h.banks) (port_of b)) b)) h.spare.partner
      × HasReadyRoom h.ready

-- the timers and the numbers stay
abbrev pub KeepsNumbers : {A : Type 0} → Held A → Held A → Type 0
KeepsNumbers old new = (new.timers ≡ old.timers) × (new.new_task ≡ old.new_task) × (new.new_port ≡ old.new_port) × (new.new_wait ≡ old.new_wait) × (new.moment ≡ old.moment)
