-- What a new wait does to held parts, and the room that it needs.
use Rattle.std.specs.Prelude.{◌≡◌, ℕ, suc, ◌≤◌, List, [], ◌∷◌, length, Option, option_map, is_some, true}
use Rattle.ca_value.specs.Tree.{Tree, nil}
use Rattle.ca_term.specs.declared.event.Side.{Side}
use Rattle.ca_term.specs.Event.{BranchView}
use Rattle.ca_meaning.specs.Body.{At}
use Rattle.ca_meaning.specs.Wait.{brought, port_of, side_of}
use Rattle.ca_bank.specs.Kept.{Spares, enqueued, queue_spare}
use Rattle.ca_commit.specs.Agents.{TaskAgent}
use Rattle.ca_commit.specs.Contents.{Kept, whole}
use Rattle.ca_commit.specs.Listing.{changed_at}
use Rattle.ca_commit.specs.Replies.{counted_alts}
use Rattle.ca_commit.specs.Showing.{channels_held, spares_held}
use Rattle.ca_commit.specs.Standing.{is_alts_at}
use Rattle.ca_commit.specs.Waking.{HasShardRoom}
use Rattle.ca_commit.specs.declared.held.Held.{Held}

-- the handlers of wait w stand last in their queues, branch by branch, from number k on
abbrev pub queued_from : ℕ → ℕ → List BranchView → (ℕ → Option (ℕ → Option Kept)) → ℕ → Option (ℕ → Option Kept)
queued_from w k [] m = m
queued_from w k (b ∷ bs) m = queued_from w (suc k) bs (changed_at (port_of b) (option_map (enqueued (side_of b) (record { wait = w; branch = k; value = brought b }))) m)

-- each branch is of a channel that is there
abbrev pub AreChannels : (ℕ → Option Kept) → List BranchView → Type 0
AreChannels ports [] = Unit {0}
AreChannels ports (b ∷ bs) = (is_some (ports (port_of b)) ≡ true) × AreChannels ports bs

-- the queue of each branch, where its channel is there, has room for n more handlers
abbrev pub QueuesTake : ℕ → (ℕ → Option Kept) → (ℕ → Option Spares) → List BranchView → Type 0
QueuesTake n ports spares [] = Unit {0}
QueuesTake n ports spares (b ∷ bs) = (is_some (ports (port_of b)) ≡ true → n ≤ queue_spare (side_of b) (spares (port_of b))) × QueuesTake n ports spares bs

-- no queue has less room
abbrev pub Grown : (ℕ → Option Spares) → (ℕ → Option Spares) → Type 0
Grown old new = (side : Side) (p : ℕ) → queue_spare side (old p) ≤ queue_spare side (new p)

-- the branch in front, of a list that has one
abbrev pub front_port : List BranchView → ℕ
front_port [] = 0
front_port (b ∷ bs) = port_of b

abbrev pub front_value : List BranchView → Tree
front_value [] = nil
front_value (b ∷ bs) = brought b

-- the task as it waits: an alts is counted
abbrev pub waiting_as : {A : Type 0} → (A → At) → TaskAgent A → TaskAgent A
waiting_as place a = record { result = a.result; alts = counted_alts (is_alts_at (place a.agent)) a.alts; agent = a.agent }

-- what a new wait of these branches needs: room in their queues and in its shard
abbrev pub IsMadeToWait : {A : Type 0} → Held A → List BranchView → Type 0
IsMadeToWait h bs = QueuesTake (length bs) (whole (channels_held h.banks)) (whole (spares_held h.banks)) bs × HasShardRoom h.shards h.new_wait
