-- A channel that settles where it lies, and a stale handler that is pruned there, are these events over all that is held.
use Rattle.std.specs.Prelude.{◌≡◌, ℕ, None, Option, Some, false, is_some, slice_get, true}
use Rattle.ca_value.specs.Tree.{Tree}
use Rattle.ca_term.specs.declared.event.Side.{Side}
use Rattle.ca_meaning.specs.Body.{At}
use Rattle.ca_meaning.specs.Wait.{Handler, told}
use Rattle.ca_bank.specs.Bank.{kept_at}
use Rattle.ca_bank.specs.Kept.{pruned, queue_at}
use Rattle.ca_bank.specs.declared.bank.Bank.{Bank}
use Rattle.ca_bank.specs.declared.shard.Shard.{Shard}
use Rattle.ca_commit.specs.Agents.{TaskAgent, place_of, wakes_of}
use Rattle.ca_commit.specs.ChannelMoves.{MovesSettle}
use Rattle.ca_commit.specs.Contents.{Parked, Parts, home}
use Rattle.ca_commit.specs.Deciding.{IsStale}
use Rattle.ca_commit.specs.Finding.{Glance, settle_at}
use Rattle.ca_commit.specs.InPlace.{Sets, Turns}
use Rattle.ca_commit.specs.Moves.{Becomes, Stays}
use Rattle.ca_commit.specs.ServesSeen.{serving_seen}
use Rattle.ca_commit.specs.Settling.{settle_change, value_settled}
use Rattle.ca_commit.specs.Showing.{waits_of}
use Rattle.ca_commit.specs.SilentMoves.{MovesPrune}
use Rattle.ca_commit.specs.Tasks.{tasks_in}
use Rattle.ca_commit.specs.Waking.{WakesBy}
use Rattle.ca_commit.specs.declared.serving.Serves.{Serves}
use Rattle.ca_commit.specs.declared.sight.Partner.{Partner}
use Rattle.ca_commit.specs.declared.task.Ready.{Ready}
use Rattle.ca_commit.specs.declared.task.Task.{Task}

-- the bank shows that its channel p serves q, in front of the side, if q's wait lives
abbrev pub ServesIn : Bank → ℕ → Side → Partner → Type 0
ServesIn bank p side q = (see : ℕ → Glance) → serving_seen (Serves.Front side q) see ≡ settle_at see (kept_at bank p)

-- it lives, and is served
abbrev pub SettleApplies : {A : Type 0} → (A → At) → (A → Tree → A → Type 0) → Type 0
SettleApplies {A} place gives = (old new : Parts (TaskAgent A)) (w p : ℕ) (side : Side) (q : Partner) (bank bank2 : Bank) (shard shard2 : Shard (Task A)) (ready ready2 : Ready A)
    → ServesIn bank p side q → is_some (waits_of shard q.wait.n) ≡ true
    → Becomes old.bank new.bank (home p) (kept_at bank) (kept_at bank2)
    → Becomes old.shard new.shard (home q.wait.n) (waits_of shard) (waits_of shard2)
    → Becomes old.ready new.ready w (tasks_in ready) (tasks_in ready2)
    → Turns p (settle_change side (value_settled side (kept_at bank p))) bank bank2 → Sets q.wait.n None shard shard2
    → WakesBy place gives (waits_of shard q.wait.n) p (told side (value_settled side (kept_at bank p))) (Some (tasks_in ready)) (Some (tasks_in ready2))
    → Stays old.lane new.lane → Stays old.registry new.registry → new.timers ≡ old.timers
    → MovesSettle (place_of place) (wakes_of gives) w q.wait.n q.branch side p (value_settled side (kept_at bank p)) old new

-- it is gone, and so its handler is stale
abbrev pub StaleServed : Type 0 → Type 0
StaleServed A = (old : Parts A) (p : ℕ) (side : Side) (q : Partner) (bank : Bank) (from : ℕ → Option (Parked A)) → ServesIn bank p side q
    → old.bank (home p) ≡ Some (kept_at bank) → old.shard (home q.wait.n) ≡ Some from → is_some (from q.wait.n) ≡ false → IsStale old p side 0

-- a stale handler in front leaves its queue, and its wait was answered
abbrev pub PruneApplies : Type 0 → Type 0
PruneApplies A = (old new : Parts A) (p wait : ℕ) (side : Side) (bank bank2 : Bank) → IsStale old p side 0
    → ((h : Handler) → slice_get (queue_at side (kept_at bank p)) 0 ≡ Some h → wait ≡ h.wait)
    → Becomes old.bank new.bank (home p) (kept_at bank) (kept_at bank2) → Turns p (pruned side 0) bank bank2
    → Stays old.registry new.registry → Stays old.shard new.shard → Stays old.lane new.lane → Stays old.ready new.ready → new.timers ≡ old.timers
    → MovesPrune side p wait old new
