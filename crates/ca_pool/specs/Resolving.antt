-- What is held for an operation, and what it became.
use Rattle.std.specs.Prelude.{◌≡◌, ℕ, ◌<◌, Some, None, Bool, true, option_map}
use Rattle.ca_term.specs.declared.fault.Fault.{Fault}
use Rattle.ca_term.specs.Event.{port_number}
use Rattle.ca_term.specs.Operation.{WantView}
use Rattle.ca_term.specs.Program.{ProgramView}
use Rattle.ca_meaning.specs.Body.{At, at_op}
use Rattle.ca_meaning.specs.State.{State}
use Rattle.ca_meaning.specs.Task.{TaskBody}
use Rattle.ca_meaning.specs.Wait.{is_among}
use Rattle.ca_commit.specs.Contents.{home, whole}
use Rattle.ca_commit.specs.Planning.{Planned, to_look, to_park, to_post, to_prune, to_refuse}
use Rattle.ca_commit.specs.Plans.{HasCopies, plan_view}
use Rattle.ca_commit.specs.Registering.{AreApart}
use Rattle.ca_commit.specs.Running.{Placed}
use Rattle.ca_commit.specs.Showing.{channels_held, waits_held}
use Rattle.ca_commit.specs.Tasks.{agent_of}
use Rattle.ca_commit.specs.Waking.{IsPaused}
use Rattle.ca_commit.specs.declared.held.Held.{Held}
use Rattle.ca_commit.specs.declared.planned.Plan.{Plan}
use Rattle.ca_commit.specs.declared.task.Task.{Task}
use Rattle.ca_states.specs.Code.{CodeView}
use Rattle.ca_states.specs.declared.valid_code.ValidCode.{ValidCode}
use Rattle.ca_turns.specs.Hands.{TableId}
use Rattle.ca_pool.specs.AtEvent.{HasLane, HasTaken}
use Rattle.ca_pool.specs.Desk.{IsBare, holds_banks, holds_shards}
use Rattle.ca_pool.specs.Named.{ports_to_hold}
use Rattle.ca_pool.specs.OwnPlans.{IsOwnPlanFor}
use Rattle.ca_table.specs.DrawnEvents.{HasBanks}
use Rattle.ca_table.specs.Homes.{has_home}
use Rattle.ca_table.specs.Seen.{PartSeen}
use Rattle.ca_table.specs.declared.homes.Homes.{Homes}
use Rattle.ca_table.specs.declared.part.Lane.{Lane}
use Rattle.ca_table.specs.declared.part.Part.{Part}
use Rattle.ca_table.specs.declared.worker.Worker.{Worker}

module _ {A : Type 0} (place : A → At) where
  -- banks and shards of a run are held, and nothing else
  pub record IsHeld (held : Held A) : Type 0 where
    pub placed : Placed (channels_held held.banks)
    pub paused : (w : ℕ) → IsPaused place (whole (waits_held held.shards) w)
    pub ready : held.ready ≡ None
    pub timers : held.timers ≡ None

  -- the names that the operation brings, at which the task is paused, are apart
  abbrev pub TaskBringsApart : Task A → Type 0
  TaskBringsApart task = (want : WantView) → place task.agent ≡ at_op want → (s : State) → AreApart s want.op

  -- the banks of the ports that the operation needs are held, among others
  abbrev pub HoldsNeededBanks : Held A → Task A → Type 0
  HoldsNeededBanks held task = (want : WantView) → place task.agent ≡ at_op want → HasBanks held (λ p. is_among p (ports_to_hold want.op held.new_port) ≡ true)

-- these banks and shards are held, and no others
pub record HoldsThese {A : Type 0} (bs ss : Homes) (held : Held A) : Type 0 where
  pub banks : (i : ℕ) → i < 16 → holds_banks held i ≡ has_home bs i
  pub shards : (i : ℕ) → i < 16 → holds_shards held i ≡ has_home ss i

-- among these banks are those of the ports that the task's operation needs, where p is the number of a new one
abbrev pub Wants : {A : Type 0} → (A → At) → Homes → (p : ℕ) → Task A → Type 0
Wants place banks p task = (want : WantView) → place task.agent ≡ at_op want → (q : ℕ) → is_among q (ports_to_hold want.op p) ≡ true → has_home banks (home q) ≡ true

-- What a call comes to that holds parts, where from says what the worker carried before it: these are held, and nothing
-- else but the lane.
pub record Took {A C : Type 0} (over : CodeView → A → Type 0) (stands_as : ProgramView → A → TaskBody → Type 0) (place : A → At) (seen : Part A C → PartSeen A) (code : ValidCode) (id : TableId) (from : ProgramView → ℕ → Lane A → Type 0) (banks shards : Homes) (held : Held A) (w : Worker A C) : Type 0 where
  pub holds : IsHeld place held
  pub these : HoldsThese banks shards held
  pub carries : (program : ProgramView) (n : ℕ) (l : Lane A) → from program n l → HasTaken over stands_as code id program n l seen None held w

-- or nothing is held but the lane
pub record LeftOff {A C : Type 0} (over : CodeView → A → Type 0) (stands_as : ProgramView → A → TaskBody → Type 0) (code : ValidCode) (id : TableId) (from : ProgramView → ℕ → Lane A → Type 0) (held : Held A) (w : Worker A C) : Type 0 where
  pub bare : IsBare held
  pub carries : (program : ProgramView) (n : ℕ) (l : Lane A) → from program n l → HasLane over stands_as code id program n l w

-- the plan hangs on no part that isn't held; v is the number of a new wait
abbrev pub IsSeen : (ℕ → Bool) → (v : ℕ) → Planned → Type 0
IsSeen shards v (to_look w) = ⊥
IsSeen shards v (to_park bs) = shards (home v) ≡ true
IsSeen shards v (to_post bs) = shards (home v) ≡ true
IsSeen shards v other = Unit {0}

-- it is an event or a refusal
abbrev pub IsEventOrRefusal : Planned → Type 0
IsEventOrRefusal (to_look w) = ⊥
IsEventOrRefusal (to_prune p side place) = ⊥
IsEventOrRefusal other = Unit {0}

module _ {A : Type 0} (place : A → At) where
  -- the plan of the task's operation, with all the banks and shards that are needed for it
  pub record IsResolved (held : Held A) (task : Task A) (p : Plan) : Type 0 where
    pub plan_for : IsOwnPlanFor place held (plan_view p) (agent_of task)
    pub copies : HasCopies p
    pub decided : IsEventOrRefusal (plan_view p)
    pub seen : IsSeen (holds_shards held) held.new_wait (plan_view p)
    pub named : HoldsNeededBanks place held task
    pub result : (f : Fault) → plan_view p ≡ to_refuse f → HasBanks held (λ q. option_map port_number task.result ≡ Some q)
