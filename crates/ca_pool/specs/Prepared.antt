-- A plan's event, for which all is there, and what is carried for it.
use Rattle.std.specs.Prelude.{◌≡◌, ℕ, List, Option, Some, None, is_some}
use Rattle.ca_term.specs.Operation.{SeedView}
use Rattle.ca_term.specs.Program.{ProgramView, program_view}
use Rattle.ca_meaning.specs.Body.{At}
use Rattle.ca_states.specs.Code.{CodeView}
use Rattle.ca_states.specs.declared.valid_code.ValidCode.{ValidCode}
use Rattle.ca_commit.specs.Applying.{HasParts, HasSpawned, IsEvent, IsMade, KeepsApart}
use Rattle.ca_commit.specs.Contents.{Counts, whole}
use Rattle.ca_commit.specs.Planning.{Planned}
use Rattle.ca_commit.specs.Plans.{HasCopies, plan_view}
use Rattle.ca_commit.specs.Running.{Placed}
use Rattle.ca_commit.specs.Showing.{channels_held, registries_held, waits_held}
use Rattle.ca_commit.specs.Tasks.{agent_of}
use Rattle.ca_commit.specs.Waking.{IsPaused}
use Rattle.ca_commit.specs.declared.held.Held.{Held}
use Rattle.ca_commit.specs.declared.planned.Plan.{Plan}
use Rattle.ca_commit.specs.declared.task.Task.{Task}
use Rattle.ca_pool.specs.AtEvent.{HasNumbers}
use Rattle.ca_pool.specs.Desk.{ClockBox}
use Rattle.ca_pool.specs.Leaving.{HasLeft}
use Rattle.ca_pool.specs.OwnPlans.{IsOwnPlanFor}
use Rattle.ca_pool.specs.Preparing.{AskedFor, AreTimersTimely, StartsFor, clock_seen, clock_with}
use Rattle.ca_table.specs.Needing.{needs_ready, needs_timers}
use Rattle.ca_table.specs.declared.part.Lane.{Lane}

-- The task has left its lane, which was settled as l, and the program is that of the lane.
pub record HasGone {A : Type 0} (over : CodeView → A → Type 0) (advances : ProgramView → A → A → Type 0) (program : ProgramView) (code : ValidCode) (l lane : Lane A) (task : Task A) : Type 0 where
  pub left : HasLeft over advances program code l lane task
  pub program_is : program_view l.program.value ≡ program

-- the plan is one of an event, and all that this takes is there
pub record IsReadied {A : Type 0} (place : A → At) (counts : Counts) (w n : ℕ) (held : Held A) (task : Task A) (p : Plan) (spawned : Option (Task A)) : Type 0 where
  pub is_event : IsEvent (plan_view p)
  pub plan_for : IsOwnPlanFor place held (plan_view p) (agent_of task)
  pub copies : HasCopies p
  pub apart : KeepsApart (plan_view p)
  pub placed : Placed (channels_held held.banks)
  pub paused : (v : ℕ) → IsPaused place (whole (waits_held held.shards) v)
  pub has_parts : HasParts held (plan_view p)
  pub numbers : HasNumbers w n counts held
  pub no_channel : whole (channels_held held.banks) held.new_port ≡ None
  pub no_registry : whole (registries_held held.banks) held.new_port ≡ None
  pub made : IsMade place held p
  pub has_spawned : HasSpawned spawned (plan_view p)
  pub readied : is_some held.ready ≡ needs_ready (plan_view p)

-- of the new task, if there is one: its number, and how it starts
pub record IsStarted {A : Type 0} (place : A → At) (starts : ProgramView → SeedView → A → Type 0) (over : CodeView → A → Type 0) (program : ProgramView) (code : CodeView) (u : ℕ) (task : Task A) (spawned : Option (Task A)) : Type 0 where
  pub number : (s : Task A) → spawned ≡ Some s → s.number ≡ u
  pub begins : (s : Task A) → spawned ≡ Some s → StartsFor place starts program task s
  pub within : (s : Task A) → spawned ≡ Some s → over code s.agent

-- the clockwork was settled as the first, and has answered for a timeout; the timers are held
pub record IsClockworkAsked {A C : Type 0} (least faults : C → ℕ) (readings : C → Option (List ℕ)) (q : Planned) (clock0 clock : Option (ClockBox C)) (held : Held A) : Type 0 where
  pub needed : is_some clock0 ≡ needs_timers q
  pub timely : AreTimersTimely (clock_seen least faults readings clock0)
  pub there : is_some clock ≡ is_some clock0
  pub timers : is_some held.timers ≡ is_some clock0
  pub asked : AskedFor held.moment (clock_seen least faults readings clock0) (clock_with least faults readings clock held.timers)
