-- What a worker carries between two events, and at one.
use Rattle.std.specs.Prelude.{◌≡◌, ℕ, Option}
use Rattle.ca_term.specs.Program.{ProgramView}
use Rattle.ca_meaning.specs.Task.{TaskBody}
use Rattle.ca_states.specs.Code.{CodeView}
use Rattle.ca_states.specs.declared.valid_code.ValidCode.{ValidCode}
use Rattle.ca_turns.specs.Hands.{TableId}
use Rattle.ca_commit.specs.Contents.{Counts}
use Rattle.ca_commit.specs.PlanMoves.{next_port, next_task, next_wait}
use Rattle.ca_commit.specs.declared.held.Held.{Held}
use Rattle.ca_pool.specs.Desk.{ClockBox, desk_taken}
use Rattle.ca_table.specs.Carriers.{IsCarrying, just_lane}
use Rattle.ca_table.specs.Seen.{PartSeen}
use Rattle.ca_table.specs.declared.part.Lane.{Lane}
use Rattle.ca_table.specs.declared.part.Part.{Part}
use Rattle.ca_table.specs.declared.worker.Worker.{Worker}

module _ {A C : Type 0} (over : CodeView → A → Type 0) (stands_as : ProgramView → A → TaskBody → Type 0) (code : ValidCode) (id : TableId) (program : ProgramView) (n : ℕ) (l : Lane A) where
  -- its lane alone, which was settled as l
  abbrev pub HasLane : Worker A C → Type 0
  HasLane w = IsCarrying over stands_as program code id n w (just_lane n code l)

  -- the clockwork too, if that is there, and what is held, as all of it was settled
  abbrev pub HasTaken : (Part A C → PartSeen A) → Option (ClockBox C) → Held A → Worker A C → Type 0
  HasTaken seen clock held w = IsCarrying over stands_as program code id n w (desk_taken seen n code w.number l clock held)

-- the numbers that worker w of n gives next
pub record HasNumbers {A : Type 0} (w n : ℕ) (counts : Counts) (held : Held A) : Type 0 where
  pub task : held.new_task ≡ next_task w n counts
  pub port : held.new_port ≡ next_port w n counts
  pub wait : held.new_wait ≡ next_wait w n counts

-- the numbers that an event may give stay
pub record SameNext {A : Type 0} (old new : Held A) : Type 0 where
  pub task : new.new_task ≡ old.new_task
  pub port : new.new_port ≡ old.new_port
  pub wait : new.new_wait ≡ old.new_wait
