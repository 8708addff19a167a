-- A worker in a call, between two events.
use Rattle.std.specs.Prelude.{◌≡◌, ℕ, ◌-◌, List, [], ◌++◌, Bool, false, true, Err}
use Rattle.ca_term.specs.Program.{ProgramView, program_view}
use Rattle.ca_meaning.specs.Cost.{cost}
use Rattle.ca_meaning.specs.Task.{TaskBody}
use Rattle.ca_states.specs.Code.{CodeView}
use Rattle.ca_states.specs.ValidCode.{valid_code}
use Rattle.ca_states.specs.declared.valid_code.ValidCode.{ValidCode}
use Rattle.ca_lower.specs.Gos.{SameGos}
use Rattle.ca_lower.specs.Lowered.{Lowered}
use Rattle.ca_turns.specs.Hands.{TableId}
use Rattle.ca_turns.specs.declared.rule.Turn.{Turn}
use Rattle.ca_table.specs.Carriers.{IsCarrying, just_lane}
use Rattle.ca_table.specs.Grips.{SameHand}
use Rattle.ca_table.specs.Running.{shown_by}
use Rattle.ca_table.specs.Seen.{PartSeen}
use Rattle.ca_table.specs.Worked.{AnswersFor, Sparing, finds_end, gives_up, some_turn}
use Rattle.ca_table.specs.Workers.{IsReady, IsSeated, SameWorker}
use Rattle.ca_table.specs.declared.answer.PoolStop.{PoolStop}
use Rattle.ca_table.specs.declared.answer.PoolStop.TheVariants.{ClockFailed, OutOfMemory}
use Rattle.ca_table.specs.declared.drawn.Drawn.{Drawn}
use Rattle.ca_table.specs.declared.part.Lane.{Lane}
use Rattle.ca_table.specs.declared.worker.Worker.{Worker}
use Rattle.ca_pool.specs.Leaving.{TaskOver}

module _ {A C : Type 0} (over : CodeView → A → Type 0) (stands_as : ProgramView → A → TaskBody → Type 0) (code : ValidCode) (id : TableId) where
  -- it holds its lane, whose task is over the code that the program was lowered to
  pub record IsAtWork (w : Worker A C) (lane : Lane A) : Type 0 where
    pub seated : IsSeated over stands_as (program_view w.program.value) code id w.workers w lane
    pub task_over : TaskOver over code lane
    pub lowered : Lowered (program_view w.program.value) (valid_code code)
    pub gos : SameGos (program_view w.program.value) (valid_code code)

  -- an event was given up: the lane that it moved is gone, and the worker carries what was settled of it
  pub record HasLost (w : Worker A C) : Type 0 where
    pub lane : Lane A
    pub carries : IsCarrying over stands_as (program_view w.program.value) code id w.workers w (just_lane w.workers code lane)

  -- what the call leaves that is given up
  abbrev pub IsGivenUp : PoolStop → Worker A C → Type 0
  IsGivenUp ClockFailed w = IsReady over stands_as (program_view w.program.value) (valid_code code) id w.workers w
  IsGivenUp OutOfMemory w = HasLost w

module _ {A C : Type 0} where
  -- What a call drew so far, since so much was left of the allowance, with this much left of it now; where that is said,
  -- the run's end was found.
  pub record HasSpent (start left : ℕ) (found : Bool) (old new : Worker A C) : Type 0 where
    pub same : SameWorker old new
    pub hand : SameHand old.hand new.hand
    pub more : List (Turn (PartSeen A) Drawn)
    pub turns : new.hand.view.turns ≡ old.hand.view.turns ++ more
    pub going : some_turn gives_up more ≡ false
    pub finds : found ≡ true → finds_end more ≡ true
    pub within : Sparing start (shown_by more)
    pub left_is : left ≡ start - cost (shown_by more)

  -- it drew nothing that the journal shows, and the call is given up so
  pub record GaveUp (stop : PoolStop) (old new : Worker A C) : Type 0 where
    pub same : SameWorker old new
    pub hand : SameHand old.hand new.hand
    pub more : List (Turn (PartSeen A) Drawn)
    pub turns : new.hand.view.turns ≡ old.hand.view.turns ++ more
    pub hidden : shown_by more ≡ []
    pub why : AnswersFor 0 (Err stop) more
