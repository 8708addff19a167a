-- How the calls of all workers ended, and what a call did to a worker that keeps its answer.
use Rattle.std.specs.Prelude.{◌≡◌, ℕ, ◌<◌, List, [], ◌∷◌, length, Result, Ok, Err, OnOk, slice_index_or}
use Rattle.ca_value.specs.Tree.{Tree}
use Rattle.ca_term.specs.Operation.{SeedView}
use Rattle.ca_term.specs.Program.{ProgramView}
use Rattle.ca_meaning.specs.Body.{At}
use Rattle.ca_meaning.specs.Task.{TaskBody}
use Rattle.ca_states.specs.Code.{CodeView}
use Rattle.ca_states.specs.ValidCode.{valid_code}
use Rattle.ca_states.specs.declared.valid_code.ValidCode.{ValidCode}
use Rattle.ca_turns.specs.Hands.{IsHolding, TableId}
use Rattle.ca_table.specs.Seen.{PartSeen}
use Rattle.ca_table.specs.Worked.{HasWorked}
use Rattle.ca_table.specs.Workers.{IsOpenedWith, IsReady}
use Rattle.ca_table.specs.declared.worker.Worker.{Worker}
use Rattle.ca_table.specs.declared.answer.PoolStop.{PoolStop}
use Rattle.ca_table.specs.declared.answer.PoolStop.TheVariants.{ClockFailed, OutOfMemory}
use Rattle.ca_table.specs.declared.answer.WorkEnd.{WorkEnd}
use Rattle.ca_table.specs.declared.answer.WorkEnd.TheVariants.{Over, Spent}
use Rattle.ca_pool.specs.Lone.{IsLone, LoneStopped}

abbrev pub WorkAnswer : Type 0
WorkAnswer = Result WorkEnd PoolStop

-- want of memory comes before a clock that failed, and that before an end
abbrev pub answers_joined : WorkAnswer → WorkAnswer → WorkAnswer
answers_joined (Err OutOfMemory) other = Err OutOfMemory
answers_joined (Err ClockFailed) (Err OutOfMemory) = Err OutOfMemory
answers_joined (Err ClockFailed) (Err ClockFailed) = Err ClockFailed
answers_joined (Err ClockFailed) (Ok e) = Err ClockFailed
answers_joined (Ok e) (Err stop) = Err stop
answers_joined (Ok e) (Ok Spent) = Ok e
answers_joined (Ok e) (Ok Over) = Ok Over

module _ {A C : Type 0} where
  -- with the answers of these workers
  abbrev pub joined_from : WorkAnswer → List (Worker A C) → WorkAnswer
  joined_from answer [] = answer
  joined_from answer (w ∷ ws) = joined_from (answers_joined answer w.answer) ws

  -- it holds no part but its lane, if that
  abbrev pub HoldsLaneAtMost : Worker A C → Type 0
  HoldsLaneAtMost w = (i : ℕ) → IsHolding w.hand i → i ≡ w.number

  -- what a call of `work` with that allowance did to each worker, by the answer that it keeps
  abbrev pub EachWorked : ℕ → List (Worker A C) → List (Worker A C) → Type 0
  EachWorked allowance old new = (k : ℕ) (d : Worker A C) → k < length old → HasWorked allowance (slice_index_or new k d).answer (slice_index_or old k d) (slice_index_or new k d)

module _ {A C : Type 0} (over : CodeView → A → Type 0) (stands_as : ProgramView → A → TaskBody → Type 0) (program : ProgramView) (code : CodeView) (id : TableId) (n allowance : ℕ) where
  -- what a call of `work` did to the worker, by the answer that it keeps
  pub record IsWorked (old new : Worker A C) : Type 0 where
    pub ready : OnOk new.answer (IsReady over stands_as program code id n new)
    pub failed : new.answer ≡ Err ClockFailed → IsReady over stands_as program code id n new
    pub kept : new.answer ≡ Err OutOfMemory → HoldsLaneAtMost new
    pub worked : HasWorked allowance new.answer old new

  -- each of them has worked
  abbrev pub WorkedAt : List (Worker A C) → List (Worker A C) → Type 0
  WorkedAt old new = (k : ℕ) (d : Worker A C) → k < length old → IsWorked (slice_index_or old k d) (slice_index_or new k d)

-- the only worker of a run over these opening parts, before its first call
pub record BeginsAlone {A C : Type 0} (opening : List (PartSeen A)) (w : Worker A C) : Type 0 where
  pub lone : IsLone w
  pub fresh : w.hand.view.turns ≡ []
  pub opened : IsOpenedWith opening w

module _ {A C : Type 0} (over : CodeView → A → Type 0) (place : A → At) (stands_as : ProgramView → A → TaskBody → Type 0) (advances : ProgramView → A → A → Type 0) (gives : A → Tree → A → Type 0) (starts : ProgramView → SeedView → A → Type 0) (code : ValidCode) (allowance : ℕ) where
  -- and after it, where it stopped by the schedule
  pub record StopsAlone (opening : List (PartSeen A)) (w : Worker A C) : Type 0 where
    pub stopped : LoneStopped over place stands_as advances gives starts code allowance w
    pub opened : IsOpenedWith opening w

  -- what its call did, by the answer that it keeps
  abbrev pub WorkedAlone : Worker A C → Worker A C → Type 0
  WorkedAlone old new = OnOk new.answer ((opening : List (PartSeen A)) → 0 < allowance → BeginsAlone opening old → StopsAlone opening new)

  -- of each of them
  abbrev pub WorkedAloneAt : List (Worker A C) → List (Worker A C) → Type 0
  WorkedAloneAt old new = (k : ℕ) (d : Worker A C) → k < length old → WorkedAlone (slice_index_or old k d) (slice_index_or new k d)

  module _ (program : ProgramView) (id : TableId) (n : ℕ) where
    -- what a call did to a worker that keeps its answer, and to the only worker
    pub record HasCalled (old new : Worker A C) : Type 0 where
      pub worked : IsWorked over stands_as program (valid_code code) id n allowance old new
      pub alone : WorkedAlone old new

    abbrev pub CalledAt : List (Worker A C) → List (Worker A C) → Type 0
    CalledAt old new = (k : ℕ) (d : Worker A C) → k < length old → HasCalled (slice_index_or old k d) (slice_index_or new k d)
