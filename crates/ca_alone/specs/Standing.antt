-- When the contents of a lone worker's parts stand for a position of the schedule.
use Rattle.std.specs.Prelude.{◌≡◌, ℕ, ◌<◌, List, [], Option, Some, None, option_to_list}
use Rattle.ca_term.specs.Event.{EventView, made, spawned, done, met, parked, posted, settled, defaulted, closed, registered, printed, ticked, over}
use Rattle.ca_term.specs.Program.{ProgramView}
use Rattle.ca_meaning.specs.Body.{At}
use Rattle.ca_meaning.specs.Task.{TaskBody}
use Rattle.ca_meaning.specs.State.{State}
use Rattle.ca_meaning.specs.Sound.{Sound}
use Rattle.ca_meaning.specs.Solo.{Lane, Desk, Chooses, patience}
use Rattle.ca_commit.specs.Agents.{TaskAgent}
use Rattle.ca_commit.specs.Contents.{Content}
use Rattle.ca_commit.specs.Gathered.{parts_of}
use Rattle.ca_commit.specs.Running.{RunStands}
use Rattle.ca_solo.specs.Positions.{Position}
use Rattle.ca_solo.specs.Seats.{Uncounted}
use Rattle.ca_alone.specs.Reading.{DeskReads}

-- The contents stand for its state, its desk is read off them, and no answer of the clock is left.
pub record IsPosition {A : Type 0} (place : A → At) (stands : ProgramView → A → TaskBody → Type 0) (program : ProgramView) (now : ℕ → Option (Content (TaskAgent A))) (w : Position) : Type 0 where
  pub run : RunStands place stands program 1 now w.state
  pub sound : Sound w.state
  pub reads : DeskReads (parts_of 1 now) w.desk
  pub uncounted : Uncounted w
  pub used : w.desk.readings ≡ []

-- a task is in the lane and may make an event
abbrev pub IsOn : Option Lane → Type 0
IsOn None = ⊥
IsOn (Some lane) = lane.events < patience

-- the answers of the clock that an event of a task took
abbrev pub clock_answers : EventView → List ℕ
clock_answers (made t p what moment) = option_to_list moment
clock_answers (spawned t u kind result) = []
clock_answers (done t k b v) = []
clock_answers (met t k side p v w o) = []
clock_answers (parked t w bs) = []
clock_answers (posted t w p v) = []
clock_answers (settled w k side p v) = []
clock_answers (defaulted t v) = []
clock_answers (closed t p) = []
clock_answers (registered t name args v) = []
clock_answers (printed t line) = []
clock_answers (ticked m ports) = []
clock_answers (over t how) = []

-- without priority the branch that the event took is the first ready one, from the number of earlier alts on
abbrev pub ChoosesWell : State → Desk → EventView → Type 0
ChoosesWell s d (done t k b v) = Chooses s d t k
ChoosesWell s d (met t k side p v w o) = Chooses s d t k
ChoosesWell s d other = Unit {0}
