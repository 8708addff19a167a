-- Where a lone worker's turns have come to in the schedule: at a position of some kind, or to where the worker stops.
use Rattle.std.specs.Prelude.{◌≡◌, ◌⊎◌, ℕ, ◌≤◌, List, [], Option, Some, None, false}
use Rattle.ca_value.specs.Tree.{Tree}
use Rattle.ca_term.specs.Operation.{SeedView}
use Rattle.ca_term.specs.Program.{ProgramView}
use Rattle.ca_meaning.specs.Body.{At}
use Rattle.ca_meaning.specs.Ends.{IsWithin}
use Rattle.ca_meaning.specs.Legal.{EndsLast}
use Rattle.ca_meaning.specs.Solo.{Lane, Solo, patience}
use Rattle.ca_meaning.specs.State.{State}
use Rattle.ca_meaning.specs.Task.{TaskBody}
use Rattle.ca_states.specs.Code.{CodeView}
use Rattle.ca_turns.specs.History.{Run}
use Rattle.ca_turns.specs.declared.rule.View.{View}
use Rattle.ca_commit.specs.Contents.{TimersPart}
use Rattle.ca_commit.specs.Gathered.{parts_of}
use Rattle.ca_table.specs.Draws.{drawn_moves, drawn_touches}
use Rattle.ca_table.specs.LoneHands.{left_now}
use Rattle.ca_table.specs.OneCode.{HaveCode, stands_over}
use Rattle.ca_table.specs.Running.{TableStands, contents_at, shown_by}
use Rattle.ca_table.specs.Seen.{PartSeen}
use Rattle.ca_table.specs.Worked.{ends_main, some_turn}
use Rattle.ca_table.specs.declared.drawn.Drawn.{Drawn}
use Rattle.ca_solo.specs.Positions.{Position, free, in_time, picked, settling}
use Rattle.ca_alone.specs.Answers.{HasGiven}
use Rattle.ca_alone.specs.Lone.{StandsAlone}
use Rattle.ca_alone.specs.Standing.{IsOn}

-- what comes once no channel settles: a turn of the lane's task, or rest, as nobody is in the lane
pub data Follow : Type 0 where
  to_turn : Follow
  to_rest : Follow

-- nobody is in the lane, and nothing settles
abbrev pub AtFree : Position → Type 0
AtFree w = (w.phase ≡ free) × (w.desk.lane ≡ None)

-- .. and nobody is ready
abbrev pub AtEmpty : Position → Type 0
AtEmpty w = AtFree w × (w.desk.ready ≡ [])

-- a task was picked, and the clock wasn't asked yet
abbrev pub AtPicked : Position → Type 0
AtPicked w = (w.phase ≡ picked) × IsOn w.desk.lane

-- these channels may settle, and then that comes
abbrev pub MaySettle : Follow → List ℕ → Position → Type 0
MaySettle to_turn us w = (w.phase ≡ settling us) ⊎ ((w.phase ≡ in_time) × (us ≡ []) × IsOn w.desk.lane)
MaySettle to_rest us w = (w.desk.lane ≡ None) × ((w.phase ≡ settling us) ⊎ (w.phase ≡ free))

-- a Tick may come
abbrev pub MayTick : Follow → Position → Type 0
MayTick to_turn w = AtPicked w
MayTick to_rest w = AtEmpty w

-- a task that made all its events is in the lane
abbrev pub IsFull : Option Lane → Type 0
IsFull None = ⊥
IsFull (Some lane) = patience ≤ lane.events

module _ {A : Type 0} (over : CodeView → A → Type 0) (place : A → At) (stands : ProgramView → A → TaskBody → Type 0) (advances : ProgramView → A → A → Type 0) (gives : A → Tree → A → Type 0) (starts : ProgramView → SeedView → A → Type 0) (program : ProgramView) (code : CodeView) where
  -- its turns are a run, as those of the only hand of a table are
  abbrev pub AreTurnsRun : View (PartSeen A) Drawn → Type 0
  AreTurnsRun v = Run drawn_touches (drawn_moves over place advances gives starts) v.opening v.turns (left_now drawn_touches v)

  -- the clock of the opening parts gave these answers since
  abbrev pub HasAnswered : View (PartSeen A) Drawn → List ℕ → Type 0
  HasAnswered v answers = (first : TimersPart) → (parts_of 1 (contents_at v.opening)).timers ≡ Some first → HasGiven first answers (contents_at (left_now drawn_touches v))

  -- they led to a position of this kind
  pub record LedTo (P : Position → Type 0) (v : View (PartSeen A) Drawn) : Type 0 where
    pub answers : List ℕ
    pub at : Position
    pub alone : StandsAlone over place stands program code v answers at
    pub answered : HasAnswered v answers
    pub kind : P at

  -- .. if they are a run, and the main text has no end yet
  pub record StandsAt (P : Position → Type 0) (v : View (PartSeen A) Drawn) : Type 0 where
    pub stand : AreTurnsRun v → LedTo P v
    pub going : some_turn ends_main v.turns ≡ false

  -- What they show is the schedule's, over the answers that the clock gave. Silent turns that are no moves may have come
  -- last, so that no position is told; but what they left stands for a state of the run.
  pub record IsScheduleDone (v : View (PartSeen A) Drawn) : Type 0 where
    pub answers : List ℕ
    pub solo : Solo program answers (shown_by v.turns)
    pub answered : HasAnswered v answers
    pub state : State
    pub stands_for : TableStands place (stands_over over code stands) program 1 (left_now drawn_touches v) state
    pub coded : HaveCode code (left_now drawn_touches v)

  -- The worker may stop, and whoever it had in its lane may have stood back since. No event but the last used so much up,
  -- or ended the main text.
  pub record HasStopped (most : ℕ) (v : View (PartSeen A) Drawn) : Type 0 where
    pub done : AreTurnsRun v → IsScheduleDone v
    pub within : IsWithin most (shown_by v.turns)
    pub goes_on : EndsLast (shown_by v.turns)

  -- what that says of its turns, which are a run
  pub record IsSchedule (most : ℕ) (v : View (PartSeen A) Drawn) : Type 0 where
    pub answers : List ℕ
    pub solo : Solo program answers (shown_by v.turns)
    pub answered : HasAnswered v answers
    pub within : IsWithin most (shown_by v.turns)
    pub goes_on : EndsLast (shown_by v.turns)
