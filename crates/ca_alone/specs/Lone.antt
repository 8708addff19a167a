-- That a lone worker's turns so far are those of the schedule, and that it stands at a position.
use Rattle.std.specs.Prelude.{◌≡◌, ℕ, List}
use Rattle.ca_term.specs.Program.{ProgramView}
use Rattle.ca_meaning.specs.Body.{At}
use Rattle.ca_meaning.specs.Task.{TaskBody}
use Rattle.ca_states.specs.Code.{CodeView}
use Rattle.ca_turns.specs.declared.rule.Turn.{Turn}
use Rattle.ca_turns.specs.declared.rule.View.{View}
use Rattle.ca_turns.specs.History.{TurnGoes}
use Rattle.ca_commit.specs.Touched as said
use Rattle.ca_table.specs.Draws.{drawn_touches, turn_view}
use Rattle.ca_table.specs.LoneHands.{IsAfter, left_now}
use Rattle.ca_table.specs.OneCode.{HaveCode, stands_over}
use Rattle.ca_table.specs.Running.{contents_at, shown_by}
use Rattle.ca_table.specs.Seen.{PartSeen}
use Rattle.ca_table.specs.declared.drawn.Drawn.{Drawn}
use Rattle.ca_solo.specs.Alone.{Alone}
use Rattle.ca_solo.specs.Positions.{Phase, Position}
use Rattle.ca_alone.specs.Standing.{IsPosition}

-- the hand drew one turn more, which moved what those before it left
pub record DrewNext {A : Type 0} (moves : Drawn → List (PartSeen A) → List (PartSeen A) → Type 0) (what : said.Turn) (v v2 : View (PartSeen A) Drawn) : Type 0 where
  pub turn : Turn (PartSeen A) Drawn
  pub is : turn_view turn.event.what ≡ what
  pub goes : TurnGoes drawn_touches moves (left_now drawn_touches v) turn
  pub after : IsAfter v v2 turn

module _ {A : Type 0} (over : CodeView → A → Type 0) (place : A → At) (stands : ProgramView → A → TaskBody → Type 0) (program : ProgramView) (code : CodeView) where
  -- what its turns left of the parts stands for the position, and what they showed is the schedule's, where the clock
  -- gave these answers
  pub record StandsAlone (v : View (PartSeen A) Drawn) (answers : List ℕ) (w : Position) : Type 0 where
    pub position : IsPosition place (stands_over over code stands) program (contents_at (left_now drawn_touches v)) w
    pub coded : HaveCode code (left_now drawn_touches v)
    pub alone : Alone program answers (shown_by v.turns) w

  -- it stands so at a position of this phase
  abbrev pub AloneAt : View (PartSeen A) Drawn → List ℕ → Phase → Type 0
  AloneAt v answers f = (w : Position) × StandsAlone v answers w × (w.phase ≡ f)
