-- That the events so far are those of one worker, who stands at a position.
use Rattle.std.specs.Prelude.{◌≡◌, ℕ, List, ◌∷◌, None}
use Rattle.ca_term.specs.Program.{ProgramView}
use Rattle.ca_term.specs.Event.{EventView}
use Rattle.ca_meaning.specs.State.{State, Opening}
use Rattle.ca_meaning.specs.Solo.{Desk, opening_desk, NoneSettles, IsFree, IsPicked, SoloSteps}
use Rattle.ca_solo.specs.Stirs.{PortsAscend, OnlyThese}
use Rattle.ca_solo.specs.Positions.{Phase, settling, free, picked, in_time, Position, on_lane}

-- How the worker's desk stands to that of the schedule, which knows no silent moves: the schedule's is that
-- after the last event.
abbrev pub IsFreed : Desk → Desk → Type 0
IsFreed d desk = (ready : List ℕ) × IsFree d.lane d.ready ready × (desk ≡ record d { ready = ready; lane = None })

abbrev pub HasPicked : Desk → Desk → Type 0
HasPicked d desk = (t : ℕ) × (rest : List ℕ) × IsFree d.lane d.ready (t ∷ rest) × (desk ≡ on_lane d t rest)

abbrev pub PhaseFollows : State → Desk → Desk → Phase → Type 0
PhaseFollows s d desk (settling us) = (d ≡ desk) × PortsAscend us × OnlyThese s us
PhaseFollows s d desk free = IsFreed d desk × NoneSettles s
PhaseFollows s d desk picked = HasPicked d desk × NoneSettles s
PhaseFollows s d desk in_time = (t : ℕ) × IsPicked s d t desk × NoneSettles s

-- the events so far are those of one worker, who stands at the position
pub record Alone (program : ProgramView) (readings : List ℕ) (journal : List EventView) (w : Position) : Type 0 where
  pub opening : State
  pub opens : Opening program opening
  pub desk : Desk
  pub steps : SoloSteps program opening (opening_desk readings) journal w.state desk
  pub follows : PhaseFollows w.state desk w.desk w.phase
