-- The moves of the one worker.
use Rattle.std.specs.Prelude.{◌≡◌, ℕ, ◌<◌, ◌≤◌, List, [], ◌∷◌, ◌++◌, Some, None, true}
use Rattle.ca_value.specs.Tree.{Tree}
use Rattle.ca_term.specs.declared.event.Side.{Side}
use Rattle.ca_term.specs.Program.{ProgramView}
use Rattle.ca_term.specs.Event.{EventView, settled, ticked}
use Rattle.ca_meaning.specs.Wait.{owner_of}
use Rattle.ca_meaning.specs.State.{State, Opening}
use Rattle.ca_meaning.specs.Steps.{Step}
use Rattle.ca_meaning.specs.EndsLaw.{is_of}
use Rattle.ca_meaning.specs.Solo.{Lane, Desk, CanSettle, patience, AsksBefore, AsksAfter, joined_by, Leaves}
use Rattle.ca_solo.specs.Stirs.{stirred, Ordered}
use Rattle.ca_solo.specs.Positions.{Phase, settling, free, picked, in_time, Position, on_lane, with_readings, first_position, HasUsed}

-- the front task comes into the empty lane
abbrev pub PicksFront : Position → Position → Type 0
PicksFront w w2 =
    (t : ℕ) × (rest : List ℕ)
    × (w.phase ≡ free)
    × (w.desk.ready ≡ t ∷ rest)
    × (w2 ≡ record { state = w.state; desk = on_lane w.desk t rest; phase = picked })

-- where a deadline is open the clock is asked, and its answer is before the first ..
abbrev pub IsInTime : Position → Position → Type 0
IsInTime w w2 =
    (later : List ℕ)
    × (w.phase ≡ picked)
    × AsksBefore w.state.deadlines w.desk.readings later
    × (w2 ≡ record { state = w.state; desk = with_readings later w.desk; phase = in_time })

-- .. or it isn't, and the Tick of that answer comes
abbrev pub IsLate : ProgramView → Position → ℕ → List ℕ → Position → Type 0
IsLate program w m ports w2 =
    (later us : List ℕ) × (s2 : State)
    × (w.phase ≡ picked)
    × AsksAfter w.state.deadlines m w.desk.readings later
    × Step program w.state (ticked m ports) s2
    × Ordered ports us
    × (w2 ≡ record { state = s2; desk = with_readings later w.desk; phase = settling us })

-- nobody is ready, and the clock waits until the first deadline
abbrev pub WaitsIdle : ProgramView → Position → ℕ → List ℕ → Position → Type 0
WaitsIdle program w m ports w2 =
    (later us : List ℕ) × (s2 : State)
    × (w.phase ≡ free)
    × (w.desk.ready ≡ [])
    × AsksAfter w.state.deadlines m w.desk.readings later
    × Step program w.state (ticked m ports) s2
    × Ordered ports us
    × (w2 ≡ record { state = s2; desk = with_readings later w.desk; phase = settling us })

-- the lane's task may make an event
abbrev pub MayMake : Phase → Type 0
MayMake (settling []) = Unit {0}
MayMake (settling (p ∷ ps)) = ⊥
MayMake free = ⊥
MayMake picked = ⊥
MayMake in_time = Unit {0}

-- the lane's task, which has made fewer than 64 since its pick, makes one
abbrev pub MakesOne : ProgramView → Position → EventView → Position → Type 0
MakesOne program w e w2 =
    (lane : Lane) × (s2 : State) × (d2 : Desk)
    × MayMake w.phase
    × (w.desk.lane ≡ Some lane)
    × (lane.events < patience)
    × (is_of lane.task e ≡ true)
    × Step program w.state e s2
    × Leaves w.state w.desk e d2
    × (w2 ≡ record { state = s2; desk = d2; phase = settling (stirred w.state e) })

-- the least channel that may settle does
abbrev pub SettlesOne : ProgramView → Position → EventView → Position → Type 0
SettlesOne program w e w2 =
    (p : ℕ) × (ps : List ℕ) × (x k : ℕ) × (side : Side) × (v : Tree) × (s2 : State)
    × (w.phase ≡ settling (p ∷ ps))
    × (e ≡ settled x k side p v)
    × Step program w.state (settled x k side p v) s2
    × (w2 ≡ record { state = s2; desk = joined_by (owner_of x w.state.waits) w.desk; phase = settling (p ∷ ps) })

-- .. or it doesn't
abbrev pub PassesOne : Position → Position → Type 0
PassesOne w w2 = (p : ℕ) × (ps : List ℕ) × (w.phase ≡ settling (p ∷ ps)) × (CanSettle w.state p → ⊥) × (w2 ≡ record w { phase = settling ps })

-- a task that made 64 events stands behind the others
abbrev pub Yields : Position → Position → Type 0
Yields w w2 =
    (lane : Lane)
    × (w.phase ≡ settling [])
    × (w.desk.lane ≡ Some lane)
    × (patience ≤ lane.events)
    × (w2 ≡ record w { desk = record w.desk { ready = w.desk.ready ++ lane.task ∷ []; lane = None }; phase = free })

-- the task left
abbrev pub Rests : Position → Position → Type 0
Rests w w2 = (w.phase ≡ settling []) × (w.desk.lane ≡ None) × (w2 ≡ record w { phase = free })

-- a move, with the events that it shows
pub data SoloMove (program : ProgramView) (w w2 : Position) (es : List EventView) : Type 0 where
  picks : PicksFront w w2 → es ≡ [] → SoloMove program w w2 es
  is_in_time : IsInTime w w2 → es ≡ [] → SoloMove program w w2 es
  is_late : (m : ℕ) (ports : List ℕ) → IsLate program w m ports w2 → es ≡ ticked m ports ∷ [] → SoloMove program w w2 es
  waits_idle : (m : ℕ) (ports : List ℕ) → WaitsIdle program w m ports w2 → es ≡ ticked m ports ∷ [] → SoloMove program w w2 es
  makes_one : (e : EventView) → MakesOne program w e w2 → es ≡ e ∷ [] → SoloMove program w w2 es
  settles_one : (e : EventView) → SettlesOne program w e w2 → es ≡ e ∷ [] → SoloMove program w w2 es
  passes_one : PassesOne w w2 → es ≡ [] → SoloMove program w w2 es
  yields : Yields w w2 → es ≡ [] → SoloMove program w w2 es
  rests : Rests w w2 → es ≡ [] → SoloMove program w w2 es

-- moves, one after the other, with all events that they show
pub data SoloMoves (program : ProgramView) (w : Position) : Position → List EventView → Type 0 where
  stays : SoloMoves program w w []
  goes_on : {m w2 : Position} {es : List EventView} (hs : List EventView) → SoloMoves program w m es → SoloMove program m w2 hs → SoloMoves program w w2 (es ++ hs)

-- moves from an opening show these events over these answers of the clock, none of which is left
abbrev pub MadeByMoves : ProgramView → List ℕ → List EventView → Type 0
MadeByMoves program readings journal =
    (s : State) × (w : Position)
    × Opening program s
    × SoloMoves program (first_position readings s) w journal
    × HasUsed w.phase
    × (w.desk.readings ≡ [])
