-- How far a journal is judged, and what it comes to.
use Rattle.std.specs.Prelude.{◌≡◌, ℕ, ◌<◌, List, [], ◌∷◌, ◌++◌, length, Option, None}
use Rattle.ca_term.specs.Event.{EventView}
use Rattle.ca_term.specs.Program.{ProgramView, IsProgram}
use Rattle.ca_meaning.specs.State.{State}
use Rattle.ca_meaning.specs.Steps.{Step}
use Rattle.ca_replay.specs.declared.judging.Judged.{Judged}
use Rattle.ca_replay.specs.declared.main_end.MainEnd.{MainEnd}
use Rattle.ca_replay.specs.declared.world.World.{World}
use Rattle.ca_replay.specs.MainEnd.{main_text_end}
use Rattle.ca_replay.specs.RunTo.{IsRunTo}
use Rattle.ca_replay.specs.Verdict.{IsFirstIllegal}
use Rattle.ca_replay.specs.World.{IsWorld, world_program, world_state}

-- the events are a legal run of the program, behind which the world stands; the end of the main text, where the last is that
pub record IsRun (program : ProgramView) (journal : List EventView) (w : World) (end : Option MainEnd) : Type 0 where
  pub world : IsWorld w
  pub of_program : world_program w ≡ program
  pub run : IsRunTo program journal (world_state w) end

-- the main text isn't over by these events, which are fewer than so many
pub record MayGoOn (most : ℕ) (program : ProgramView) (before : List EventView) (w : World) : Type 0 where
  pub checked : IsProgram program
  pub few : length before < most
  pub run : IsRun program before w None

-- with this event after those, which are fewer than so many, the world stands so
pub record IsWorldTold (most : ℕ) (program : ProgramView) (before : List EventView) (e : EventView) (w : World) : Type 0 where
  pub checked : IsProgram program
  pub few : length before < most
  pub run : IsRun program (before ++ e ∷ []) w (main_text_end e)

-- the event leads from one world to the other
abbrev pub LeadsOn : ℕ → EventView → World → World → Type 0
LeadsOn most e old new = (program : ProgramView) (before : List EventView) → MayGoOn most program before old → IsRun program (before ++ e ∷ []) new (main_text_end e)

-- who was told what came before is told the event, behind which the world stands
abbrev pub TellsEvent : {A : Type 0} → (A → List EventView → Type 0) → ℕ → EventView → World → A → A → Type 0
TellsEvent saw most e w old new = (program : ProgramView) (before : List EventView) → saw old before → IsWorldTold most program before e w → saw new (before ++ e ∷ [])

-- who was told what came before in this world is told the event
abbrev pub SeesOn : {A : Type 0} → (A → List EventView → Type 0) → ℕ → EventView → World → A → A → Type 0
SeesOn saw most e w old new = (program : ProgramView) (before : List EventView) → saw old before → MayGoOn most program before w → saw new (before ++ e ∷ [])

-- the event leads to no state
abbrev pub IsRefused : EventView → World → Type 0
IsRefused e w = (s : State) → Step (world_program w) (world_state w) e s → ⊥

abbrev pub IsJudged : ProgramView → List EventView → Judged → Type 0
IsJudged program journal (Judged.Legal w end) = IsRun program journal w end
IsJudged program journal (Judged.IllegalAt k) = IsFirstIllegal program journal k

-- what is said of a legal journal
abbrev pub WhereLegal : Type 0 → Judged → Type 0
WhereLegal P (Judged.Legal w end) = P
WhereLegal P (Judged.IllegalAt k) = Unit {0}
