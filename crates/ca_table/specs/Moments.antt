-- The moments that a journal tells, and what became of the clock in a run.
use Rattle.std.specs.Prelude.{◌≡◌, ◌⊎◌, ℕ, ◌≤◌, List, [], ◌∷◌, ◌++◌, Option, Some, None, Bool, true, option_to_list}
use Rattle.ca_term.specs.Event.{EventView, made, ticked}
use Rattle.ca_timers.specs.Causes.{Rose}
use Rattle.ca_commit.specs.Contents.{TimersPart}
use Rattle.ca_commit.specs.Touched.{Turn, asks_clock, shown}

-- the moment at which a timeout is made, or of a tick
abbrev pub moment_told : EventView → List ℕ
moment_told (made t p what m) = option_to_list m
moment_told (ticked m ports) = m ∷ []
moment_told other = []

-- those of a journal, in order
abbrev pub moments_told : List EventView → List ℕ
moments_told [] = []
moments_told (e ∷ es) = moment_told e ++ moments_told es

-- the answers of the clock that a turn took, after which the clock is at `least`; where it fails it gave none
abbrev pub turn_asked : Turn → ℕ → List ℕ
turn_asked (shown e) least = moment_told e
turn_asked asks_clock least = least ∷ []
turn_asked other least = []

-- each answer is at least the one before it; from `first` on, and none is above `last`
abbrev pub NeverFall : ℕ → List ℕ → ℕ → Type 0
NeverFall first [] last = first ≤ last
NeverFall first (m ∷ ms) last = (first ≤ m) × NeverFall m ms last

-- told answers went on by these
abbrev pub ToldWentOn : List ℕ → Option (List ℕ) → Option (List ℕ) → Type 0
ToldWentOn ms None new = Unit {0}
ToldWentOn ms (Some told) new = new ≡ Some (told ++ ms)

-- these stand in the second list, in that order
abbrev pub StandIn : List ℕ → List ℕ → Type 0
StandIn [] ys = Unit {0}
StandIn (x ∷ xs) [] = ⊥
StandIn (x ∷ xs) (y ∷ ys) = ((x ≡ y) × StandIn xs ys) ⊎ StandIn (x ∷ xs) ys

-- The moments that the journal tells are answers of the clock, in their order. These never fall, from `least` on, and
-- where the clock tells its answers, it told them one after another.
pub record KeepsTime (journal : List EventView) (least : ℕ) (before after : Option (List ℕ)) : Type 0 where
  pub answers : List ℕ
  pub last : ℕ
  pub rise : NeverFall least answers last
  pub told : ToldWentOn answers before after
  pub among : StandIn (moments_told journal) answers

-- what became of the clock in a run that began with it so
pub record ClockWent (least faults : ℕ) (readings : Option (List ℕ)) (journal : List EventView) (failed : Bool) (t : TimersPart) : Type 0 where
  pub time : KeepsTime journal least readings t.readings
  pub never_falls : least ≤ t.least
  pub faults_stay : faults ≤ t.faults
  pub rose : failed ≡ true → Rose faults t.faults
