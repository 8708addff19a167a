-- What the one worker has before it between two of its moves.
use Rattle.std.specs.Prelude.{ℕ, List, [], ◌++◌, Some}
use Rattle.ca_meaning.specs.State.{State}
use Rattle.ca_meaning.specs.Solo.{Desk, opening_desk}

-- Where the worker stands between two of its moves.
pub data Phase : Type 0 where
  -- an event came: of these channels, the least first, each may still settle, and no other
  settling : List ℕ → Phase
  -- nobody is in the lane, and nothing settles
  free : Phase
  -- a task was picked, and the clock wasn't asked yet
  picked : Phase
  -- a task was picked, and where a deadline is open the clock's answer was before it; no event was made yet
  in_time : Phase

-- The state that its parts stand for, and what they hold: the numbers of the ready part, the lane with its
-- events since the pick, the counts and counters, and the answers that the clock will give.
pub record Position : Type 0 where
  pub state : State
  pub desk : Desk
  pub phase : Phase

-- the task comes into the lane
abbrev pub on_lane : Desk → ℕ → List ℕ → Desk
on_lane d t rest = record d { ready = rest; lane = Some (record { task = t; events = 0 }) }

-- these answers of the clock are still to come
abbrev pub with_readings : List ℕ → Desk → Desk
with_readings rs d = record d { readings = rs }

-- before main is picked
abbrev pub first_position : List ℕ → State → Position
first_position readings s = record { state = s; desk = opening_desk readings; phase = settling [] }

-- with further answers of the clock
abbrev pub and_later : List ℕ → Desk → Desk
and_later rs d = record d { readings = d.readings ++ rs }

abbrev pub also_later : List ℕ → Position → Position
also_later rs w = record w { desk = and_later rs w.desk }

-- no answer of the clock waits for the event that uses it, so that a run may end here
abbrev pub HasUsed : Phase → Type 0
HasUsed (settling us) = Unit {0}
HasUsed free = Unit {0}
HasUsed picked = Unit {0}
HasUsed in_time = ⊥
