-- When the parts of a run of n workers stand for a state.
use Rattle.std.specs.Prelude.{◌⊎◌, ◌≡◌, ℕ, ◌+◌, ◌*◌, ◌<◌, ◌≤◌, List, Option, Some, None, true}
use Rattle.ca_term.specs.Program.{ProgramView}
use Rattle.ca_meaning.specs.Body.{At}
use Rattle.ca_meaning.specs.Channel.{Channel}
use Rattle.ca_meaning.specs.Registry.{Registry}
use Rattle.ca_meaning.specs.Task.{TaskBody}
use Rattle.ca_meaning.specs.Wait.{is_among}
use Rattle.ca_meaning.specs.State.{State, Task}
use Rattle.ca_commit.specs.Contents.{Counts, Kept, LaneView, Parked, Parts, TimersPart, alive, whole}
use Rattle.ca_commit.specs.Holds.{KeepsChannels}
use Rattle.ca_commit.specs.Seated.{Seated}

-- all banks as one map, and all shards
pub record Whole (A : Type 0) : Type 0 where
  pub lane : ℕ → Option (LaneView A)
  pub ports : ℕ → Option Kept
  pub registries : ℕ → Option Registry
  pub parked : ℕ → Option (Parked A)
  pub ready : ℕ → Option (List (ℕ × A))
  pub timers : Option TimersPart

abbrev pub whole_of : {A : Type 0} → Parts A → Whole A
whole_of h = record { lane = h.lane; ports = whole h.bank; registries = whole h.registry; parked = whole h.shard; ready = h.ready; timers = h.timers }

-- how many numbers a worker gave, to one kind
abbrev pub numbers_given : {A : Type 0} → (Counts → ℕ) → Option (LaneView A) → ℕ
numbers_given kind None = 0
numbers_given kind (Some l) = kind l.counts

abbrev pub task_count : Counts → ℕ
task_count c = c.tasks

abbrev pub port_count : Counts → ℕ
port_count c = c.ports

abbrev pub wait_count : Counts → ℕ
wait_count c = c.waits

-- the number was given by a worker of n: worker w gives 1 + w, 1 + w + n, 1 + w + 2 * n and so on
abbrev pub GivenByWorker : {A : Type 0} → ℕ → (Counts → ℕ) → (ℕ → Option (LaneView A)) → ℕ → Type 0
GivenByWorker n kind lane p = (w i : ℕ) × (w < n) × (i < numbers_given kind (lane w)) × (p ≡ 1 + w + n * i)

-- each number of a state, but that of the main text, was given by a worker
pub record NumbersGiven {A : Type 0} (n : ℕ) (lane : ℕ → Option (LaneView A)) (s : State) : Type 0 where
  pub tasks : (t : ℕ) (x : Task) → s.tasks t ≡ Some x → (t ≡ 0) ⊎ GivenByWorker n task_count lane t
  pub ports : (p : ℕ) (c : Channel) → s.channels p ≡ Some c → GivenByWorker n port_count lane p
  pub registries : (p : ℕ) (r : Registry) → s.registries p ≡ Some r → GivenByWorker n port_count lane p
  pub waits : (v : ℕ) → is_among v s.used ≡ true → GivenByWorker n wait_count lane v

module _ {A : Type 0} (place : A → At) (stands : ProgramView → A → Option ℕ → TaskBody → Type 0) (program : ProgramView) (n : ℕ) where
  pub record WholeStands (all : Whole A) (s : State) : Type 0 where
    pub lanes : (w : ℕ) (l : LaneView A) → all.lane w ≡ Some l → (l.program ≡ program) × (w < n)
    pub holds : KeepsChannels all.ports (alive all.parked) s.channels s.waits s.used
    pub registered : (p : ℕ) → s.registries p ≡ all.registries p
    pub seated : Seated place (stands program) all.lane all.ready all.parked s.tasks s.waits
    pub clocked : (c : TimersPart) → all.timers ≡ Some c → (c.deadlines ≡ s.deadlines) × (c.now ≡ s.now) × (c.now ≤ c.least)
    pub numbered : NumbersGiven n all.lane s

  abbrev pub Stands : Parts A → State → Type 0
  Stands now s = WholeStands (whole_of now) s
