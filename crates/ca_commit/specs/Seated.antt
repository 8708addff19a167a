-- Tasks in lanes, ready parts and shards stand for those of a state.
use Rattle.std.specs.Prelude.{◌≡◌, ℕ, List, [], ◌∷◌, Option, Some, None, Contains}
use Rattle.ca_term.specs.Operation.{WantView}
use Rattle.ca_meaning.specs.Body.{At, at_op}
use Rattle.ca_meaning.specs.Task.{TaskBody, body_at}
use Rattle.ca_meaning.specs.Wait.{Wait, owner_of}
use Rattle.ca_meaning.specs.State.{Task, Tasks, waiting}
use Rattle.ca_meaning.specs.Going.{Runs}
use Rattle.ca_commit.specs.Contents.{LaneView, Parked, nobody, owner}

pub data Seat : Type 0 where
  in_lane : (w : ℕ) → Seat
  in_ready : (r : ℕ) → Seat

-- no task with this number
abbrev pub Apart : {A : Type 0} → ℕ → List (ℕ × A) → Type 0
Apart t [] = Unit {0}
Apart t (x ∷ q) = (t ≡ x.0 → ⊥) × Apart t q

abbrev pub Waits : Tasks → ℕ → ℕ → Task → Type 0
Waits tasks t w x = (tasks t ≡ Some x) × (x.mode ≡ waiting w)

module _ {A : Type 0} (stands : A → Option ℕ → TaskBody → Type 0) where
  abbrev pub StandsAs : Tasks → ℕ → A → Type 0
  StandsAs tasks t a = (x : Task) × Runs tasks t x × stands a x.result x.body

  abbrev pub EachSeated : Tasks → (ℕ → Seat) → ℕ → List (ℕ × A) → Type 0
  EachSeated tasks seat r [] = Unit {0}
  EachSeated tasks seat r (x ∷ q) = (seat x.0 ≡ in_ready r) × StandsAs tasks x.0 x.1 × EachSeated tasks seat r q × Apart x.0 q

  abbrev pub SitsAt : (ℕ → Option (LaneView A)) → (ℕ → Option (List (ℕ × A))) → Seat → ℕ → Type 0
  SitsAt lane ready (in_lane w) t = (l : LaneView A) × (a : A) × (lane w ≡ Some l) × (l.task ≡ Some (t, a))
  SitsAt lane ready (in_ready r) t = (q : List (ℕ × A)) × (a : A) × (ready r ≡ Some q) × Contains q (t, a)

-- a parked agent has halted at its task's operation
abbrev pub PausedAt : At → At → Type 0
PausedAt a b = (want : WantView) × (a ≡ at_op want) × (b ≡ at_op want)

module _ {A : Type 0} (place : A → At) (stands : A → Option ℕ → TaskBody → Type 0) where
  -- each running task is in one lane or once in one ready part, each owner of a wait in its shard
  pub record Seated (lane : ℕ → Option (LaneView A)) (ready : ℕ → Option (List (ℕ × A))) (parked : ℕ → Option (Parked A)) (tasks : Tasks) (waits : List Wait) : Type 0 where
    pub seat : ℕ → Seat
    pub laned : (w : ℕ) (l : LaneView A) (t : ℕ) (a : A) → lane w ≡ Some l → l.task ≡ Some (t, a) → (seat t ≡ in_lane w) × StandsAs stands tasks t a
    pub queued : (r : ℕ) (q : List (ℕ × A)) → ready r ≡ Some q → EachSeated stands tasks seat r q
    pub found : (t : ℕ) (x : Task) → Runs tasks t x → SitsAt stands lane ready (seat t) t
    pub owners : (w u : ℕ) (a : A) → parked w ≡ Some (owner u a) → (owner_of w waits ≡ Some u) × ((x : Task) × Waits tasks u w x × stands a x.result x.body × PausedAt (place a) (body_at x.body))
    pub nobodies : (w : ℕ) → parked w ≡ Some nobody → owner_of w waits ≡ None
