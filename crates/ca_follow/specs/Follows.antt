-- When what a follower has stands for a state.
use Rattle.std.specs.Prelude.{◌≡◌, ℕ, Some, None, is_some}
use Rattle.ca_term.specs.declared.place.Place.{Place}
use Rattle.ca_term.specs.Operation.{OpView}
use Rattle.ca_term.specs.Program.{ProgramView}
use Rattle.ca_meaning.specs.Body.{At, at_op}
use Rattle.ca_meaning.specs.Going.{Runs}
use Rattle.ca_meaning.specs.State.{State, Task}
use Rattle.ca_meaning.specs.Task.{TaskBody, body_at}
use Rattle.ca_meaning.specs.Wait.{is_among, owner_of}
use Rattle.ca_commit.specs.Agents.{TaskAgent, place_of, stands_of}
use Rattle.ca_commit.specs.Contents.{alive, nobody, owner, whole}
use Rattle.ca_commit.specs.Holds.{KeepsChannels}
use Rattle.ca_commit.specs.Seated.{PausedAt, StandsAs, Waits}
use Rattle.ca_follow.specs.Has.{Has, IsAll}

module _ {A : Type 0} (place : A → At) (stands : ProgramView → A → TaskBody → Type 0) (program : ProgramView) where
  -- task u waits on w, and its agent has halted where its body stands
  abbrev pub Owns : State → ℕ → ℕ → TaskAgent A → Type 0
  Owns s w u a = (x : Task) × Waits s.tasks u w x × stands_of stands program a x.result x.body × PausedAt (place_of place a) (body_at x.body)

  -- agent a of task t is paused where its body stands
  abbrev pub IsAt : Has A → State → ℕ → TaskAgent A → Type 0
  IsAt h s t a = (h.running t ≡ Some a) × ((x : Task) × Runs s.tasks t x × stands_of stands program a x.result x.body × (place_of place a ≡ body_at x.body))

  pub record Follows (h : Has A) (s : State) : Type 0 where
    -- channels, queues and live waits
    pub holds : KeepsChannels (whole h.bank) (alive (whole h.shard)) s.channels s.waits s.used
    pub registered : (p : ℕ) → s.registries p ≡ whole h.registry p
    -- exactly the tasks that run can go on
    pub ready : (t : ℕ) (a : TaskAgent A) → h.running t ≡ Some a → StandsAs (stands_of stands program) s.tasks t a
    pub runs : (t : ℕ) (x : Task) → Runs s.tasks t x → (a : TaskAgent A) × (h.running t ≡ Some a)
    pub owners : (w u : ℕ) (a : TaskAgent A) → whole h.shard w ≡ Some (owner u a) → (owner_of w s.waits ≡ Some u) × Owns s w u a
    pub nobodies : (w : ℕ) → whole h.shard w ≡ Some nobody → owner_of w s.waits ≡ None
    pub times : h.times ≡ Some (record { deadlines = s.deadlines; now = s.now })
    pub known : (t : ℕ) → is_some (s.tasks t) ≡ h.known t
    pub used : (w : ℕ) → is_among w s.used ≡ h.used w

  -- With all parts at hand the state is followed, and task t is there, as agent a, at this operation.
  pub record IsFollowedAtOp (h : Has A) (s : State) (t : ℕ) (a : TaskAgent A) (op : OpView) (at : Place) : Type 0 where
    pub follows : Follows h s
    pub all : IsAll h
    pub task : IsAt h s t a
    pub halted : place a.agent ≡ at_op (record { op = op; place = at })
