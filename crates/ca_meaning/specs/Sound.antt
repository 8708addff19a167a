-- What holds of the state of every legal journal.
use Rattle.std.specs.Prelude.{◌≡◌, ◌≢◌, ℕ, ◌<◌, ◌≤◌, List, [], ◌∷◌, length, Option, Some, None, true, false}
use Rattle.ca_value.specs.Tree.{Tree}
use Rattle.ca_term.specs.declared.event.Side.{Side}
use Rattle.ca_term.specs.declared.event.Side.TheVariants.{Take, Put}
use Rattle.ca_meaning.specs.Body.{local}
use Rattle.ca_meaning.specs.Operands.{is_nil}
use Rattle.ca_meaning.specs.Channel.{Channel, FitsPolicy, is_promise, is_fixed}
use Rattle.ca_meaning.specs.Wait.{Wait, Handler, queue, head, is_live, owner_of, is_among}
use Rattle.ca_meaning.specs.Task.{body_at}
use Rattle.ca_meaning.specs.State.{State, Task, Tasks, Channels, Deadline, waiting}
use Rattle.ca_meaning.specs.TaskSteps.{moments}

-- each of the list
abbrev pub Each : {A : Type 0} → (A → Type 0) → List A → Type 0
Each P [] = Unit {0}
Each P (x ∷ xs) = P x × Each P xs

-- a channel never holds more than its capacity, which is 0 without a buffer and 1 for a promise
abbrev pub ChannelFits : Channel → Type 0
ChannelFits c = (length c.held ≤ c.capacity) × FitsPolicy c.policy c.capacity

-- where somebody waits to take, nothing is held, but in a promise, and no put waits on a fixed buffer
abbrev pub Idle : Channel → List Handler → List Handler → Type 0
Idle c takers putters = is_promise c.policy ≡ false → (h : Handler) → head takers ≡ Some h → (c.held ≡ []) × (is_fixed c.policy ≡ true → putters ≡ [])

abbrev pub IsNotNil : Tree → Type 0
IsNotNil v = is_nil v ≡ false

abbrev pub ChannelsFit : Channels → Type 0
ChannelsFit channels = (p : ℕ) (c : Channel) → channels p ≡ Some c → ChannelFits c

abbrev pub AllIdle : Channels → List Wait → Type 0
AllIdle channels ws = (p : ℕ) (c : Channel) → channels p ≡ Some c → Idle c (queue Take p ws) (queue Put p ws)

abbrev pub NoneHeldIsNil : Channels → Type 0
NoneHeldIsNil channels = (p : ℕ) (c : Channel) → channels p ≡ Some c → Each IsNotNil c.held

-- from some number on nothing is there
abbrev pub Bounded : {A : Type 0} → (ℕ → Option A) → Type 0
Bounded f = (n : ℕ) × ((m : ℕ) → n ≤ m → f m ≡ None)

-- a wait's owner waits on it
abbrev pub AllOwned : Tasks → List Wait → Type 0
AllOwned tasks ws = (w u : ℕ) → owner_of w ws ≡ Some u → (x : Task) × (tasks u ≡ Some x) × (x.mode ≡ waiting w)

-- a task that waits owns that wait
abbrev pub AllWaited : Tasks → List Wait → Type 0
AllWaited tasks ws = (w u : ℕ) (x : Task) → tasks u ≡ Some x → x.mode ≡ waiting w → owner_of w ws ≡ Some u

-- no task stands at a local step
abbrev pub AllRested : Tasks → Type 0
AllRested tasks = (u : ℕ) (x : Task) → tasks u ≡ Some x → body_at x.body ≢ local

pub record Sound (s : State) : Type 0 where
  pub fits : ChannelsFit s.channels
  pub idle : AllIdle s.channels s.waits
  -- a wait stands on channels
  pub homes : (side : Side) (p : ℕ) → s.channels p ≡ None → queue side p s.waits ≡ []
  -- no value that is held, or that a wait offers, is nil
  pub held : NoneHeldIsNil s.channels
  pub offered : (p : ℕ) → Each (λ (h : Handler). IsNotNil h.value) (queue Put p s.waits)
  -- a wait's number was given
  pub given : (w : ℕ) → is_live w s.waits ≡ true → is_among w s.used ≡ true
  -- a task waits exactly on a wait that it owns
  pub owned : AllOwned s.tasks s.waits
  pub waited : AllWaited s.tasks s.waits
  pub rested : AllRested s.tasks
  -- the moment now and those of the open deadlines are moments
  pub clock : s.now < moments
  pub dated : Each (λ (d : Deadline). d.moment < moments) s.deadlines
  -- only finitely many numbers were given
  pub tasks_end : Bounded s.tasks
  pub channels_end : Bounded s.channels
  pub registries_end : Bounded s.registries
