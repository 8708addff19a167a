-- What the calls of a plan's event promise of the parts is how that event moves them: one law for all events.
use Rattle.std.specs.Prelude.{◌≡◌, ℕ, ◌+◌, ◌*◌, List, [], ◌∷◌, ◌++◌, Option, Some, None, option_map}
use Rattle.ca_value.specs.Tree.{Tree}
use Rattle.ca_term.specs.declared.event.TaskKind.{TaskKind}
use Rattle.ca_term.specs.declared.place.Place.{Place}
use Rattle.ca_term.specs.Program.{ProgramView}
use Rattle.ca_term.specs.Operation.{OpView, SeedView, spawning}
use Rattle.ca_meaning.specs.Body.{At, at_op}
use Rattle.ca_meaning.specs.ChannelSteps.{other_side}
use Rattle.ca_meaning.specs.Registry.{Registry}
use Rattle.ca_meaning.specs.Wait.{port_of, side_of, told}
use Rattle.ca_commit.specs.Agents.{TaskAgent, advances_of, place_of, starts_of}
use Rattle.ca_commit.specs.Applying.{IsEvent, answer_by, channels_by, counts_alts, event_of, registries_by, waits_by}
use Rattle.ca_commit.specs.Contents.{Counts, Kept, Parked, Parts, TimersPart, home, nobody, owner, whole}
use Rattle.ca_commit.specs.Deciding.{seen_in}
use Rattle.ca_commit.specs.EventMoves.{TimesMade, one_port_more, one_task_more, one_wait_more}
use Rattle.ca_commit.specs.Moves.{Stays, Stood}
use Rattle.ca_commit.specs.Moving.{MovesShown}
use Rattle.ca_commit.specs.Parking.{waiting_as}
use Rattle.ca_commit.specs.Planning.{Planned, planned, to_make, to_meet, to_park, to_post, to_spawn}
use Rattle.ca_commit.specs.Replies.{GoesOn}
use Rattle.ca_commit.specs.Running.{Placed}
use Rattle.ca_commit.specs.Waking.{WakesBy, passing}

-- how many numbers the worker has given after it
abbrev pub counts_by : Planned → Counts → Counts
counts_by (to_make what) c = one_port_more c
counts_by (to_park bs) c = one_wait_more c
counts_by (to_post bs) c = one_wait_more c
counts_by (to_spawn kind r) c = one_task_more c
counts_by other c = c

-- the numbers that worker w of n gives next, after these
abbrev pub next_task : ℕ → ℕ → Counts → ℕ
next_task w n c = 1 + w + n * c.tasks

abbrev pub next_port : ℕ → ℕ → Counts → ℕ
next_port w n c = 1 + w + n * c.ports

abbrev pub next_wait : ℕ → ℕ → Counts → ℕ
next_wait w n c = 1 + w + n * c.waits

-- the clock is read for a timeout alone
abbrev pub TimesTo : (port moment : ℕ) → Planned → Option TimersPart → Option TimersPart → Type 0
TimesTo p m (to_make what) old new = TimesMade p what m old new
TimesTo p m other old new = new ≡ old

module _ {A : Type 0} where
  -- the parts that worker w needs for it, where p and v are the numbers of the new port and wait
  abbrev pub HasPartsIn : (w p v : ℕ) → Planned → Parts A → Type 0
  HasPartsIn w p v (to_meet k b alts wait o) old = (q : List (ℕ × A)) × (old.ready w ≡ Some q)
  HasPartsIn w p v (to_park bs) old = (f : ℕ → Option (Parked A)) × (old.shard (home v) ≡ Some f)
  HasPartsIn w p v (to_post bs) old = (f : ℕ → Option (Parked A)) × (old.shard (home v) ≡ Some f)
  HasPartsIn w p v (to_make what) old = (f : ℕ → Option Kept) × (g : ℕ → Option Registry) × (old.bank (home p) ≡ Some f) × (f p ≡ None) × (old.registry (home p) ≡ Some g) × (g p ≡ None)
  HasPartsIn w p v (to_spawn kind r) old = (q : List (ℕ × A)) × (old.ready w ≡ Some q)
  HasPartsIn w p v other old = Unit {0}

  -- the ready parts but that of worker w stay
  abbrev pub OthersStay : ℕ → Parts A → Parts A → Type 0
  OthersStay w old new = (i : ℕ) → (i ≡ w → ⊥) → new.ready i ≡ old.ready i

  -- task t, which advanced to a, waits and leaves the lane, or goes on there with its answer; p is the number of a new port
  abbrev pub RunsOn : (A → Tree → A → Type 0) → (t p : ℕ) → Parts (TaskAgent A) → Planned → TaskAgent A → Option (ℕ × TaskAgent A) → Type 0
  RunsOn gives t p old (to_park bs) a now = now ≡ None
  RunsOn gives t p old q a now = (c : TaskAgent A) × (now ≡ Some (t, c)) × GoesOn gives (counts_alts q) a (answer_by old.bank old.registry p q) c

module _ {A : Type 0} (place : A → At) (gives : A → Tree → A → Type 0) (starts : ProgramView → SeedView → A → Type 0) where
  -- a spawned task, of number u, is last in the worker's ready part
  abbrev pub StartsIn : (w u : ℕ) → ProgramView → OpView → Parts (TaskAgent A) → Parts (TaskAgent A) → Type 0
  StartsIn w u program op old new = (a : TaskAgent A) × ((seed : SeedView) → op ≡ spawning seed → starts_of starts program seed a) × (new.ready w ≡ option_map (λ q. q ++ (u, a) ∷ []) (old.ready w))

  -- whoever is woken or started is in the worker's own ready part
  abbrev pub ReadyTo : (w u : ℕ) → ProgramView → OpView → Planned → Parts (TaskAgent A) → Parts (TaskAgent A) → Type 0
  ReadyTo w u program op (to_meet k b alts wait o) old new =
      WakesBy place gives (whole old.shard wait) (port_of b) (told (other_side (side_of b)) (passing (whole old.bank (port_of b)) b)) (old.ready w) (new.ready w) × OthersStay w old new
  ReadyTo w u program op (to_spawn kind r) old new = StartsIn w u program op old new × OthersStay w old new
  ReadyTo w u program op other old new = Stays old.ready new.ready

module _ {A : Type 0} (place : A → At) (advances : ProgramView → A → A → Type 0) (gives : A → Tree → A → Type 0) (starts : ProgramView → SeedView → A → Type 0) where
  -- Plan q, which was made over these parts for the operation at which worker w's task t stands, was applied to them;
  -- u is the number of a task that it starts; p and v are those for a new port and wait, and m is the clock's answer.
  pub record IsApplied (w n t u p v m : ℕ) (q : Planned) (old new : Parts (TaskAgent A)) : Type 0 where
    pub op : OpView
    pub at : Place
    pub start : ℕ
    pub is_plan : planned (seen_in old) op start ≡ q
    pub is_event : IsEvent q
    pub placed : Placed old.bank
    pub stands : Stood (place_of place) (advances_of advances) w t (at_op (record { op = op; place = at })) old new
    pub task_is : (kind : TaskKind) (r : Option ℕ) → q ≡ to_spawn kind r → u ≡ next_task w n stands.lane.counts
    pub port_is : p ≡ next_port w n stands.lane.counts
    pub wait_is : v ≡ next_wait w n stands.lane.counts
    pub counts : stands.lane2.counts ≡ counts_by q stands.lane.counts
    pub has_parts : HasPartsIn w p v q old
    pub runs_on : RunsOn gives t p old q stands.agent1 stands.lane2.task
    pub banks : (i : ℕ) → new.bank i ≡ channels_by p v q old.bank i
    pub registries : (i : ℕ) → new.registry i ≡ registries_by p q old.registry i
    pub shards : (i : ℕ) → new.shard i ≡ waits_by v (owner t (waiting_as place stands.agent1)) nobody q old.shard i
    pub readys : ReadyTo place gives starts w u stands.lane.program op q old new
    pub timers : TimesTo p m q old.timers new.timers

  abbrev pub PlanMoves : Type 0
  PlanMoves = (old new : Parts (TaskAgent A)) (w n t u p v m : ℕ) (q : Planned) → IsApplied w n t u p v m q old new → MovesShown place advances gives starts w n (event_of old.bank old.registry t u p v m q) old new
