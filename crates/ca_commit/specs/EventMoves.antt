-- For the other events: what their calls promise of the parts, with what the plan tells, is how they move them.
use Rattle.std.specs.Prelude.{◌≡◌, ◌≢◌, ℕ, ◌+◌, ◌*◌, ◌<◌, ◌≤◌, List, [], ◌∷◌, ◌++◌, Option, Some, None, option_map, true}
use Rattle.ca_value.specs.Tree.{Tree, Trees, bool, nil, port}
use Rattle.ca_value.specs.Deadlines.{due}
use Rattle.ca_term.specs.declared.event.Side.{Side}
use Rattle.ca_term.specs.declared.head.RegisterName.{RegisterName}
use Rattle.ca_term.specs.declared.event.TaskKind.{TaskKind}
use Rattle.ca_term.specs.declared.place.Place.{Place}
use Rattle.ca_term.specs.Program.{ProgramView}
use Rattle.ca_term.specs.Operation.{OpView, SeedView, WhatView, spawning, timeout}
use Rattle.ca_term.specs.Event.{BranchView}
use Rattle.ca_meaning.specs.Body.{At, at_op}
use Rattle.ca_meaning.specs.Channel.{channel_made}
use Rattle.ca_meaning.specs.ChannelSteps.{with_default}
use Rattle.ca_meaning.specs.Operands.{rest_of}
use Rattle.ca_meaning.specs.Registry.{Registry, registry_made}
use Rattle.ca_meaning.specs.TaskSteps.{moments}
use Rattle.ca_meaning.specs.Wait.{is_among, told}
use Rattle.ca_bank.specs.Kept.{closed_channel, pruned, unattended}
use Rattle.ca_registry.specs.Registry.{registry_after}
use Rattle.ca_commit.specs.Agents.{TaskAgent, advances_of, gives_of, parks_of, place_of, starts_of, wakes_of}
use Rattle.ca_commit.specs.ChannelMoves.{MovesClose, MovesDefault, MovesPark, MovesPost, MovesSettle}
use Rattle.ca_commit.specs.Contents.{Counts, Kept, Parked, Parts, TimersPart, home, nobody, owner, whole}
use Rattle.ca_commit.specs.Deciding.{IsStale, PlanTells}
use Rattle.ca_commit.specs.Entering.{answer_of, registry_of}
use Rattle.ca_commit.specs.Finding.{glance, serves, settle_at}
use Rattle.ca_commit.specs.Listing.{changed_at}
use Rattle.ca_commit.specs.Moves.{Answers, Becomes, Stays, Stood}
use Rattle.ca_commit.specs.NewPort.{Times, moment_for, timed}
use Rattle.ca_commit.specs.Parking.{front_port, front_value, queued_from, waiting_as}
use Rattle.ca_commit.specs.Planning.{to_close, to_default, to_make, to_park, to_post, to_print, to_register, to_spawn}
use Rattle.ca_commit.specs.Running.{Placed, or_was}
use Rattle.ca_commit.specs.Settling.{settle_change, value_settled}
use Rattle.ca_commit.specs.SilentMoves.{MovesPrune}
use Rattle.ca_commit.specs.TaskMoves.{MovesMake, MovesPrint, MovesRegister, MovesSpawn, MovesTick, ReadsClock, ShutsAt}
use Rattle.ca_commit.specs.Ticking.{closed_all, closed_result, ticked_at}
use Rattle.ca_commit.specs.Waking.{WakesBy}

abbrev pub one_wait_more : Counts → Counts
one_wait_more c = record { tasks = c.tasks; ports = c.ports; waits = c.waits + 1 }

abbrev pub one_port_more : Counts → Counts
one_port_more c = record { tasks = c.tasks; ports = c.ports + 1; waits = c.waits }

abbrev pub one_task_more : Counts → Counts
one_task_more c = record { tasks = c.tasks + 1; ports = c.ports; waits = c.waits }

-- what timers have of the part that they are in
abbrev pub times_shown : TimersPart → Times
times_shown c = record { deadlines = c.deadlines; now = c.now }

-- a timeout's deadline is opened, and the clock was read
abbrev pub TimesMade : ℕ → WhatView → ℕ → Option TimersPart → Option TimersPart → Type 0
TimesMade p (timeout n) m old new = (c c2 : TimersPart) × (old ≡ Some c) × (new ≡ Some c2) × (c.now ≤ m) × (m < moments) × (times_shown c2 ≡ timed p (timeout n) m (times_shown c)) × ReadsClock m c c2
TimesMade p what m old new = new ≡ old

-- banks, shards, ready parts and timers stay
abbrev pub AllStay : {A : Type 0} → Parts A → Parts A → Type 0
AllStay old new = Stays old.bank new.bank × Stays old.registry new.registry × Stays old.shard new.shard × Stays old.ready new.ready × (new.timers ≡ old.timers)

module _ {A : Type 0} (place : A → At) (advances : ProgramView → A → A → Type 0) where
  -- a task that waits
  abbrev pub ParkMoves : Type 0
  ParkMoves = (old new : Parts (TaskAgent A)) (w n t wait : ℕ) (op : OpView) (at : Place) (bs : List BranchView) (from : ℕ → Option (Parked (TaskAgent A))) → PlanTells old op (to_park bs) → Placed old.bank
      → (stands : Stood (place_of place) (advances_of advances) w t (at_op (record { op = op; place = at })) old new)
      → stands.lane2.task ≡ None → wait ≡ 1 + w + n * stands.lane.counts.waits → stands.lane2.counts ≡ one_wait_more stands.lane.counts
      → ((i : ℕ) → new.bank i ≡ queued_from wait 0 bs old.bank i) → Stays old.registry new.registry
      → old.shard (home wait) ≡ Some from → ((i : ℕ) → new.shard i ≡ changed_at wait (λ o. Some (owner t (waiting_as place stands.agent1))) old.shard i)
      → Stays old.ready new.ready → new.timers ≡ old.timers
      → MovesPark (place_of place) (advances_of advances) (parks_of place) w n t wait bs old new

  -- a fault of a task that was to close a port
  abbrev pub ResultCloses : Type 0
  ResultCloses = (old new : Parts (TaskAgent A)) (r : Option ℕ) → ((p : ℕ) → r ≡ Some p → (g : ℕ → Option Kept) × (old.bank (home p) ≡ Some g))
      → ((i : ℕ) → new.bank i ≡ closed_result r old.bank i) → ShutsAt r old.bank new.bank

module _ {A : Type 0} (place : A → At) (advances : ProgramView → A → A → Type 0) (gives : A → Tree → A → Type 0) where
  -- the task goes on with the answer
  abbrev pub TaskAnswers : ℕ → ℕ → OpView → Tree → Parts (TaskAgent A) → Parts (TaskAgent A) → Type 0
  TaskAnswers = Answers (place_of place) (advances_of advances) (gives_of place gives)

  -- a put that waits without its task
  abbrev pub PostMoves : Type 0
  PostMoves = (old new : Parts (TaskAgent A)) (w n t wait : ℕ) (op : OpView) (bs : List BranchView) (from : ℕ → Option (Parked (TaskAgent A))) → PlanTells old op (to_post bs) → Placed old.bank
      → (answers : TaskAnswers w t op (bool true) old new) → wait ≡ 1 + w + n * answers.stands.lane.counts.waits → answers.stands.lane2.counts ≡ one_wait_more answers.stands.lane.counts
      → ((i : ℕ) → new.bank i ≡ queued_from wait 0 bs old.bank i) → Stays old.registry new.registry
      → old.shard (home wait) ≡ Some from → ((i : ℕ) → new.shard i ≡ changed_at wait (λ o. Some nobody) old.shard i)
      → Stays old.ready new.ready → new.timers ≡ old.timers
      → MovesPost (place_of place) (advances_of advances) (gives_of place gives) w n t wait (front_port bs) (front_value bs) old new

  -- an alts that takes its default
  abbrev pub DefaultMoves : Type 0
  DefaultMoves = (old new : Parts (TaskAgent A)) (w t : ℕ) (op : OpView) (v : Tree) → PlanTells old op (to_default v)
      → (answers : TaskAnswers w t op (with_default v) old new) → answers.stands.lane2.counts ≡ answers.stands.lane.counts → AllStay old new
      → MovesDefault (place_of place) (advances_of advances) (gives_of place gives) w t v old new

  -- a channel that is closed
  abbrev pub CloseMoves : Type 0
  CloseMoves = (old new : Parts (TaskAgent A)) (w t p : ℕ) (op : OpView) → PlanTells old op (to_close p)
      → (answers : TaskAnswers w t op nil old new) → answers.stands.lane2.counts ≡ answers.stands.lane.counts
      → ((i : ℕ) → new.bank i ≡ changed_at p (option_map closed_channel) old.bank i) → Stays old.registry new.registry → Stays old.shard new.shard → Stays old.ready new.ready → new.timers ≡ old.timers
      → MovesClose (place_of place) (advances_of advances) (gives_of place gives) w t p old new

  -- a line
  abbrev pub PrintMoves : Type 0
  PrintMoves = (old new : Parts (TaskAgent A)) (w t : ℕ) (op : OpView) (line : List ℕ) → PlanTells old op (to_print line)
      → (answers : TaskAnswers w t op nil old new) → answers.stands.lane2.counts ≡ answers.stands.lane.counts → AllStay old new
      → MovesPrint (place_of place) (advances_of advances) (gives_of place gives) w t line old new

  -- a port that is made, where there was none of its number
  abbrev pub MakeMoves : Type 0
  MakeMoves = (old new : Parts (TaskAgent A)) (w n t p m : ℕ) (op : OpView) (what : WhatView) (ports : ℕ → Option Kept) (members : ℕ → Option Registry) → PlanTells old op (to_make what)
      → (answers : TaskAnswers w t op (port p) old new) → p ≡ 1 + w + n * answers.stands.lane.counts.ports → answers.stands.lane2.counts ≡ one_port_more answers.stands.lane.counts
      → old.bank (home p) ≡ Some ports → ports p ≡ None → ((i : ℕ) → new.bank i ≡ changed_at p (or_was (option_map unattended (channel_made what))) old.bank i)
      → old.registry (home p) ≡ Some members → members p ≡ None → ((i : ℕ) → new.registry i ≡ changed_at p (or_was (registry_made what)) old.registry i)
      → Stays old.shard new.shard → Stays old.ready new.ready → TimesMade p what m old.timers new.timers
      → MovesMake (place_of place) (advances_of advances) (gives_of place gives) w n t p what (moment_for what m) old new

  -- a task that is started
  abbrev pub SpawnMoves : (ProgramView → SeedView → A → Type 0) → Type 0
  SpawnMoves starts = (old new : Parts (TaskAgent A)) (w n t u : ℕ) (op : OpView) (kind : TaskKind) (r : Option ℕ) (a : TaskAgent A) (q : List (ℕ × TaskAgent A)) → PlanTells old op (to_spawn kind r)
      → (answers : TaskAnswers w t op nil old new) → u ≡ 1 + w + n * answers.stands.lane.counts.tasks → answers.stands.lane2.counts ≡ one_task_more answers.stands.lane.counts
      → ((seed : SeedView) → op ≡ spawning seed → starts_of starts answers.stands.lane.program seed a)
      → Becomes old.ready new.ready w q (q ++ (u, a) ∷ []) → Stays old.bank new.bank → Stays old.registry new.registry → Stays old.shard new.shard → new.timers ≡ old.timers
      → MovesSpawn (place_of place) (advances_of advances) (gives_of place gives) (starts_of starts) w n t u kind r old new

  -- an operation on a registry
  abbrev pub RegisterMoves : Type 0
  RegisterMoves = (old new : Parts (TaskAgent A)) (w t : ℕ) (op : OpView) (name : RegisterName) (args : Trees) → PlanTells old op (to_register name args)
      → (answers : TaskAnswers w t op (answer_of (whole old.registry (registry_of args)) name (rest_of args)) old new) → answers.stands.lane2.counts ≡ answers.stands.lane.counts
      → Stays old.bank new.bank → ((i : ℕ) → new.registry i ≡ changed_at (registry_of args) (option_map (registry_after name (rest_of args))) old.registry i)
      → Stays old.shard new.shard → Stays old.ready new.ready → new.timers ≡ old.timers
      → MovesRegister (place_of place) (advances_of advances) (gives_of place gives) w t name args (answer_of (whole old.registry (registry_of args)) name (rest_of args)) old new

-- the tick of moment m: the clock was read, and the banks of the ports that are due are held
abbrev pub TickMoves : Type 0 → Type 0
TickMoves A = (old new : Parts A) (m : ℕ) (ports : List ℕ) (c c2 : TimersPart) → Placed old.bank
    → old.timers ≡ Some c → new.timers ≡ Some c2 → c.now ≤ m → m < moments → due m c.deadlines ≡ ports → ports ≢ []
    → times_shown c2 ≡ ticked_at m (times_shown c) → ReadsClock m c c2
    → ((p : ℕ) → is_among p ports ≡ true → (g : ℕ → Option Kept) × (old.bank (home p) ≡ Some g))
    → ((i : ℕ) → new.bank i ≡ closed_all ports old.bank i) → Stays old.registry new.registry → Stays old.lane new.lane → Stays old.shard new.shard → Stays old.ready new.ready
    → MovesTick m ports old new

-- a stale handler is pruned
abbrev pub PruneMoves : Type 0 → Type 0
PruneMoves A = (old new : Parts A) (p : ℕ) (side : Side) (place : ℕ) (stale : IsStale old p side place)
    → ((i : ℕ) → new.bank i ≡ changed_at p (option_map (pruned side place)) old.bank i) → Stays old.registry new.registry → Stays old.shard new.shard → Stays old.lane new.lane → Stays old.ready new.ready → new.timers ≡ old.timers
    → MovesPrune side p stale.handler.wait old new

-- a channel that serves a side by itself
abbrev pub SettleMoves : {A : Type 0} → (A → At) → (A → Tree → A → Type 0) → Type 0
SettleMoves {A} place gives = (old new : Parts (TaskAgent A)) (w wait o p : ℕ) (side : Side) (q : List (ℕ × TaskAgent A)) → settle_at (glance old.shard) (whole old.bank p) ≡ serves side wait o
    → ((i : ℕ) → new.bank i ≡ changed_at p (option_map (settle_change side (value_settled side (whole old.bank p)))) old.bank i) → Stays old.registry new.registry
    → ((i : ℕ) → new.shard i ≡ changed_at wait (λ z. None) old.shard i)
    → old.ready w ≡ Some q → ((i : ℕ) → (i ≡ w → ⊥) → new.ready i ≡ old.ready i) → ((new.ready w ≡ old.ready w) → Stays old.ready new.ready)
    → WakesBy place gives (whole old.shard wait) p (told side (value_settled side (whole old.bank p))) (old.ready w) (new.ready w)
    → Stays old.lane new.lane → new.timers ≡ old.timers
    → MovesSettle (place_of place) (wakes_of gives) w wait o side p (value_settled side (whole old.bank p)) old new
