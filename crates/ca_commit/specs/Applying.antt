-- What an event does to held parts, by its plan.
use Rattle.std.specs.Prelude.{◌≡◌, ℕ, [], ◌∷◌, ◌++◌, Option, Some, None, IsSome, option_map, is_some, Bool, true, false, map}
use Rattle.ca_value.specs.Seq.{list}
use Rattle.ca_value.specs.Tree.{Tree, bool, nil, port}
use Rattle.ca_value.specs.View.{trees, view}
use Rattle.ca_term.specs.Event.{EventView, branch_view, closed as closed_event, defaulted, done, made, met, parked, posted, printed, registered as registered_event, spawned}
use Rattle.ca_term.specs.Operation.{WantView, what_view}
use Rattle.ca_meaning.specs.Body.{At, at_op}
use Rattle.ca_meaning.specs.Channel.{channel_made}
use Rattle.ca_meaning.specs.ChannelSteps.{other_side, with_default}
use Rattle.ca_meaning.specs.Operands.{rest_of}
use Rattle.ca_meaning.specs.Registry.{Registry, registry_made}
use Rattle.ca_meaning.specs.Wait.{port_of, side_of, told}
use Rattle.ca_bank.specs.Kept.{closed_channel, pruned, unattended}
use Rattle.ca_registry.specs.Mixes.{TogglesApart}
use Rattle.ca_registry.specs.Publications.{PlacesItself}
use Rattle.ca_registry.specs.Registry.{registry_after}
use Rattle.ca_commit.specs.Agents.{TaskAgent}
use Rattle.ca_commit.specs.Contents.{Kept, Parked, home, whole}
use Rattle.ca_commit.specs.Entering.{IsMadeToRegister, answer_of, registry_of}
use Rattle.ca_commit.specs.Listing.{changed_at}
use Rattle.ca_commit.specs.Making.{IsDoneRow, IsMadeForDone}
use Rattle.ca_commit.specs.NewPort.{HasTimers, IsMadeToMake, IsNoEarlier, Times, moment_for, timed}
use Rattle.ca_commit.specs.Parking.{AreChannels, IsMadeToWait, front_port, front_value, queued_from}
use Rattle.ca_commit.specs.Planning.{Planned, planned, to_close, to_default, to_do, to_look, to_make, to_meet, to_park, to_post, to_print, to_prune, to_refuse, to_register, to_spawn}
use Rattle.ca_commit.specs.Replies.{GoesOn, done_answer, done_change, reply_by}
use Rattle.ca_commit.specs.Running.{or_was}
use Rattle.ca_commit.specs.Showing.{channels_held, registries_held, seen, waits_held}
use Rattle.ca_commit.specs.Tasks.{agent_of, task_view}
use Rattle.ca_commit.specs.Waking.{HasReadyRoom, IsMadeForMeeting, WakesBy, passing, ready_in}
use Rattle.ca_commit.specs.declared.held.Held.{Held}
use Rattle.ca_commit.specs.declared.planned.Plan.{Plan}
use Rattle.ca_commit.specs.declared.planned.Plan.TheVariants as P
use Rattle.ca_commit.specs.declared.task.Task.{Task}

abbrev pub BankChannels : Type 0
BankChannels = ℕ → Option (ℕ → Option Kept)

abbrev pub Members : Type 0
Members = ℕ → Option (ℕ → Option Registry)

-- what the event of a plan tells, of task t, over held channels and registries; u, p and w are the numbers of the new
-- task, port and wait, and m the clock's answer
abbrev pub event_of : BankChannels → Members → (t u p w m : ℕ) → Planned → EventView
event_of cs rs t u p w m (to_do k b alts) = done t k b (done_answer (whole cs (port_of b)) b)
event_of cs rs t u p w m (to_meet k b alts v o) = met t k (side_of b) (port_of b) (passing (whole cs (port_of b)) b) v o
event_of cs rs t u p w m (to_park bs) = parked t w bs
event_of cs rs t u p w m (to_post bs) = posted t w (front_port bs) (front_value bs)
event_of cs rs t u p w m (to_default v) = defaulted t v
event_of cs rs t u p w m (to_make what) = made t p what (moment_for what m)
event_of cs rs t u p w m (to_spawn kind r) = spawned t u kind r
event_of cs rs t u p w m (to_close q) = closed_event t q
event_of cs rs t u p w m (to_register name args) = registered_event t name args (answer_of (whole rs (registry_of args)) name (rest_of args))
event_of cs rs t u p w m (to_print line) = printed t line
event_of cs rs t u p w m (to_look v) = printed t []
event_of cs rs t u p w m (to_prune q side place) = printed t []
event_of cs rs t u p w m (to_refuse f) = printed t []

-- the channels and the registries of the held banks after it; new is the number of the new port or wait
abbrev pub channels_by : (port wait : ℕ) → Planned → BankChannels → BankChannels
channels_by p w (to_do k b alts) m = changed_at (port_of b) (option_map (done_change b)) m
channels_by p w (to_meet k b alts v o) m = changed_at (port_of b) (option_map (pruned (other_side (side_of b)) 0)) m
channels_by p w (to_park bs) m = queued_from w 0 bs m
channels_by p w (to_post bs) m = queued_from w 0 bs m
channels_by p w (to_make what) m = changed_at p (or_was (option_map unattended (channel_made what))) m
channels_by p w (to_close q) m = changed_at q (option_map closed_channel) m
channels_by p w (to_default v) m = m
channels_by p w (to_spawn kind r) m = m
channels_by p w (to_register name args) m = m
channels_by p w (to_print line) m = m
channels_by p w (to_look v) m = m
channels_by p w (to_prune q side place) m = m
channels_by p w (to_refuse f) m = m

abbrev pub registries_by : (port : ℕ) → Planned → Members → Members
registries_by p (to_make what) m = changed_at p (or_was (registry_made what)) m
registries_by p (to_register name args) m = changed_at (registry_of args) (option_map (registry_after name (rest_of args))) m
registries_by p (to_do k b alts) m = m
registries_by p (to_meet k b alts w o) m = m
registries_by p (to_park bs) m = m
registries_by p (to_post bs) m = m
registries_by p (to_default v) m = m
registries_by p (to_spawn kind r) m = m
registries_by p (to_close q) m = m
registries_by p (to_print line) m = m
registries_by p (to_look w) m = m
registries_by p (to_prune q side place) m = m
registries_by p (to_refuse f) m = m

-- the waits of the held shards after it; x is the task as it waits
abbrev pub waits_by : {X : Type 0} → (wait : ℕ) → Parked X → Parked X → Planned → (ℕ → Option (ℕ → Option (Parked X))) → ℕ → Option (ℕ → Option (Parked X))
waits_by w x none (to_meet k b alts v o) m = changed_at v (λ z. None) m
waits_by w x none (to_park bs) m = changed_at w (λ z. Some x) m
waits_by w x none (to_post bs) m = changed_at w (λ z. Some none) m
waits_by w x none (to_do k b alts) m = m
waits_by w x none (to_default v) m = m
waits_by w x none (to_make what) m = m
waits_by w x none (to_spawn kind r) m = m
waits_by w x none (to_close p) m = m
waits_by w x none (to_register name args) m = m
waits_by w x none (to_print line) m = m
waits_by w x none (to_look v) m = m
waits_by w x none (to_prune p side place) m = m
waits_by w x none (to_refuse f) m = m

-- the timers after it
abbrev pub times_by : (port moment : ℕ) → Planned → Option Times → Option Times
times_by p m (to_make what) c = option_map (timed p what m) c
times_by p m (to_do k b alts) c = c
times_by p m (to_meet k b alts w o) c = c
times_by p m (to_park bs) c = c
times_by p m (to_post bs) c = c
times_by p m (to_default v) c = c
times_by p m (to_spawn kind r) c = c
times_by p m (to_close q) c = c
times_by p m (to_register name args) c = c
times_by p m (to_print line) c = c
times_by p m (to_look w) c = c
times_by p m (to_prune q side place) c = c
times_by p m (to_refuse f) c = c

-- the answer that the task gets, and whether it is that of an alts
abbrev pub answer_by : BankChannels → Members → (port : ℕ) → Planned → Tree
answer_by cs rs p (to_do k b alts) = reply_by alts (port_of b) (done_answer (whole cs (port_of b)) b)
answer_by cs rs p (to_meet k b alts w o) = reply_by alts (port_of b) (told (side_of b) (passing (whole cs (port_of b)) b))
answer_by cs rs p (to_park bs) = nil
answer_by cs rs p (to_post bs) = bool true
answer_by cs rs p (to_default v) = with_default v
answer_by cs rs p (to_make what) = port p
answer_by cs rs p (to_spawn kind r) = nil
answer_by cs rs p (to_close q) = nil
answer_by cs rs p (to_register name args) = answer_of (whole rs (registry_of args)) name (rest_of args)
answer_by cs rs p (to_print line) = nil
answer_by cs rs p (to_look w) = nil
answer_by cs rs p (to_prune q side place) = nil
answer_by cs rs p (to_refuse f) = nil

abbrev pub counts_alts : Planned → Bool
counts_alts (to_do k b alts) = alts
counts_alts (to_meet k b alts w o) = alts
counts_alts (to_default v) = true
counts_alts (to_park bs) = false
counts_alts (to_post bs) = false
counts_alts (to_make what) = false
counts_alts (to_spawn kind r) = false
counts_alts (to_close p) = false
counts_alts (to_register name args) = false
counts_alts (to_print line) = false
counts_alts (to_look w) = false
counts_alts (to_prune p side place) = false
counts_alts (to_refuse f) = false

-- an event is drawn with it
abbrev pub IsEvent : Planned → Type 0
IsEvent (to_look w) = ⊥
IsEvent (to_prune p side place) = ⊥
IsEvent (to_refuse f) = ⊥
IsEvent other = Unit {0}

-- no two keys of a toggle name one channel, and a topic that is placed is equal to itself
abbrev pub KeepsApart : Planned → Type 0
KeepsApart (to_register name args) = TogglesApart name (rest_of args) × PlacesItself name (rest_of args)
KeepsApart other = Unit {0}

module _ {A : Type 0} where
  -- the parts that the event needs beyond those that the plan was made over
  abbrev pub HasParts : Held A → Planned → Type 0
  HasParts h (to_meet k b alts w o) = IsSome h.ready
  HasParts h (to_park bs) = IsSome (waits_held h.shards (home h.new_wait))
  HasParts h (to_post bs) = IsSome (waits_held h.shards (home h.new_wait))
  HasParts h (to_make what) = IsSome (channels_held h.banks (home h.new_port)) × HasTimers what h.timers
  HasParts h (to_spawn kind r) = IsSome h.ready
  HasParts h other = Unit {0}

  -- where it stands for the clock: a timeout's moment is no earlier than the last one
  abbrev pub IsTimely : Held A → Planned → Type 0
  IsTimely h (to_make what) = IsNoEarlier what h.timers h.moment
  IsTimely h other = Unit {0}

  -- a new task is there exactly for a spawn
  abbrev pub HasSpawned : Option (Task A) → Planned → Type 0
  HasSpawned o (to_spawn kind r) = IsSome o
  HasSpawned o other = Unit {0}

  abbrev pub number_of : Option (Task A) → ℕ
  number_of None = 0
  number_of (Some t) = t.number

  -- what reserving made for the event
  abbrev pub IsMade : (A → At) → Held A → Plan → Type 0
  IsMade place h (P.Done c) = IsMadeForDone h c
  IsMade place h (P.Meet c w o) = IsMadeForMeeting place h c.of_alts w.n (branch_view c.operation)
  IsMade place h (P.Park j) = IsMadeToWait h (map branch_view (list j.branches))
  IsMade place h (P.Post j) = IsMadeToWait h (map branch_view (list j.branches))
  IsMade place h (P.Default v) = option_map view h.spare.answer ≡ Some (with_default (view v))
  IsMade place h (P.Make what) = IsMadeToMake h (what_view what)
  IsMade place h (P.Spawn kind r) = HasReadyRoom h.ready
  IsMade place h (P.Register name args again) = IsMadeToRegister h name (trees (list args))
  IsMade place h other = Unit {0}

  -- the plan is right for what is held
  abbrev pub IsRight : Held A → Planned → Type 0
  IsRight h (to_do k b alts) = IsDoneRow (whole (channels_held h.banks) (port_of b)) b
  IsRight h (to_park bs) = AreChannels (whole (channels_held h.banks)) bs
  IsRight h (to_post bs) = AreChannels (whole (channels_held h.banks)) bs
  IsRight h (to_register name args) = is_some (whole (registries_held h.banks) (registry_of args)) ≡ true
  IsRight h other = Unit {0}

  -- it is what `plan` answers for the operation at which the task is paused, made from some start
  abbrev pub IsPlanFor : (A → At) → Held A → Planned → TaskAgent A → Type 0
  IsPlanFor place h p a = (want : WantView) × (place a.agent ≡ at_op want) × (start : ℕ) × (p ≡ planned (seen h.banks h.shards) want.op start)

  -- the ready part after it
  abbrev pub ReadyBy : (A → At) → (A → Tree → A → Type 0) → Held A → Held A → Option (Task A) → Planned → Type 0
  ReadyBy place gives old new s (to_meet k b alts w o) = WakesBy place gives (whole (waits_held old.shards) w) (port_of b) (told (other_side (side_of b)) (passing (whole (channels_held old.banks) (port_of b)) b)) (ready_in old.ready) (ready_in new.ready)
  ReadyBy place gives old new s (to_spawn kind r) = (t : Task A) × (s ≡ Some t) × (ready_in new.ready ≡ option_map (λ q. q ++ task_view t ∷ []) (ready_in old.ready))
  ReadyBy place gives old new s other = ready_in new.ready ≡ ready_in old.ready

  -- the task waits, or goes on with the answer
  abbrev pub RunsBy : (A → Tree → A → Type 0) → Held A → Task A → Planned → Option (Task A) → Type 0
  RunsBy gives h t (to_park bs) o = o ≡ None
  RunsBy gives h t p None = ⊥
  RunsBy gives h t p (Some c) = (c.number ≡ t.number) × GoesOn gives (counts_alts p) (agent_of t) (answer_by (channels_held h.banks) (registries_held h.banks) h.new_port p) (agent_of c)
