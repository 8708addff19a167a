-- What a follower's struct has, and what always holds of one.
use Rattle.std.specs.Prelude.{◌⊎◌, ◌≡◌, ℕ, [], Option, Some, None, IsSome, Bool, true, is_some, nat_eq, eqb}
use Rattle.std.specs.Map.{update}
use Rattle.indexmap.specs.IndexMap.{get}
use Rattle.indexmap.specs.IndexSet.{contains}
use Rattle.ca_value.specs.IsValue.{any}
use Rattle.ca_term.specs.Program.{IsProgram, ProgramView}
use Rattle.ca_meaning.specs.RunValues.{Holds}
use Rattle.ca_meaning.specs.State.{State}
use Rattle.ca_meaning.specs.Steps.{Step}
use Rattle.ca_meaning.specs.Body.{At, at_op, ended, faulted}
use Rattle.ca_value.specs.Tree.{Tree}
use Rattle.ca_term.specs.Event.{EventView, settled, ticked}
use Rattle.ca_term.specs.Operation.{OpView, SeedView, spawning}
use Rattle.ca_term.specs.declared.fault.Fault.{Fault}
use Rattle.ca_term.specs.declared.place.Place.{Place}
use Rattle.ca_states.specs.Code.{CodeView}
use Rattle.ca_states.specs.ValidCode.{valid_code}
use Rattle.ca_lower.specs.Gos.{SameGos}
use Rattle.ca_lower.specs.Lowered.{Lowered}
use Rattle.ca_commit.specs.Agents.{TaskAgent, starts_of}
use Rattle.ca_commit.specs.Contents.{owner, whole}
use Rattle.ca_commit.specs.Deciding.{seen_in}
use Rattle.ca_commit.specs.NewPort.{times_in}
use Rattle.ca_commit.specs.Planning.{Planned, planned, to_look, to_prune, to_refuse}
use Rattle.ca_commit.specs.Settling.{Settles, served_in}
use Rattle.ca_commit.specs.declared.settling.SettleNext.{SettleNext}
use Rattle.ca_commit.specs.Showing.{channels_held, registries_held, waits_held}
use Rattle.ca_commit.specs.Tasks.{agent_of}
use Rattle.ca_commit.specs.Waking.{IsPaused, ready_in}
use Rattle.ca_commit.specs.declared.held.Held.{Held}
use Rattle.ca_commit.specs.declared.task.Task.{Task}
use Rattle.ca_tasks.specs.Tasks.{gives, task_over_code, place, stands, starts}
use Rattle.ca_tasks.specs.declared.task.AnyTask.{AnyTask}
use Rattle.ca_follow.specs.Has.{Has, IsAll, parts_had}
use Rattle.ca_follow.specs.Applies.{Applies}
use Rattle.ca_follow.specs.Follows.{Follows, IsAt}
use Rattle.ca_follow.specs.declared.follower.Follower.{Follower}
use Rattle.ca_follow.specs.declared.tasks.Tasks.{Tasks}

-- the task of an entry, if it can go on
abbrev pub running_of : Option (Option (Task AnyTask)) → Option (TaskAgent AnyTask)
running_of None = None
running_of (Some None) = None
running_of (Some (Some t)) = Some (agent_of t)

abbrev pub running_in : Tasks → ℕ → Option (TaskAgent AnyTask)
running_in tasks t = running_of (get nat_eq tasks.entries t)

abbrev pub is_known_task : Tasks → ℕ → Bool
is_known_task tasks t = is_some (get nat_eq tasks.entries t)

abbrev pub has : Follower → Has AnyTask
has f = record {
  bank = channels_held f.held.banks;
  registry = registries_held f.held.banks;
  shard = waits_held f.held.shards;
  times = times_in f.held.timers;
  running = running_in f.tasks;
  known = is_known_task f.tasks;
  used = λ w. contains nat_eq f.waits w;
}

-- and task t, which was taken out, can go on as a
abbrev pub with_task : ℕ → TaskAgent AnyTask → Has AnyTask → Has AnyTask
with_task t a h = record h { running = update eqb h.running t (Some a) }

-- whatever can go on or waits is over the code
pub record IsOverCode (code : CodeView) (h : Has AnyTask) : Type 0 where
  pub running : (t : ℕ) (a : TaskAgent AnyTask) → h.running t ≡ Some a → task_over_code code a.agent
  pub waiting : (w u : ℕ) (a : TaskAgent AnyTask) → whole h.shard w ≡ Some (owner u a) → task_over_code code a.agent

-- it holds all parts, no task is in the ready part, and whoever waits has halted
pub record IsFollower (f : Follower) : Type 0 where
  pub all : IsAll (has f)
  pub timers : IsSome f.held.timers
  pub ready : ready_in f.held.ready ≡ Some []
  pub over_code : IsOverCode (valid_code f.code.now) (has f)
  pub paused : (w : ℕ) → IsPaused place (whole (waits_held f.held.shards) w)

-- its code is that of the program
pub record IsMadeFor (program : ProgramView) (code : CodeView) : Type 0 where
  pub checked : IsProgram program
  pub lowered : Lowered program code
  pub gos : SameGos program code

-- what is had stands for a state of a run, whose values are values
pub record FollowerStands (program : ProgramView) (h : Has AnyTask) (s : State) : Type 0 where
  pub follows : Follows place stands program h s
  pub values : Holds any s

-- task t, which was taken out, is paused where its body stands
pub record IsBehind (program : ProgramView) (h : Has AnyTask) (t : ℕ) (a : TaskAgent AnyTask) (s : State) : Type 0 where
  pub out : h.running t ≡ None
  pub here : IsAt place stands program (with_task t a h) s t a
  pub stands : FollowerStands program (with_task t a h) s

-- the event leads from each state that this stood for to one that it stands for
abbrev pub Leads : CodeView → EventView → Has AnyTask → Has AnyTask → Type 0
Leads code e h h2 = (program : ProgramView) (s : State) → IsMadeFor program code → FollowerStands program h s → (s2 : State) × Step program s e s2 × FollowerStands program h2 s2

abbrev pub Refuses : CodeView → EventView → Has AnyTask → Type 0
Refuses code e h = (program : ProgramView) (s s2 : State) → IsMadeFor program code → FollowerStands program h s → Step program s e s2 → ⊥

-- the same where task t was taken out and is paused as a
abbrev pub LeadsBehind : CodeView → EventView → Has AnyTask → ℕ → TaskAgent AnyTask → Has AnyTask → Type 0
LeadsBehind code e h t a h2 = (program : ProgramView) (s : State) → IsMadeFor program code → IsBehind program h t a s → (s2 : State) × Step program s e s2 × FollowerStands program h2 s2

abbrev pub RefusesBehind : CodeView → EventView → Has AnyTask → ℕ → TaskAgent AnyTask → Type 0
RefusesBehind code e h t a = (program : ProgramView) (s s2 : State) → IsMadeFor program code → IsBehind program h t a s → Step program s e s2 → ⊥

abbrev pub HasEndedAt : At → Type 0
HasEndedAt at = (v : Tree) × (at ≡ ended v)

-- the plan of task t's operation, where it is taken out and stands as a, is refused by the fault
abbrev pub IsPlanRefused : Has AnyTask → TaskAgent AnyTask → Fault → Place → Type 0
IsPlanRefused h a f at = (op : OpView) × (start : ℕ) × (place a.agent ≡ at_op (record { op = op; place = at })) × (planned (seen_in (parts_had h)) op start ≡ to_refuse f)

-- it has faulted there, or its operation is refused
abbrev pub MayFault : Has AnyTask → TaskAgent AnyTask → Fault → Place → Type 0
MayFault h a f at = (place a.agent ≡ faulted f at) ⊎ IsPlanRefused h a f at

-- what `plan` answers, the branches being looked at from that number on, for the operation at which the task stands
abbrev pub IsPlanOf : Has AnyTask → TaskAgent AnyTask → ℕ → Planned → Type 0
IsPlanOf h a start q = (op : OpView) × (at : Place) × (place a.agent ≡ at_op (record { op = op; place = at })) × (q ≡ planned (seen_in (parts_had h)) op start)

-- all parts are held and no stale handler stands in the way, so it is an event or a fault
abbrev pub IsDecided : Planned → Type 0
IsDecided (to_look w) = ⊥
IsDecided (to_prune p side i) = ⊥
IsDecided q = Unit {0}

-- it stands for the states that it stood for, task t being taken out
abbrev pub KeepsBehind : Has AnyTask → Has AnyTask → ℕ → TaskAgent AnyTask → Type 0
KeepsBehind h h2 t a = (program : ProgramView) (s : State) → IsBehind program h t a s → IsBehind program h2 t a s

-- the new task is that of the seed at which the other one stands
abbrev pub StartsFromSeed : CodeView → TaskAgent AnyTask → TaskAgent AnyTask → Type 0
StartsFromSeed code a c = (program : ProgramView) (seed : SeedView) (at : Place) → IsMadeFor program code → place a.agent ≡ at_op (record { op = spawning seed; place = at }) → starts_of starts program seed c

-- it is that task, under its number, and over the code
pub record IsSpawnedTask (code : CodeView) (a : TaskAgent AnyTask) (u : ℕ) (t : Task AnyTask) : Type 0 where
  pub number : t.number ≡ u
  pub starts : StartsFromSeed code a (agent_of t)
  pub over_code : task_over_code code t.agent

-- the task was taken out, and is known, as whoever waits is
pub record KnowsTask (h : Has AnyTask) (t : ℕ) : Type 0 where
  pub out : h.running t ≡ None
  pub own : h.known t ≡ true
  pub waiting : (w u : ℕ) (a : TaskAgent AnyTask) → whole h.shard w ≡ Some (owner u a) → h.known u ≡ true

-- how many alts a task did is nothing to a follower
abbrev pub without_alts : TaskAgent AnyTask → TaskAgent AnyTask
without_alts a = record { result = a.result; alts = 0; agent = a.agent }

-- the plan's event was made, with the numbers that were held
abbrev pub AppliedFor : CodeView → Planned → ℕ → Held AnyTask → TaskAgent AnyTask → Has AnyTask → Has AnyTask → Type 0
AppliedFor code q t held a h h2 = (program : ProgramView) (op : OpView) (at : Place) → IsMadeFor program code → place a.agent ≡ at_op (record { op = op; place = at })
    → Applies place gives starts program op q t held.new_task held.new_port held.new_wait held.moment (without_alts a) (with_task t (without_alts a) h) h2

abbrev pub IsSettleOf : ℕ → EventView → Type 0
IsSettleOf q (settled w k side p v) = p ≡ q
IsSettleOf q e = ⊥

abbrev pub IsTickOf : ℕ → EventView → Type 0
IsTickOf n (ticked m ports) = m ≡ n
IsTickOf n e = ⊥

abbrev pub IsDecidedNext : SettleNext → Type 0
IsDecidedNext SettleNext.None = Unit {0}
IsDecidedNext (SettleNext.Settled e) = Unit {0}
IsDecidedNext (SettleNext.Look w) = ⊥
IsDecidedNext (SettleNext.Prune p side i) = ⊥

abbrev pub IsPrune : SettleNext → Type 0
IsPrune SettleNext.None = ⊥
IsPrune (SettleNext.Settled e) = ⊥
IsPrune (SettleNext.Look w) = ⊥
IsPrune (SettleNext.Prune p side i) = Unit {0}

-- Channel p settled once, or it rests or would serve a stale handler, where `between` is what reserving for it left: it stands
-- for what the old one stood for.
pub record SettledBy (old new : Follower) (p : ℕ) (next : SettleNext) : Type 0 where
  pub between : Follower
  pub follower : IsFollower between
  pub stands : (program : ProgramView) (s : State) → FollowerStands program (has old) s → FollowerStands program (has between) s
  pub settles : Settles place gives between.held new.held p (served_in between.held p) next
  pub tasks : new.tasks ≡ between.tasks
  pub waits : new.waits ≡ between.waits
  pub code : new.code ≡ between.code
