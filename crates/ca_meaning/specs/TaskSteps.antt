-- The other events: what is made and started, registries, lines, the clock, and the ends of tasks.
-- (core.async API reference: `chan`, `go`, `timeout`, `mult`, `mix`, `pub`.)
use Rattle.std.specs.Prelude.{◌≡◌, ◌≢◌, ℕ, ◌+◌, ◌-◌, ◌^◌, ◌<◌, ◌≤◌, min, List, [], ◌∷◌, Option, Some, None, unwrap_or}
use Rattle.std.specs.Map.{update}
use Rattle.std.proofs.Math.Dec.{eqb}
use Rattle.ca_value.specs.Tree.{Tree, Trees, nil, port}
use Rattle.ca_term.specs.declared.place.Place.{Place}
use Rattle.ca_term.specs.declared.fault.Fault.{Fault}
use Rattle.ca_term.specs.declared.head.RegisterName.{RegisterName}
use Rattle.ca_term.specs.declared.event.TaskKind.{TaskKind}
use Rattle.ca_term.specs.declared.head.SystemTask.{SystemTask}
use Rattle.ca_term.specs.declared.head.SystemTask.TheVariants.{Onto, Collect}
use Rattle.ca_term.specs.Operation.{WhatView, unbuffered, fixed, dropping, sliding, promise, timeout, mult, mix, publication, SeedView, go, system, making, spawning, registering, printing}
use Rattle.ca_term.specs.Program.{ProgramView}
use Rattle.ca_meaning.specs.Body.{ended}
use Rattle.ca_meaning.specs.Operands.{port_of_value, first_of, values_in}
use Rattle.ca_meaning.specs.Channel.{channel_made}
use Rattle.ca_meaning.specs.Registry.{Registry, registry_made, answers}
use Rattle.ca_meaning.specs.Task.{TaskBody, body_at, BodyRest, new_task}
use Rattle.ca_meaning.specs.State.{State, Task, Tasks, over, runs, Deadline, shut_all, shut_result, opened, due, open_after}
use Rattle.ca_meaning.specs.Refusal.{registering_gives, fault_at}
use Rattle.ca_meaning.specs.Going.{Runs, RunsAtOperation, Goes}

-- moments are below it
abbrev pub moments : ℕ
moments = 2 ^ 62

-- a timeout's Make shows a reading of the clock, the others none
abbrev pub IsMoment : ℕ → WhatView → Option ℕ → Type 0
IsMoment now (timeout n) (Some m) = (now ≤ m) × (m < moments)
IsMoment now (timeout n) None = ⊥
IsMoment now unbuffered m = m ≡ None
IsMoment now (fixed n) m = m ≡ None
IsMoment now (dropping n) m = m ≡ None
IsMoment now (sliding n) m = m ≡ None
IsMoment now promise m = m ≡ None
IsMoment now (mult source) m = m ≡ None
IsMoment now (mix out changes) m = m ≡ None
IsMoment now (publication source) m = m ≡ None

-- a timeout opens a deadline for its channel
abbrev pub with_deadline : ℕ → WhatView → ℕ → List Deadline → List Deadline
with_deadline p (timeout n) m ds = opened (record { moment = min (m + n) (moments - 1); port = p }) ds
with_deadline p what m ds = ds

-- task t makes the new port p; where its clock shows a moment, it is that moment now
abbrev pub MakeStep : ProgramView → State → ℕ → ℕ → WhatView → Option ℕ → State → Type 0
MakeStep program s t p what moment s2 =
    (x : Task) × (tasks : Tasks)
    × RunsAtOperation s t (making what) x
    × (s.channels p ≡ None)
    × (s.registries p ≡ None)
    × IsMoment s.now what moment
    × Goes program s.tasks t x (port p) tasks
    × (s2 ≡ record s {
      tasks = tasks;
      channels = update eqb s.channels p (channel_made what);
      registries = update eqb s.registries p (registry_made what);
      deadlines = with_deadline p what (unwrap_or moment s.now) s.deadlines;
      now = unwrap_or moment s.now;
    })

-- a system task's kind without its function
abbrev pub kind_of_system : SystemTask → TaskKind
kind_of_system SystemTask.Mult = TaskKind.Mult
kind_of_system SystemTask.Deliver = TaskKind.Deliver
kind_of_system SystemTask.Mix = TaskKind.Mix
kind_of_system (SystemTask.Pub f) = TaskKind.Pub
kind_of_system SystemTask.Pipe = TaskKind.Pipe
kind_of_system SystemTask.Merge = TaskKind.Merge
kind_of_system Onto = TaskKind.Onto
kind_of_system SystemTask.Feed = TaskKind.Feed
kind_of_system (SystemTask.Job xf f) = TaskKind.Job
kind_of_system Collect = TaskKind.Collect

abbrev pub kind_of : SeedView → TaskKind
kind_of (go n values result place) = TaskKind.Go
kind_of (system kind values place) = kind_of_system kind

-- the last of the values, which is a port
abbrev pub last_port : List Tree → Option ℕ
last_port [] = None
last_port (v ∷ []) = Some (port_of_value v)
last_port (v ∷ (w ∷ vs)) = last_port (w ∷ vs)

-- of the system's tasks onto and collect have a result port, which is their last value
abbrev pub result_of_system : SystemTask → Trees → Option ℕ
result_of_system Onto values = last_port (values_in values)
result_of_system Collect values = last_port (values_in values)
result_of_system kind values = None

abbrev pub result_of : SeedView → Option ℕ
result_of (go n values result place) = Some result
result_of (system kind values place) = result_of_system kind values

-- task t starts the new task u
abbrev pub SpawnStep : ProgramView → State → ℕ → ℕ → TaskKind → Option ℕ → State → Type 0
SpawnStep program s t u kind result s2 =
    (x : Task) × (seed : SeedView) × (tasks : Tasks) × (b : TaskBody)
    × RunsAtOperation s t (spawning seed) x
    × (s.tasks u ≡ None)
    × (kind_of seed ≡ kind)
    × (result_of seed ≡ result)
    × Goes program s.tasks t x nil tasks
    × BodyRest program (new_task program seed) b
    × (s2 ≡ record s { tasks = update eqb tasks u (Some (runs result b)) })

-- task t's operation on a registry, the port of which is its first argument
abbrev pub RegisterStep : ProgramView → State → ℕ → RegisterName → Trees → Tree → State → Type 0
RegisterStep program s t name args v s2 =
    (x : Task) × (r : Registry) × (tasks : Tasks)
    × RunsAtOperation s t (registering name args) x
    × (registering_gives s name args ≡ answers v r)
    × Goes program s.tasks t x v tasks
    × (s2 ≡ record s { tasks = tasks; registries = update eqb s.registries (port_of_value (first_of args)) (Some r) })

abbrev pub PrintStep : ProgramView → State → ℕ → List ℕ → State → Type 0
PrintStep program s t line s2 =
    (x : Task) × (tasks : Tasks) × RunsAtOperation s t (printing line) x × Goes program s.tasks t x nil tasks × (s2 ≡ record s { tasks = tasks })

-- the clock reaches the moment m, and exactly the channels that are due close
abbrev pub TickStep : State → ℕ → List ℕ → State → Type 0
TickStep s m ports s2 =
    (s.now ≤ m) × (m < moments) × (due m s.deadlines ≡ ports) × (ports ≢ [])
    × (s2 ≡ record s { channels = shut_all ports s.channels; deadlines = open_after m s.deadlines; now = m })

-- task t's body has a value
abbrev pub EndStep : State → ℕ → State → Type 0
EndStep s t s2 =
    (x : Task) × (v : Tree) × Runs s.tasks t x × (body_at x.body ≡ ended v) × (s2 ≡ record s { tasks = update eqb s.tasks t (Some (record x { mode = over })) })

-- task t faults: it is over, and its result port, if it has one, is closed
abbrev pub FaultStep : State → ℕ → Fault → Place → Option ℕ → State → Type 0
FaultStep s t fault place result s2 =
    (x : Task) × Runs s.tasks t x × (fault_at s (body_at x.body) ≡ Some (fault, place)) × (x.result ≡ result)
    × (s2 ≡ record s { tasks = update eqb s.tasks t (Some (record x { mode = over })); channels = shut_result result s.channels })
