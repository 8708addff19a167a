-- What an admitted event finds in the state: the steps' premises, without what becomes of the bodies.
use Rattle.std.specs.Prelude.{◌≡◌, ◌≢◌, ℕ, ◌<◌, ◌≤◌, List, [], ◌∷◌, Option, Some, None, option_map, Bool, true, false}
use Rattle.ca_value.specs.Tree.{Tree, Trees, port}
use Rattle.ca_term.specs.declared.place.Place.{Place}
use Rattle.ca_term.specs.declared.fault.Fault.{Fault}
use Rattle.ca_term.specs.declared.event.Side.{Side}
use Rattle.ca_term.specs.declared.event.Side.TheVariants.{Take, Put}
use Rattle.ca_term.specs.declared.event.Ending.TheVariants.{Ended, Faulted}
use Rattle.ca_term.specs.declared.head.RegisterName.{RegisterName}
use Rattle.ca_term.specs.declared.event.TaskKind.{TaskKind}
use Rattle.ca_term.specs.Operation.{OpView, SeedView, WhatView, making, spawning, closing, registering, printing, posting}
use Rattle.ca_term.specs.Event.{BranchView, put_of, EventView, made, spawned, done, met, parked, posted, settled, defaulted, closed, registered, printed, ticked, over as is_over, port_number}
use Rattle.ca_meaning.specs.Body.{ended}
use Rattle.ca_meaning.specs.Channel.{Channel}
use Rattle.ca_meaning.specs.Registry.{Registry, answers}
use Rattle.ca_meaning.specs.Wait.{Handler, side_of, port_of, front, owner_of, is_among}
use Rattle.ca_meaning.specs.Row.{completes, meets, settles, settle_row}
use Rattle.ca_meaning.specs.Task.{body_at}
use Rattle.ca_meaning.specs.State.{State, Task, waiting, due}
use Rattle.ca_meaning.specs.TaskSteps.{IsMoment, moments, kind_of, result_of}
use Rattle.ca_meaning.specs.Choice.{branches_of, default_of, parks, row, NoneReady, Picks}
use Rattle.ca_meaning.specs.Going.{Runs, RunsAtOperation}
use Rattle.ca_meaning.specs.Refusal.{registering_gives, fault_at}

-- the owner of the wait, if it has one, waits on it
abbrev pub Woken : State → ℕ → Option ℕ → Type 0
Woken s w None = Unit {0}
Woken s w (Some u) = (x : Task) × (s.tasks u ≡ Some x) × (x.mode ≡ waiting w)

abbrev pub Admitted : State → EventView → Type 0
Admitted s (made t p what m) = (x : Task) × RunsAtOperation s t (making what) x × (s.channels p ≡ None) × (s.registries p ≡ None) × IsMoment s.now what m
Admitted s (spawned t u kind result) = (x : Task) × (seed : SeedView) × RunsAtOperation s t (spawning seed) x × (s.tasks u ≡ None) × (kind_of seed ≡ kind) × (result_of seed ≡ result)
Admitted s (done t k b a) = (x : Task) × (op : OpView) × (after : Channel) × RunsAtOperation s t op x × Picks s op k b × (row s b ≡ completes a after)
Admitted s (met t k side p v w o) =
    (x : Task) × (op : OpView) × (b : BranchView) × (h : Handler) × RunsAtOperation s t op x × Picks s op k b × (side_of b ≡ side) × (port_of b ≡ p) × (row s b ≡ meets h v) × (h.wait ≡ w) × (h.branch ≡ o) × Woken s w (owner_of w s.waits)
Admitted s (parked t w bs) =
    (x : Task) × (op : OpView) × RunsAtOperation s t op x × (parks op ≡ true) × (branches_of op ≡ bs) × (default_of op ≡ None) × NoneReady s bs × (is_among w s.used ≡ false)
Admitted s (posted t w p v) = (x : Task) × RunsAtOperation s t (posting (port p) v) x × NoneReady s (put_of p v ∷ []) × (is_among w s.used ≡ false)
Admitted s (settled w k side p v) =
    (c after : Channel) × (h : Handler) × (s.channels p ≡ Some c) × (settle_row c (front Take p s.waits) (front Put p s.waits) ≡ settles side h v after) × (h.wait ≡ w) × (h.branch ≡ k) × Woken s w (owner_of w s.waits)
Admitted s (defaulted t v) = (x : Task) × (op : OpView) × RunsAtOperation s t op x × (default_of op ≡ Some v) × NoneReady s (branches_of op)
Admitted s (closed t p) = (x : Task) × RunsAtOperation s t (closing (port p)) x
Admitted s (registered t name args v) = (x : Task) × (r : Registry) × RunsAtOperation s t (registering name args) x × (registering_gives s name args ≡ answers v r)
Admitted s (printed t line) = (x : Task) × RunsAtOperation s t (printing line) x
Admitted s (ticked m ports) = (s.now ≤ m) × (m < moments) × (due m s.deadlines ≡ ports) × (ports ≢ [])
Admitted s (is_over t Ended) = (x : Task) × (v : Tree) × Runs s.tasks t x × (body_at x.body ≡ ended v)
Admitted s (is_over t (Faulted f p r)) = (x : Task) × Runs s.tasks t x × (fault_at s (body_at x.body) ≡ Some (f, p)) × (x.result ≡ option_map port_number r)
