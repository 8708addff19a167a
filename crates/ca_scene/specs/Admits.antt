-- Which events a state admits, as a function: it needs no program, since each body stands at rest. An event that is
-- admitted leads to one state, and one that isn't leads to none.
use Rattle.std.specs.Prelude.{ℕ, zero, suc, List, [], ◌∷◌, slice_get, Option, Some, None, is_some, Bool, true, false, not, ◌&&◌, ◌||◌, cond, eqb, nat_le, nat_lt, option_map}
use Rattle.std.specs.Str.{bytes_eq}
use Rattle.ca_value.specs.Tree.{Tree, Trees, port}
use Rattle.ca_term.specs.declared.place.Place.{Place}
use Rattle.ca_term.specs.declared.fault.Fault.{Fault}
use Rattle.ca_term.specs.declared.event.Side.{Side}
use Rattle.ca_term.specs.declared.event.Side.TheVariants.{Take, Put}
use Rattle.ca_term.specs.declared.event.Ending.TheVariants.{Ended, Faulted}
use Rattle.ca_term.specs.declared.event.TaskKind.{TaskKind}
use Rattle.ca_term.specs.declared.head.RegisterName.{RegisterName}
use Rattle.ca_term.specs.Operation.{OpView, SeedView, spawning, registering, WhatView, unbuffered, fixed, dropping, sliding, promise, timeout, mult, mix, publication, making, closing, printing, posting}
use Rattle.ca_term.specs.Event.{BranchView, put_of, EventView, made, spawned, done, met, parked, posted, settled, defaulted, closed, registered, printed, ticked, over as is_over, port_number}
use Rattle.ca_meaning.specs.Body.{At, local, at_op, ended, faulted, nowhere}
use Rattle.ca_meaning.specs.Channel.{Channel}
use Rattle.ca_meaning.specs.Wait.{Handler, side_of, port_of, front, owner_of, is_among}
use Rattle.ca_meaning.specs.Row.{Row, not_ready, completes, meets, Settling, unsettled, settles, settle_row}
use Rattle.ca_meaning.specs.Task.{TaskBody, body_at}
use Rattle.ca_meaning.specs.State.{State, Task, Mode, running, waiting, over, due}
use Rattle.ca_meaning.specs.TaskSteps.{moments, kind_of, result_of}
use Rattle.ca_registry.specs.Gives.{gives_answer}
use Rattle.ca_meaning.specs.Choice.{branches_of, has_priority, default_of, parks, row, is_ready, any_ready}
use Rattle.ca_meaning.specs.Refusal.{refusal, fault_at, registering_gives}
use Rattle.ca_scene.specs.Same.{same, same_side, same_branch, same_branches, same_numbers, same_number, same_what, same_items, same_fault, same_place, same_name, same_kind}

-- The operation that a task stands at, where it runs and doesn't fault there.
abbrev pub op_of : At → Option OpView
op_of (at_op w) = Some w.op
op_of a = None

abbrev pub asked_in : Mode → TaskBody → Option OpView
asked_in running b = op_of (body_at b)
asked_in (waiting w) b = None
asked_in over b = None

abbrev pub asked_by : Option Task → Option OpView
asked_by None = None
asked_by (Some x) = asked_in x.mode x.body

abbrev pub unless_fault : Option Fault → OpView → Option OpView
unless_fault None op = Some op
unless_fault (Some f) op = None

abbrev pub not_refused : State → Option OpView → Option OpView
not_refused s None = None
not_refused s (Some op) = unless_fault (refusal s op) op

abbrev pub asks : State → ℕ → Option OpView
asks s t = not_refused s (asked_by (s.tasks t))

-- Tests of the operation.
abbrev pub prints : List ℕ → Option OpView → Bool
prints line (Some (printing l)) = bytes_eq line l
prints line o = false

abbrev pub is_port_value : ℕ → Tree → Bool
is_port_value p (port q) = eqb p q
is_port_value p v = false

abbrev pub operation_closes : ℕ → Option OpView → Bool
operation_closes p (Some (closing c)) = is_port_value p c
operation_closes p o = false

abbrev pub posts : ℕ → Tree → Option OpView → Bool
posts p v (Some (posting c u)) = is_port_value p c && same v u
posts p v o = false

abbrev pub operation_makes : WhatView → Option OpView → Bool
operation_makes what (Some (making w)) = same_what what w
operation_makes what o = false

-- a timeout's Make shows a reading of the clock, the others none
abbrev pub is_reading : ℕ → Option ℕ → Bool
is_reading now None = false
is_reading now (Some m) = nat_le now m && nat_lt m moments

abbrev pub is_moment : ℕ → WhatView → Option ℕ → Bool
is_moment now (timeout n) m = is_reading now m
is_moment now unbuffered m = not (is_some m)
is_moment now (fixed n) m = not (is_some m)
is_moment now (dropping n) m = not (is_some m)
is_moment now (sliding n) m = not (is_some m)
is_moment now promise m = not (is_some m)
is_moment now (mult source) m = not (is_some m)
is_moment now (mix out changes) m = not (is_some m)
is_moment now (publication source) m = not (is_some m)

-- One branch of an operation.
abbrev pub completes_with : Tree → Row → Bool
completes_with a (completes b after) = same a b
completes_with a not_ready = false
completes_with a (meets h v) = false

abbrev pub meets_so : Tree → ℕ → ℕ → Row → Bool
meets_so v w o (meets h u) = same v u && (eqb h.wait w && eqb h.branch o)
meets_so v w o not_ready = false
meets_so v w o (completes a after) = false

-- some branch before the k-th is ready
abbrev pub ready_before : State → ℕ → List BranchView → Bool
ready_before s zero bs = false
ready_before s (suc k) [] = false
ready_before s (suc k) (b ∷ bs) = cond (is_ready (row s b)) true (ready_before s k bs)

abbrev pub may_pick : State → OpView → ℕ → Bool
may_pick s op k = not (has_priority op && ready_before s k (branches_of op))

abbrev pub is_branch : BranchView → Option BranchView → Bool
is_branch b None = false
is_branch b (Some c) = same_branch b c

abbrev pub completes_branch : State → ℕ → BranchView → Tree → Option OpView → Bool
completes_branch s k b a None = false
completes_branch s k b a (Some op) = is_branch b (slice_get (branches_of op) k) && (may_pick s op k && completes_with a (row s b))

abbrev pub meets_at : State → Side → ℕ → Tree → ℕ → ℕ → Option BranchView → Bool
meets_at s side p v w o None = false
meets_at s side p v w o (Some b) = same_side (side_of b) side && (eqb (port_of b) p && meets_so v w o (row s b))

abbrev pub meets_by : State → ℕ → Side → ℕ → Tree → ℕ → ℕ → Option OpView → Bool
meets_by s k side p v w o None = false
meets_by s k side p v w o (Some op) = may_pick s op k && meets_at s side p v w o (slice_get (branches_of op) k)

-- the owner of the wait, if it has one, waits on it
abbrev pub is_waiting : ℕ → Mode → Bool
is_waiting w running = false
is_waiting w (waiting v) = eqb v w
is_waiting w over = false

abbrev pub waits_on : ℕ → Option Task → Bool
waits_on w None = false
waits_on w (Some x) = is_waiting w x.mode

abbrev pub owner_waits : State → ℕ → Option ℕ → Bool
owner_waits s w None = true
owner_waits s w (Some u) = waits_on w (s.tasks u)

abbrev pub can_wake : State → ℕ → Bool
can_wake s w = owner_waits s w (owner_of w s.waits)

abbrev pub is_new : State → ℕ → Bool
is_new s w = not (is_among w s.used)

abbrev pub parks_on : State → List BranchView → Option OpView → Bool
parks_on s bs None = false
parks_on s bs (Some op) = parks op && (same_branches bs (branches_of op) && (not (is_some (default_of op)) && not (any_ready s (branches_of op))))

abbrev pub is_default : Tree → Option Tree → Bool
is_default v None = false
is_default v (Some u) = same v u

abbrev pub defaults_to : State → Tree → Option OpView → Bool
defaults_to s v None = false
defaults_to s v (Some op) = is_default v (default_of op) && not (any_ready s (branches_of op))

-- what a channel settles
abbrev pub settling_in : Option Channel → Option Handler → Option Handler → Settling
settling_in None taker putter = unsettled
settling_in (Some c) taker putter = settle_row c taker putter

abbrev pub settling_at : State → ℕ → Settling
settling_at s p = settling_in (s.channels p) (front Take p s.waits) (front Put p s.waits)

abbrev pub settles_so : ℕ → ℕ → Side → Tree → Settling → Bool
settles_so w k side v unsettled = false
settles_so w k side v (settles sd h u after) = same_side sd side && (same v u && (eqb h.wait w && eqb h.branch k))

abbrev pub seeds : TaskKind → Option ℕ → SeedView → Bool
seeds kind result seed = same_kind (kind_of seed) kind && same_number (result_of seed) result

abbrev pub spawns : TaskKind → Option ℕ → Option OpView → Bool
spawns kind result (Some (spawning seed)) = seeds kind result seed
spawns kind result o = false

abbrev pub registers : RegisterName → Trees → Option OpView → Bool
registers name args (Some (registering n vs)) = same_name name n && same_items args vs
registers name args o = false

-- where a task that runs stands
abbrev pub standing_in : Mode → TaskBody → Option At
standing_in running b = Some (body_at b)
standing_in (waiting w) b = None
standing_in over b = None

abbrev pub standing_of : Option Task → Option At
standing_of None = None
standing_of (Some x) = standing_in x.mode x.body

abbrev pub is_ended : Option At → Bool
is_ended (Some (ended v)) = true
is_ended a = false

abbrev pub is_fault : Fault → Place → Option (Fault × Place) → Bool
is_fault f p None = false
is_fault f p (Some g) = same_fault f g.0 && same_place p g.1

abbrev pub faults_at : State → Fault → Place → Option At → Bool
faults_at s f p None = false
faults_at s f p (Some a) = is_fault f p (fault_at s a)

abbrev pub has_result : Option ℕ → Option Task → Bool
has_result r None = false
has_result r (Some x) = same_number x.result r

abbrev pub has_none : List ℕ → Bool
has_none [] = true
has_none (n ∷ ns) = false

-- the state admits the event
abbrev pub admits : State → EventView → Bool
admits s (made t p what m) = operation_makes what (asks s t) && (not (is_some (s.channels p)) && (not (is_some (s.registries p)) && is_moment s.now what m))
admits s (spawned t u kind result) = spawns kind result (asks s t) && not (is_some (s.tasks u))
admits s (done t k b a) = completes_branch s k b a (asks s t)
admits s (met t k side p v w o) = meets_by s k side p v w o (asks s t) && can_wake s w
admits s (parked t w bs) = parks_on s bs (asks s t) && is_new s w
admits s (posted t w p v) = posts p v (asks s t) && (not (any_ready s (put_of p v ∷ [])) && is_new s w)
admits s (settled w k side p v) = settles_so w k side v (settling_at s p) && can_wake s w
admits s (defaulted t v) = defaults_to s v (asks s t)
admits s (closed t p) = operation_closes p (asks s t)
admits s (registered t name args v) = registers name args (asks s t) && gives_answer v (registering_gives s name args)
admits s (printed t line) = prints line (asks s t)
admits s (ticked m ports) = nat_le s.now m && (nat_lt m moments && (same_numbers (due m s.deadlines) ports && not (has_none ports)))
admits s (is_over t Ended) = is_ended (standing_of (s.tasks t))
admits s (is_over t (Faulted f p r)) = faults_at s f p (standing_of (s.tasks t)) && has_result (option_map port_number r) (s.tasks t)
