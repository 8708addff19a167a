-- What a follower reads off an event before it makes one: the branch to begin with, and the numbers that the event gives.
use Rattle.std.specs.Prelude.{◌≡◌, ℕ, ◌<◌, ◌≤◌, Option, Some, None, false}
use Rattle.ca_term.specs.Operation.{WhatView, timeout}
use Rattle.ca_term.specs.Event.{EventView, made, spawned, done, met, parked, posted, settled, defaulted, closed, registered, printed, ticked, over}
use Rattle.ca_meaning.specs.TaskSteps.{moments}
use Rattle.ca_commit.specs.Contents.{whole}
use Rattle.ca_commit.specs.NewPort.{Times}
use Rattle.ca_commit.specs.Planning.{Planned, to_make, to_park, to_post, to_spawn}
use Rattle.ca_follow.specs.Has.{Has}

abbrev pub event_start : EventView → ℕ
event_start (done t k b v) = k
event_start (met t k side p v w o) = k
event_start e = 0

-- the task whose event it is
abbrev pub task_of : EventView → Option ℕ
task_of (made t p what moment) = Some t
task_of (spawned t u kind r) = Some t
task_of (done t k b v) = Some t
task_of (met t k side p v w o) = Some t
task_of (parked t w bs) = Some t
task_of (posted t w p v) = Some t
task_of (settled w k side p v) = None
task_of (defaulted t v) = Some t
task_of (closed t p) = Some t
task_of (registered t name args v) = Some t
task_of (printed t line) = Some t
task_of (ticked m ports) = None
task_of (over t how) = Some t

abbrev pub IsMomentOf : Option ℕ → ℕ → Type 0
IsMomentOf None m = Unit {0}
IsMomentOf (Some x) m = m ≡ x

-- u, p and w are the task, the port and the wait that are new with the event, and m is its moment, as far as it has them
abbrev pub Numbers : EventView → (u p w m : ℕ) → Type 0
Numbers (made t q what moment) u p w m = (p ≡ q) × IsMomentOf moment m
Numbers (spawned t v kind r) u p w m = u ≡ v
Numbers (parked t v bs) u p w m = w ≡ v
Numbers (posted t v q x) u p w m = w ≡ v
Numbers e u p w m = Unit {0}

abbrev pub IsNotBefore : Option Times → ℕ → Type 0
IsNotBefore None m = Unit {0}
IsNotBefore (Some c) m = c.now ≤ m

-- a timeout's moment is no earlier than the last one, and a moment
abbrev pub IsReading : Option Times → WhatView → ℕ → Type 0
IsReading c (timeout n) m = IsNotBefore c m × (m < moments)
IsReading c what m = Unit {0}

-- the numbers that the event of the plan gives are new
abbrev pub AreNew : {A : Type 0} → Has A → Planned → (u p w m : ℕ) → Type 0
AreNew h (to_make what) u p w m = (whole h.bank p ≡ None) × (whole h.registry p ≡ None) × IsReading h.times what m
AreNew h (to_spawn kind r) u p w m = h.known u ≡ false
AreNew h (to_park bs) u p w m = h.used w ≡ false
AreNew h (to_post bs) u p w m = h.used w ≡ false
AreNew h q u p w m = Unit {0}
