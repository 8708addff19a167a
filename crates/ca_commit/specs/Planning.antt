-- What an operation becomes, as far as the held parts tell.
use Rattle.std.specs.Prelude.{ℕ, ◌+◌, ◌%◌, List, [], ◌∷◌, length, take, drop, Option, Some, None, Bool, true, false, cond, nat_lt}
use Rattle.ca_value.specs.Tree.{Tree, Trees}
use Rattle.ca_term.specs.declared.fault.Fault.{Fault}
use Rattle.ca_term.specs.declared.event.Side.{Side}
use Rattle.ca_term.specs.declared.head.RegisterName.{RegisterName}
use Rattle.ca_term.specs.declared.event.TaskKind.{TaskKind}
use Rattle.ca_term.specs.Operation.{OpView, WhatView, taking, putting, choosing, making, spawning, closing, registering, printing, posting}
use Rattle.ca_term.specs.Event.{BranchView}
use Rattle.ca_meaning.specs.Operands.{port_of_value}
use Rattle.ca_meaning.specs.Registry.{Registry}
use Rattle.ca_meaning.specs.Wait.{Handler, side_of, port_of}
use Rattle.ca_meaning.specs.State.{State}
use Rattle.ca_meaning.specs.TaskSteps.{kind_of, result_of}
use Rattle.ca_meaning.specs.Choice.{branches_of, default_of, has_priority, parks}
use Rattle.ca_meaning.specs.Refusal.{unfit, crowd_of}
use Rattle.ca_bank.specs.Kept.{queue_at}
use Rattle.ca_commit.specs.Contents.{Kept, channel_of}
use Rattle.ca_commit.specs.Holds.{groups}
use Rattle.ca_commit.specs.Finding.{Finding, Glance, alone, find_at, gone, here, partner, stale, unheld, unready, unseen}

-- what the held parts show: the ports of the held banks, and what they tell of a wait
pub record Seen : Type 0 where
  pub ports : ℕ → Option Kept
  pub registries : ℕ → Option Registry
  pub see : ℕ → Glance

-- the state that has these ports, and nothing else
abbrev pub state_of : (ℕ → Option Kept) → (ℕ → Option Registry) → State
state_of ports registries = record { tasks = λ n. None; channels = λ p. channel_of (ports p); registries = registries; deadlines = []; now = 0; waits = []; used = [] }

-- what an operation becomes, with what its event tells of it
pub data Planned : Type 0 where
  -- branch k, which is b, is done; of an alts, whose task gets the port too, or not
  to_do : (k : ℕ) (b : BranchView) (of_alts : Bool) → Planned
  -- branch k, which is b, meets branch o of wait w
  to_meet : (k : ℕ) (b : BranchView) (of_alts : Bool) (w o : ℕ) → Planned
  -- a task waits, or a put without its task
  to_park : List BranchView → Planned
  to_post : List BranchView → Planned
  to_default : Tree → Planned
  to_make : WhatView → Planned
  to_spawn : TaskKind → Option ℕ → Planned
  to_close : ℕ → Planned
  to_register : RegisterName → Trees → Planned
  to_print : List ℕ → Planned
  -- the decision hangs on a wait whose shard isn't held, or on a stale handler at a place of a queue
  to_look : ℕ → Planned
  to_prune : (p : ℕ) (side : Side) (place : ℕ) → Planned
  to_refuse : Fault → Planned

-- what the finding of branch k makes of the operation; rest is where it isn't ready
abbrev pub decided : Finding → Bool → ℕ → BranchView → Planned → Planned
decided unready alts k b rest = rest
decided alone alts k b rest = to_do k b alts
decided (partner w o) alts k b rest = to_meet k b alts w o
decided (stale side) alts k b rest = to_prune (port_of b) side 0
decided (unheld w) alts k b rest = to_look w

abbrev pub is_alts : OpView → Bool
is_alts (choosing ports priority default) = true
is_alts op = false

-- the wait of a handler
abbrev pub handler_wait : Option Handler → Option ℕ
handler_wait None = None
handler_wait (Some h) = Some h.wait

-- a handler at a place of a queue is asked; rest is where it is live
abbrev pub handler_asked : Glance → ℕ → Side → ℕ → ℕ → Planned → Planned
handler_asked here p side place w rest = rest
handler_asked gone p side place w rest = to_prune p side place
handler_asked unseen p side place w rest = to_look w

abbrev pub found_of : Seen → BranchView → Finding
found_of x b = find_at x.see (x.ports (port_of b)) b

module _ (x : Seen) where
  -- the branches in turn, which are numbered from k on; rest is where none is ready
  abbrev pub in_turn : Bool → ℕ → List BranchView → Planned → Planned
  in_turn alts k [] rest = rest
  in_turn alts k (b ∷ bs) rest = decided (found_of x b) alts k b (in_turn alts (k + 1) bs rest)

  -- the branches from number k on, and then those before it
  abbrev pub first_from : Bool → ℕ → List BranchView → Planned → Planned
  first_from alts k bs rest = in_turn alts k (drop k bs) (in_turn alts 0 (take k bs) rest)

  -- the handlers of a queue from a place on are asked in turn; rest is where all are live
  abbrev pub all_asked : ℕ → Side → ℕ → List Handler → Planned → Planned
  all_asked p side place [] rest = rest
  all_asked p side place (h ∷ q) rest = handler_asked (x.see h.wait) p side place h.wait (all_asked p side (place + 1) q rest)

  -- a long queue is counted by its waits, all of which are live then
  abbrev pub queue_counted : Side → ℕ → List Handler → Planned → Planned
  queue_counted side p q rest = cond (nat_lt (length q) 1024) rest (all_asked p side 0 q (cond (nat_lt (groups q) 1024) rest (to_refuse (crowd_of side))))

  -- the queue that a branch would join
  abbrev pub counted_for : BranchView → Planned → Planned
  counted_for b rest = queue_counted (side_of b) (port_of b) (queue_at (side_of b) (x.ports (port_of b))) rest

  -- each queue that a new wait would join, in order; rest is where each has a place for it
  abbrev pub all_counted : List BranchView → Planned → Planned
  all_counted [] rest = rest
  all_counted (b ∷ bs) rest = counted_for b (all_counted bs rest)

  -- where no branch is ready: the default, or a new wait
  abbrev pub otherwise : OpView → Option Tree → Planned
  otherwise op (Some v) = to_default v
  otherwise op None = all_counted (branches_of op) (cond (parks op) (to_park (branches_of op)) (to_post (branches_of op)))

  -- the branch from which they are looked at
  abbrev pub starting : OpView → ℕ → ℕ
  starting op start = cond (has_priority op) 0 (start % length (branches_of op))

  abbrev pub chosen : OpView → ℕ → Planned
  chosen op start = first_from (is_alts op) (starting op start) (branches_of op) (otherwise op (default_of op))

  -- an operation whose operands are right
  abbrev pub fitting : OpView → ℕ → Planned
  fitting (taking c) start = chosen (taking c) start
  fitting (putting c v) start = chosen (putting c v) start
  fitting (posting c v) start = chosen (posting c v) start
  fitting (choosing ports priority default) start = chosen (choosing ports priority default) start
  fitting (making what) start = to_make what
  fitting (spawning seed) start = to_spawn (kind_of seed) (result_of seed)
  fitting (closing c) start = to_close (port_of_value c)
  fitting (registering name args) start = to_register name args
  fitting (printing line) start = to_print line

  abbrev pub unless_refused : Option Fault → Planned → Planned
  unless_refused (Some f) rest = to_refuse f
  unless_refused None rest = rest

  -- what the operation becomes, its branches being looked at from number start on, cyclically, or from 0 with priority
  abbrev pub planned : OpView → ℕ → Planned
  planned op start = unless_refused (unfit (state_of x.ports x.registries) op) (fitting op start)
