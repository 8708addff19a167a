-- The words in which the tables of the system tasks are written: what a state asks for, what follows on the
-- answer, and the forms that an answer may have.
use Rattle.std.specs.Prelude.{ℕ, List, [], ◌∷◌, Option, Some, None, Bool, false, cond, nat_le}
use Rattle.ca_value.specs.Measure.{weight_of, depth_of}
use Rattle.ca_value.specs.Tree.{Tree, Trees, nil, bool, vector, port, none, item}
use Rattle.ca_term.specs.declared.place.Place.{Place}
use Rattle.ca_term.specs.declared.fault.Fault.{Fault}
use Rattle.ca_term.specs.declared.fault.Fault.TheVariants.{WrongKind, TooHeavy, TooNested}
use Rattle.ca_term.specs.declared.head.SystemTask.{SystemTask}
use Rattle.ca_term.specs.declared.head.RegisterName.{RegisterName}
use Rattle.ca_term.specs.Operation.{taking, putting, choosing, making, spawning, closing, registering, WhatView, system}
use Rattle.ca_meaning.specs.Asking.{too_large_branches}
use Rattle.ca_meaning.specs.Body.{At, local, ended, faulted, asking}
use Rattle.ca_meaning.specs.Registry.{TapView}

-- what a state asks for, at the task's place
abbrev pub Ask : Type 0
Ask = Place → At

abbrev pub ask_to_take : ℕ → Ask
ask_to_take c p = asking p None (taking (port c))

-- a value that a system task puts weighs at most 131,000 and is at most 78 deep, the weight being judged first
abbrev pub too_large_here : Tree → Option Fault
too_large_here v = cond (nat_le (weight_of v) 131_000) (cond (nat_le (depth_of v) 78) None (Some TooNested)) (Some TooHeavy)

abbrev pub ask_to_put : ℕ → Tree → Ask
ask_to_put c v p = asking p (too_large_here v) (putting (port c) v)

-- without priority and without a default; a pair among the ports is a put, judged as in any alts
abbrev pub ask_to_choose : Trees → Ask
ask_to_choose ports p = asking p (too_large_branches ports) (choosing ports false None)

abbrev pub ask_to_make : WhatView → Ask
ask_to_make what p = asking p None (making what)

abbrev pub ask_to_spawn : SystemTask → Trees → Ask
ask_to_spawn kind values p = asking p None (spawning (system kind values p))

abbrev pub ask_to_close : ℕ → Ask
ask_to_close c p = asking p None (closing (port c))

abbrev pub ask_to_register : RegisterName → Trees → Ask
ask_to_register name args p = asking p None (registering name args)

-- it applies its function before it asks for more
abbrev pub applies : Ask
applies p = local

-- what follows on an answer
pub data Next (S : Type 0) : Type 0 where
  to : S → Next S
  stop : Next S
  fail : Fault → Next S

abbrev pub stands_at : {S : Type 0} → Place → (S → Ask) → Next S → At
stands_at p asks (to x) = asks x p
stands_at p asks stop = ended nil
stands_at p asks (fail f) = faulted f p

abbrev pub follows : {S : Type 0} → (S → Next S) → Next S → Next S
follows next (to x) = next x
follows next stop = stop
follows next (fail f) = fail f

-- an answer has the form that its row needs, or the task faults
abbrev pub needing : {A S : Type 0} → Option A → (A → Next S) → Next S
needing None next = fail WrongKind
needing (Some x) next = next x

-- closing each channel of the list, and then the end
abbrev pub closes_due : {S : Type 0} → (ℕ → List ℕ → S) → List ℕ → Next S
closes_due state [] = stop
closes_due state (c ∷ cs) = to (state c cs)

-- The forms of answers.
abbrev pub port_in : Tree → Option ℕ
port_in (port n) = Some n
port_in v = None

abbrev pub items_in : Tree → Option Trees
items_in (vector vs) = Some vs
items_in v = None

abbrev pub with_port : ℕ → Option (List ℕ) → Option (List ℕ)
with_port n None = None
with_port n (Some ns) = Some (n ∷ ns)

abbrev pub ports_of : Trees → Option (List ℕ)
ports_of none = Some []
ports_of (item (port n) vs) = with_port n (ports_of vs)
ports_of (item v vs) = None

-- a vector of ports
abbrev pub ports_in : Tree → Option (List ℕ)
ports_in (vector vs) = ports_of vs
ports_in v = None

-- `[value port]`
abbrev pub value_and_port : Tree → Option (Tree × ℕ)
value_and_port (vector (item v (item (port p) none))) = Some (v, p)
value_and_port v = None

abbrev pub with_tap : ℕ → Bool → Option (List TapView) → Option (List TapView)
with_tap c z None = None
with_tap c z (Some ts) = Some (record { channel = c; closes = z } ∷ ts)

abbrev pub taps_of : Trees → Option (List TapView)
taps_of none = Some []
taps_of (item (vector (item (port c) (item (bool z) none))) vs) = with_tap c z (taps_of vs)
taps_of (item v vs) = None

-- a vector with a pair `[channel boolean]` for each tap
abbrev pub taps_in : Tree → Option (List TapView)
taps_in (vector vs) = taps_of vs
taps_in v = None

-- Values that are asked with.
abbrev pub pair_of : Tree → Tree → Tree
pair_of a b = vector (item a (item b none))

abbrev pub one_of : Tree → Trees
one_of a = item a none

abbrev pub two_of : Tree → Tree → Trees
two_of a b = item a (item b none)

-- the items of a vector; of another value none
abbrev pub trees_in : Tree → Trees
trees_in (vector vs) = vs
trees_in v = none
