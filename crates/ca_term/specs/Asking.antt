-- What an operation comes to once its operands are values: what it asks for, or the first fault of an
-- operand. Whether an operand names a port of the kind that is needed is judged at the event, later.
-- (core.async API reference: `chan`, `buffer`, `timeout`, `alts!`, `go`, `toggle`, `solo-mode`.)
use Rattle.std.specs.Prelude.{ℕ, zero, pos, List, [], ◌∷◌, ◌++◌, Bool, true, false, ◌&&◌, ◌||◌, cond, nat_le, codes, Option, Some, None, Result, Ok, Err}
use Rattle.std.specs.Str.{bytes_eq}
use Rattle.ca_value.specs.declared.fault.ValueFault.{ValueFault}
use Rattle.ca_value.specs.Tree.{Tree, Trees, TreePairs, nil, bool, int, text, key, vector, map, port, none, item, empty, pair}
use Rattle.ca_value.specs.Printed.{plain_items}
use Rattle.ca_value.specs.Outcome.{Outcome, judged}
use Rattle.ca_term.specs.declared.place.Place.{Place}
use Rattle.ca_term.specs.declared.fault.Fault.{Fault}
use Rattle.ca_term.specs.declared.fault.Fault.TheVariants.{WrongKind, OutOfRange}
use Rattle.ca_term.specs.declared.head.Head.{Head}
use Rattle.ca_term.specs.declared.head.Head.TheVariants.{Recur, Builtin, Call, Take, Put, Alts, Make, Spawn, Close, Register, Print, Post}
use Rattle.ca_term.specs.declared.head.AltsOptions.{AltsOptions}
use Rattle.ca_term.specs.declared.head.MakeKind.{MakeKind}
use Rattle.ca_term.specs.declared.head.SeedKind.{SeedKind}
use Rattle.ca_term.specs.declared.head.SystemTask.{SystemTask}
use Rattle.ca_term.specs.declared.head.SystemTask.TheVariants.{Onto, Merge}
use Rattle.ca_term.specs.declared.head.RegisterName.{RegisterName}
use Rattle.ca_term.specs.declared.head.RegisterName.TheVariants.{Toggle, SoloMode}
use Rattle.ca_term.specs.Operation.{OpView, taking, putting, choosing, making, spawning, closing, registering, printing, posting, WhatView, unbuffered, fixed, dropping, sliding, promise, timeout, mult, mix, publication, SeedView, go, system}
use Rattle.ca_term.specs.Operands.{or_else, truth, first_of, second_of, third_of, last_of, without_last, is_pair, port_of_value}

-- a builtin's fault, as a task's
abbrev pub task_fault : ValueFault → Fault
task_fault ValueFault.Overflow = Fault.Overflow
task_fault ValueFault.ZeroDivisor = Fault.ZeroDivisor
task_fault ValueFault.WrongKind = Fault.WrongKind
task_fault ValueFault.OutOfRange = Fault.OutOfRange
task_fault ValueFault.TooHeavy = Fault.TooHeavy
task_fault ValueFault.TooNested = Fault.TooNested

abbrev pub fault_in : Outcome → Option Fault
fault_in (Ok v) = None
fault_in (Err f) = Some (task_fault f)

-- a value that a script puts, posts or gives as a default has the limits of a builtin's result
abbrev pub too_large : Tree → Option Fault
too_large v = fault_in (judged (Ok v))

abbrev pub not_a_vector : Tree → Option Fault
not_a_vector (vector vs) = None
not_a_vector v = Some WrongKind

-- An alts: a vector of ports, and then its options in the order in which they are written.
abbrev pub too_large_branch : Tree → Option Fault
too_large_branch (vector vs) = cond (is_pair vs) (too_large (second_of vs)) None
too_large_branch v = None

abbrev pub too_large_branches : Trees → Option Fault
too_large_branches none = None
too_large_branches (item v vs) = or_else (too_large_branch v) (too_large_branches vs)

abbrev pub alts_ports : Tree → Trees
alts_ports (vector vs) = vs
alts_ports v = none

abbrev pub bad_branches : Tree → Option Fault
bad_branches v = or_else (not_a_vector v) (too_large_branches (alts_ports v))

abbrev pub priority_in : AltsOptions → Trees → Bool
priority_in AltsOptions.None vs = false
priority_in AltsOptions.Priority vs = truth (second_of vs)
priority_in AltsOptions.Default vs = false
priority_in AltsOptions.PriorityThenDefault vs = truth (second_of vs)
priority_in AltsOptions.DefaultThenPriority vs = truth (third_of vs)

abbrev pub default_in : AltsOptions → Trees → Option Tree
default_in AltsOptions.None vs = None
default_in AltsOptions.Priority vs = None
default_in AltsOptions.Default vs = Some (second_of vs)
default_in AltsOptions.PriorityThenDefault vs = Some (third_of vs)
default_in AltsOptions.DefaultThenPriority vs = Some (second_of vs)

abbrev pub too_large_default : Option Tree → Option Fault
too_large_default None = None
too_large_default (Some v) = too_large v

abbrev pub bad_alts : AltsOptions → Trees → Option Fault
bad_alts options vs = or_else (bad_branches (first_of vs)) (too_large_default (default_in options vs))

abbrev pub alts_of : AltsOptions → Trees → OpView
alts_of options vs = choosing (alts_ports (first_of vs)) (priority_in options vs) (default_in options vs)

-- what is made, where the number is a whole one from the low to the high
abbrev pub ranged : ℕ → ℕ → (ℕ → WhatView) → Tree → Result WhatView Fault
ranged low high make (int (pos n)) = cond (nat_le low n && nat_le n high) (Ok (make n)) (Err OutOfRange)
ranged low high make (int z) = Err OutOfRange
ranged low high make v = Err WrongKind

-- a buffer of 1 to 4,096 values
abbrev pub buffered : (ℕ → WhatView) → Tree → Result WhatView Fault
buffered make v = ranged 1 4096 make v

-- `(chan n)`: nil and 0 are no buffer
abbrev pub sized : Tree → Result WhatView Fault
sized nil = Ok unbuffered
sized (int (pos zero)) = Ok unbuffered
sized v = buffered fixed v

abbrev pub made_of : MakeKind → Trees → Result WhatView Fault
made_of MakeKind.Unbuffered vs = Ok unbuffered
made_of MakeKind.Sized vs = sized (first_of vs)
made_of MakeKind.Fixed vs = buffered fixed (first_of vs)
made_of MakeKind.Dropping vs = buffered dropping (first_of vs)
made_of MakeKind.Sliding vs = buffered sliding (first_of vs)
made_of MakeKind.Promise vs = Ok promise
made_of MakeKind.Timeout vs = ranged 0 86_400_000 timeout (first_of vs)
made_of MakeKind.Mult vs = Ok (mult (first_of vs))
made_of MakeKind.Mix vs = Ok (mix (first_of vs) (second_of vs))
made_of MakeKind.Pub vs = Ok (publication (first_of vs))

-- A go block's last operand is its result port; of a system task's operands the collection is a vector.
abbrev pub not_a_port : Tree → Option Fault
not_a_port (port n) = None
not_a_port v = Some WrongKind

abbrev pub bad_collection : SystemTask → Trees → Option Fault
bad_collection Merge vs = not_a_vector (first_of vs)
bad_collection Onto vs = not_a_vector (second_of vs)
bad_collection kind vs = None

abbrev pub bad_operands : SeedKind → Trees → Option Fault
bad_operands (SeedKind.Go n) vs = not_a_port (last_of vs)
bad_operands (SeedKind.System kind) vs = bad_collection kind vs

abbrev pub seed_of : SeedKind → Trees → Place → SeedView
seed_of (SeedKind.Go n) vs p = go n (without_last vs) (port_of_value (last_of vs)) p
seed_of (SeedKind.System kind) vs p = system kind vs p

-- A mix's modes: `:mute`, `:pause` and `:solo` to booleans; as a solo mode `:mute` or `:pause`.
abbrev pub is_key_named : List ℕ → Tree → Bool
is_key_named name (key k) = bytes_eq k name
is_key_named name v = false

abbrev pub is_solo_mode : Tree → Bool
is_solo_mode v = is_key_named (codes "mute") v || is_key_named (codes "pause") v

abbrev pub is_mode : Tree → Bool
is_mode v = is_solo_mode v || is_key_named (codes "solo") v

abbrev pub is_bool : Tree → Bool
is_bool (bool b) = true
is_bool v = false

abbrev pub are_modes : TreePairs → Bool
are_modes empty = true
are_modes (pair k v ps) = is_mode k && is_bool v && are_modes ps

abbrev pub is_modes : Tree → Bool
is_modes (map ps) = are_modes ps
is_modes v = false

-- each value of the map is a map of modes
abbrev pub all_modes : TreePairs → Bool
all_modes empty = true
all_modes (pair k v ps) = is_modes v && all_modes ps

abbrev pub is_toggling : Tree → Bool
is_toggling (map ps) = all_modes ps
is_toggling v = false

abbrev pub unless_kind : Bool → Option Fault
unless_kind ok = cond ok None (Some WrongKind)

abbrev pub bad_arguments : RegisterName → Trees → Option Fault
bad_arguments Toggle vs = unless_kind (is_toggling (second_of vs))
bad_arguments SoloMode vs = unless_kind (is_solo_mode (second_of vs))
bad_arguments name vs = None

-- the values' plain texts joined by a space, and a line feed (Clojure reference, `println`)
abbrev pub line_of : Trees → List ℕ
line_of vs = plain_items vs ++ 10 ∷ []

-- the operation, unless an operand faults
abbrev pub unless_faulted : Option Fault → OpView → Result OpView Fault
unless_faulted None op = Ok op
unless_faulted (Some f) op = Err f

abbrev pub asked_to_make : Result WhatView Fault → Result OpView Fault
asked_to_make (Ok what) = Ok (making what)
asked_to_make (Err f) = Err f

-- What an operation over these values comes to; its form stands at the place. A line is judged as a text. A
-- head that is no operation asks for nothing.
abbrev pub asked : Head → Trees → Place → Result OpView Fault
asked Recur vs p = Err WrongKind
asked (Builtin b) vs p = Err WrongKind
asked (Call n) vs p = Err WrongKind
asked Take vs p = Ok (taking (first_of vs))
asked Put vs p = unless_faulted (too_large (second_of vs)) (putting (first_of vs) (second_of vs))
asked (Alts options) vs p = unless_faulted (bad_alts options vs) (alts_of options vs)
asked (Make kind) vs p = asked_to_make (made_of kind vs)
asked (Spawn kind) vs p = unless_faulted (bad_operands kind vs) (spawning (seed_of kind vs p))
asked Close vs p = Ok (closing (first_of vs))
asked (Register name) vs p = unless_faulted (bad_arguments name vs) (registering name vs)
asked Print vs p = unless_faulted (too_large (text (line_of vs))) (printing (line_of vs))
asked Post vs p = unless_faulted (too_large (second_of vs)) (posting (first_of vs) (second_of vs))
