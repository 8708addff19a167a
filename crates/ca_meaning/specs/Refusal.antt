-- Which operations fault before they are done, in the order in which it is judged. (core.async API
-- reference: `put!` and `>!` on nil; `MAX-QUEUE-SIZE`, 1,024 pending operations a side.)
use Rattle.std.specs.Prelude.{ℕ, List, [], ◌∷◌, Option, Some, None, option_map, is_some, Bool, true, false, cond, nat_lt, nat_le}
use Rattle.ca_value.specs.Tree.{Tree, Trees, vector, port, none, item}
use Rattle.ca_term.specs.declared.place.Place.{Place}
use Rattle.ca_term.specs.declared.fault.Fault.{Fault}
use Rattle.ca_term.specs.declared.fault.Fault.TheVariants.{NotAPort, NilPut, NoPorts, TooManyPorts, TooManyTakes, TooManyPuts}
use Rattle.ca_term.specs.declared.event.Side.{Side}
use Rattle.ca_term.specs.declared.event.Side.TheVariants.{Take, Put}
use Rattle.ca_term.specs.declared.head.RegisterName.{RegisterName}
use Rattle.ca_term.specs.declared.head.RegisterName.TheVariants.{Tap, Untap, UntapAll, Taps, Admix, Unmix, UnmixAll, Toggle, SoloMode, Modes, Find, Place as PlaceTopic, Drop, Clear, Topics}
use Rattle.ca_term.specs.declared.head.SystemTask.{SystemTask}
use Rattle.ca_term.specs.declared.head.SystemTask.TheVariants.{Mult, Deliver, Mix, Pub, Pipe, Merge, Onto, Feed, Job, Collect}
use Rattle.ca_term.specs.Operation.{OpView, taking, putting, choosing, making, spawning, closing, registering, printing, posting, WhatView, mult, mix, publication, SeedView, go, system}
use Rattle.ca_term.specs.Event.{BranchView}
use Rattle.ca_meaning.specs.Body.{At, local, at_op, ended, faulted, nowhere}
use Rattle.ca_meaning.specs.Operands.{or_else, port_of_value, is_nil, first_of, second_of, rest_of, count_of, is_pair}
use Rattle.ca_meaning.specs.Registry.{Registry, a_mult, a_mix, a_publication, register, Registered, answers, refuses}
use Rattle.ca_meaning.specs.Wait.{side_of, port_of, pending}
use Rattle.ca_meaning.specs.State.{State}
use Rattle.ca_meaning.specs.Choice.{branches_of, any_ready}

-- what an operand has to be
pub data Need : Type 0 where
  a_channel : Need
  the_mult : Need
  the_mix : Need
  the_publication : Need
  anything : Need

abbrev pub is_the_mult : Option Registry → Bool
is_the_mult (Some (a_mult s ts)) = true
is_the_mult r = false

abbrev pub is_the_mix : Option Registry → Bool
is_the_mix (Some (a_mix o g mode xs)) = true
is_the_mix r = false

abbrev pub is_the_publication : Option Registry → Bool
is_the_publication (Some (a_publication s ts)) = true
is_the_publication r = false

abbrev pub is_port_to : State → Need → ℕ → Bool
is_port_to s a_channel n = is_some (s.channels n)
is_port_to s the_mult n = is_the_mult (s.registries n)
is_port_to s the_mix n = is_the_mix (s.registries n)
is_port_to s the_publication n = is_the_publication (s.registries n)
is_port_to s anything n = true

abbrev pub is_needed_port : State → Need → Tree → Bool
is_needed_port s need (port n) = is_port_to s need n
is_needed_port s need v = false

abbrev pub meets_need : State → Need → Tree → Bool
meets_need s anything v = true
meets_need s need v = is_needed_port s need v

abbrev pub is_channel : State → Tree → Bool
is_channel s v = is_needed_port s a_channel v

-- an operand that isn't the port that is needed
abbrev pub not_needed : State → Need → Tree → Option Fault
not_needed s need v = cond (meets_need s need v) None (Some NotAPort)

abbrev pub not_a_channel : State → Tree → Option Fault
not_a_channel s v = cond (is_channel s v) None (Some NotAPort)

abbrev pub nil_put : Tree → Option Fault
nil_put v = cond (is_nil v) (Some NilPut) None

-- the operands from left to right
abbrev pub unmet : State → List Need → Trees → Option Fault
unmet s [] vs = None
unmet s (n ∷ ns) vs = or_else (not_needed s n (first_of vs)) (unmet s ns (rest_of vs))

-- a port of an alts: a channel, or a pair that begins with one and puts a value
abbrev pub bad_port : State → Tree → Option Fault
bad_port s (vector vs) = cond (is_pair vs) (or_else (not_a_channel s (first_of vs)) (nil_put (second_of vs))) (Some NotAPort)
bad_port s v = not_a_channel s v

abbrev pub bad_ports : State → Trees → Option Fault
bad_ports s none = None
bad_ports s (item v vs) = or_else (bad_port s v) (bad_ports s vs)

abbrev pub bad_choice : State → Trees → Option Fault
bad_choice s none = Some NoPorts
bad_choice s (item v vs) = cond (nat_lt 256 (count_of (item v vs))) (Some TooManyPorts) (bad_ports s (item v vs))

abbrev pub needs_to_make : WhatView → List Need
needs_to_make (mult source) = a_channel ∷ []
needs_to_make (mix out changes) = a_channel ∷ a_channel ∷ []
needs_to_make (publication source) = a_channel ∷ []
needs_to_make what = []

abbrev pub operands_to_make : WhatView → Trees
operands_to_make (mult source) = item source none
operands_to_make (mix out changes) = item out (item changes none)
operands_to_make (publication source) = item source none
operands_to_make what = none

abbrev pub needs_of_system : SystemTask → List Need
needs_of_system Mult = the_mult ∷ a_channel ∷ a_channel ∷ []
needs_of_system Deliver = the_mult ∷ a_channel ∷ anything ∷ a_channel ∷ []
needs_of_system Mix = the_mix ∷ a_channel ∷ a_channel ∷ []
needs_of_system (Pub f) = the_publication ∷ a_channel ∷ []
needs_of_system Pipe = a_channel ∷ a_channel ∷ []
needs_of_system Merge = anything ∷ a_channel ∷ []
needs_of_system Onto = a_channel ∷ anything ∷ anything ∷ a_channel ∷ []
needs_of_system Feed = a_channel ∷ a_channel ∷ a_channel ∷ []
needs_of_system (Job xf f) = a_channel ∷ []
needs_of_system Collect = a_channel ∷ a_channel ∷ anything ∷ a_channel ∷ []

-- of a go block's operands its result port alone is judged
abbrev pub bad_seed : State → SeedView → Option Fault
bad_seed s (go n values result place) = not_a_channel s (port result)
bad_seed s (system kind values place) = unmet s (needs_of_system kind) values

abbrev pub needs_to_register : RegisterName → List Need
needs_to_register Tap = the_mult ∷ a_channel ∷ []
needs_to_register Untap = the_mult ∷ a_channel ∷ []
needs_to_register UntapAll = the_mult ∷ []
needs_to_register Taps = the_mult ∷ []
needs_to_register Admix = the_mix ∷ a_channel ∷ []
needs_to_register Unmix = the_mix ∷ a_channel ∷ []
needs_to_register UnmixAll = the_mix ∷ []
needs_to_register Toggle = the_mix ∷ []
needs_to_register SoloMode = the_mix ∷ []
needs_to_register Modes = the_mix ∷ []
needs_to_register Find = the_publication ∷ []
needs_to_register PlaceTopic = the_publication ∷ anything ∷ the_mult ∷ a_channel ∷ []
needs_to_register Drop = the_publication ∷ []
needs_to_register Clear = the_publication ∷ []
needs_to_register Topics = the_publication ∷ []

abbrev pub fault_of_registered : Registered → Option Fault
fault_of_registered (answers v r) = None
fault_of_registered (refuses f) = Some f

abbrev pub registered_at : State → Option Registry → RegisterName → Trees → Registered
registered_at s None name args = refuses NotAPort
registered_at s (Some r) name args = register (is_channel s) r name args

-- what the operation on the registry that its first argument names comes to
abbrev pub registering_gives : State → RegisterName → Trees → Registered
registering_gives s name args = registered_at s (s.registries (port_of_value (first_of args))) name (rest_of args)

-- faults that are judged before anything is looked at
abbrev pub unfit : State → OpView → Option Fault
unfit s (taking c) = not_a_channel s c
unfit s (putting c v) = or_else (not_a_channel s c) (nil_put v)
unfit s (posting c v) = or_else (not_a_channel s c) (nil_put v)
unfit s (choosing ports priority default) = bad_choice s ports
unfit s (making what) = unmet s (needs_to_make what) (operands_to_make what)
unfit s (spawning seed) = bad_seed s seed
unfit s (closing c) = not_a_channel s c
unfit s (registering name args) = or_else (unmet s (needs_to_register name) args) (fault_of_registered (registering_gives s name args))
unfit s (printing line) = None

abbrev pub crowd_of : Side → Fault
crowd_of Take = TooManyTakes
crowd_of Put = TooManyPuts

abbrev pub crowded_at : State → BranchView → Option Fault
crowded_at s b = cond (nat_le 1024 (pending (side_of b) (port_of b) s.waits)) (Some (crowd_of (side_of b))) None

-- a new wait of these branches would be one too many; the first branch decides
abbrev pub crowded : State → List BranchView → Option Fault
crowded s [] = None
crowded s (b ∷ bs) = or_else (crowded_at s b) (crowded s bs)

abbrev pub has_no_default : OpView → Bool
has_no_default (choosing ports priority None) = true
has_no_default (choosing ports priority (Some v)) = false
has_no_default op = true

-- where nothing is ready and there is no default, a new wait would join
abbrev pub too_many : State → OpView → Option Fault
too_many s op = cond (any_ready s (branches_of op)) None (cond (has_no_default op) (crowded s (branches_of op)) None)

-- the fault of an operation in this state, if it has one
abbrev pub refusal : State → OpView → Option Fault
refusal s op = or_else (unfit s op) (too_many s op)

-- the fault at which a body stands, with its place
abbrev pub fault_at : State → At → Option (Fault × Place)
fault_at s (faulted f p) = Some (f, p)
fault_at s (at_op want) = option_map (λ f. (f, want.place)) (refusal s want.op)
fault_at s local = None
fault_at s (ended v) = None
fault_at s nowhere = None
