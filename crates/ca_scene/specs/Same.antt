-- Tests whether two things of the model are one, as functions; of values it is `ca_value`'s.
use Rattle.std.specs.Prelude.{ℕ, List, [], ◌∷◌, Option, Some, None, Bool, true, false, ◌&&◌, eqb}
pub use Rattle.ca_value.specs.Same.{same, same_items}
use Rattle.ca_term.specs.declared.event.Side.{Side}
use Rattle.ca_term.specs.declared.event.Side.TheVariants.{Take, Put}
use Rattle.ca_term.specs.declared.place.Place.{Place}
use Rattle.ca_term.specs.declared.fault.Fault.{Fault}
use Rattle.ca_term.specs.declared.fault.Fault.TheVariants.{Overflow, ZeroDivisor, WrongKind, OutOfRange, TooHeavy, TooNested, Spun, TooDeep, TooManyTakes, TooManyPuts, NilPut, NoPorts, NotAPort, TooManyPorts, TooManyMembers}
use Rattle.ca_term.specs.declared.event.TaskKind.{TaskKind}
use Rattle.ca_term.specs.declared.event.TaskKind.TheVariants.{Go, Mult as MultTask, Deliver, Mix as MixTask, Pub as PubTask, Pipe, Merge, Onto, Feed, Job, Collect}
use Rattle.ca_term.specs.declared.head.RegisterName.{RegisterName}
use Rattle.ca_term.specs.declared.head.RegisterName.TheVariants.{Tap, Untap, UntapAll, Taps, Admix, Unmix, UnmixAll, Toggle, SoloMode, Modes, Find, Drop, Clear, Topics}
use Rattle.ca_term.specs.Event.{BranchView, take_of, put_of}
use Rattle.ca_term.specs.Operation.{WhatView, unbuffered, fixed, dropping, sliding, promise, timeout, mult, mix, publication}

abbrev pub same_side : Side → Side → Bool
same_side Take Take = true
same_side Put Put = true
same_side a b = false

abbrev pub same_branch : BranchView → BranchView → Bool
same_branch (take_of p) (take_of q) = eqb p q
same_branch (put_of p v) (put_of q u) = eqb p q && same v u
same_branch a b = false

abbrev pub same_branches : List BranchView → List BranchView → Bool
same_branches [] [] = true
same_branches (a ∷ cs) (b ∷ bs) = same_branch a b && same_branches cs bs
same_branches cs bs = false

abbrev pub same_numbers : List ℕ → List ℕ → Bool
same_numbers [] [] = true
same_numbers (a ∷ cs) (b ∷ bs) = eqb a b && same_numbers cs bs
same_numbers cs bs = false

abbrev pub same_number : Option ℕ → Option ℕ → Bool
same_number None None = true
same_number (Some a) (Some b) = eqb a b
same_number a b = false

-- the number is the one that stands there
abbrev pub is_number_there : ℕ → Option ℕ → Bool
is_number_there p None = false
is_number_there p (Some n) = eqb n p

abbrev pub same_what : WhatView → WhatView → Bool
same_what unbuffered unbuffered = true
same_what (fixed m) (fixed n) = eqb m n
same_what (dropping m) (dropping n) = eqb m n
same_what (sliding m) (sliding n) = eqb m n
same_what promise promise = true
same_what (timeout m) (timeout n) = eqb m n
same_what (mult a) (mult b) = same a b
same_what (mix a c) (mix b d) = same a b && same c d
same_what (publication a) (publication b) = same a b
same_what a b = false

abbrev pub fault_code : Fault → ℕ
fault_code Overflow = 0
fault_code ZeroDivisor = 1
fault_code WrongKind = 2
fault_code OutOfRange = 3
fault_code TooHeavy = 4
fault_code TooNested = 5
fault_code Spun = 6
fault_code TooDeep = 7
fault_code TooManyTakes = 8
fault_code TooManyPuts = 9
fault_code NilPut = 10
fault_code NoPorts = 11
fault_code NotAPort = 12
fault_code TooManyPorts = 13
fault_code TooManyMembers = 14

abbrev pub same_fault : Fault → Fault → Bool
same_fault a b = eqb (fault_code a) (fault_code b)

abbrev pub same_place : Place → Place → Bool
same_place a b = eqb a.line b.line && eqb a.column b.column

abbrev pub name_code : RegisterName → ℕ
name_code Tap = 0
name_code Untap = 1
name_code UntapAll = 2
name_code Taps = 3
name_code Admix = 4
name_code Unmix = 5
name_code UnmixAll = 6
name_code Toggle = 7
name_code SoloMode = 8
name_code Modes = 9
name_code Find = 10
name_code RegisterName.Place = 11
name_code Drop = 12
name_code Clear = 13
name_code Topics = 14

abbrev pub same_name : RegisterName → RegisterName → Bool
same_name a b = eqb (name_code a) (name_code b)

abbrev pub same_kind : TaskKind → TaskKind → Bool
same_kind Go Go = true
same_kind MultTask MultTask = true
same_kind Deliver Deliver = true
same_kind MixTask MixTask = true
same_kind PubTask PubTask = true
same_kind Pipe Pipe = true
same_kind Merge Merge = true
same_kind Onto Onto = true
same_kind Feed Feed = true
same_kind Job Job = true
same_kind Collect Collect = true
same_kind a b = false
