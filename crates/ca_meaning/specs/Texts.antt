-- What a run writes.
use Rattle.std.specs.Prelude.{ℕ, zero, suc, List, [], ◌∷◌, ◌++◌, codes, decimal}
use Rattle.ca_term.specs.declared.place.Place.{Place}
use Rattle.ca_term.specs.declared.fault.Fault.{Fault}
use Rattle.ca_term.specs.declared.fault.Fault.TheVariants.{Overflow, ZeroDivisor, WrongKind, OutOfRange, TooHeavy, TooNested, Spun, TooDeep, TooManyTakes, TooManyPuts, NilPut, NoPorts, NotAPort, TooManyPorts, TooManyMembers}
use Rattle.ca_term.specs.declared.event.Ending.{Ending}
use Rattle.ca_term.specs.declared.event.Ending.TheVariants.{Ended, Faulted}
use Rattle.ca_term.specs.Event.{EventView, printed, over}

-- parts joined by one space
abbrev pub spaced : List ℕ → List ℕ → List ℕ
spaced a b = a ++ (32 ∷ b)

infixr 40 ◌⋅◌
abbrev pub ◌⋅◌ : List ℕ → List ℕ → List ℕ
a ⋅ b = spaced a b

abbrev pub fault_text : Fault → List ℕ
fault_text Overflow = codes "Overflow"
fault_text ZeroDivisor = codes "ZeroDivisor"
fault_text WrongKind = codes "WrongKind"
fault_text OutOfRange = codes "OutOfRange"
fault_text TooHeavy = codes "TooHeavy"
fault_text TooNested = codes "TooNested"
fault_text Spun = codes "Spun"
fault_text TooDeep = codes "TooDeep"
fault_text TooManyTakes = codes "TooManyTakes"
fault_text TooManyPuts = codes "TooManyPuts"
fault_text NilPut = codes "NilPut"
fault_text NoPorts = codes "NoPorts"
fault_text NotAPort = codes "NotAPort"
fault_text TooManyPorts = codes "TooManyPorts"
fault_text TooManyMembers = codes "TooManyMembers"

-- line and column
abbrev pub place_text : Place → List ℕ
place_text p = decimal p.line ++ (58 ∷ decimal p.column)

abbrev pub fault_line : Fault → Place → List ℕ
fault_line fault place = (codes "fault" ⋅ fault_text fault ⋅ codes "at" ⋅ place_text place) ++ 10 ∷ []

-- an event's part of the output: a printed line, or the fault of another task than the main text
abbrev pub fault_output : ℕ → Ending → List ℕ
fault_output zero how = []
fault_output (suc t) Ended = []
fault_output (suc t) (Faulted fault place result) = fault_line fault place

abbrev pub output_of : EventView → List ℕ
output_of (printed t line) = line
output_of (over t how) = fault_output t how
output_of e = []

-- what the run writes
abbrev pub output : List EventView → List ℕ
output [] = []
output (e ∷ es) = output_of e ++ output es
