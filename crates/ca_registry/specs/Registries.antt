-- What registries show, and what a call on one comes to, by the table of registry operations.
use Rattle.std.specs.Prelude.{◌≡◌, ℕ, List, Option, Some, None, Bool, map}
use Rattle.indexmap.specs.IndexMap.{spare}
use Rattle.ca_value.specs.Tree.{Tree, Trees}
use Rattle.ca_value.specs.Equality.{pair_count}
use Rattle.ca_term.specs.declared.fault.Fault.{Fault}
use Rattle.ca_term.specs.declared.fault.Fault.TheVariants as F
use Rattle.ca_term.specs.declared.head.RegisterName.{RegisterName}
use Rattle.ca_term.specs.declared.head.RegisterName.TheVariants as N
use Rattle.ca_meaning.specs.Operands.{first_of}
use Rattle.ca_meaning.specs.Registry.{TapView, Registry, a_mult, Registered, answers, refuses, mult_row, pairs_in}
use Rattle.ca_registry.specs.declared.registry_error.RegisterError.{RegisterError}
use Rattle.ca_registry.specs.declared.registry_error.RegisterError.TheVariants as E
use Rattle.ca_registry.specs.declared.mult.Mult.{Mult}

-- the answer, where the table has one
abbrev pub answered : Registered → Option Tree
answered (answers v r) = Some v
answered (refuses f) = None

-- the fault, where the table has one
abbrev pub refused_with : Registered → Option Fault
refused_with (answers v r) = None
refused_with (refuses f) = Some f

-- the registry afterwards; a fault changes nothing
abbrev pub left_by : Registered → Registry → Registry
left_by (answers v r) old = r
left_by (refuses f) old = old

-- an error is the table's fault; of want of memory nothing is said
abbrev pub IsCause : RegisterError → Registered → Type 0
IsCause E.NotAPort r = refused_with r ≡ Some F.NotAPort
IsCause E.TooManyMembers r = refused_with r ≡ Some F.TooManyMembers
IsCause E.OutOfMemory r = Unit {0}

-- how many members the operation may add
abbrev pub members_added : RegisterName → Trees → ℕ
members_added N.Tap args = 1
members_added N.Admix args = 1
members_added N.Place args = 1
members_added N.Toggle args = pair_count (pairs_in (first_of args))
members_added other args = 0

abbrev pub tap_view : ℕ × Bool → TapView
tap_view e = record { channel = e.0; closes = e.1 }

abbrev pub mult_taps : Mult → List TapView
mult_taps m = map tap_view m.taps.entries

abbrev pub mult_view : Mult → Registry
mult_view m = a_mult m.source (mult_taps m)

abbrev pub mult_spare : Mult → ℕ
mult_spare m = spare m.taps

-- what an operation on the mult comes to
abbrev pub mult_gives : Mult → RegisterName → Trees → Registered
mult_gives m name args = mult_row m.source (mult_taps m) name args
