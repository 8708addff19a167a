-- What the reader's stack of open brackets stands for.
use Rattle.std.specs.Prelude.{◌≡◌, ℕ, ◌+◌, ◌≤◌, length, take, drop, List, [], ◌∷◌, Option, Some}
use Rattle.ca_term.specs.declared.place.Place.{Place}
use Rattle.ca_reader.specs.declared.form.Form.{Form}
use Rattle.ca_reader.specs.declared.nest.Opened.{Opened}
use Rattle.ca_reader.specs.declared.nest.Nest.{Nest}
use Rattle.ca_reader.specs.declared.error.ReadErrorKind.{ReadErrorKind}
use Rattle.ca_reader.specs.declared.error.ReadError.{ReadError}
use Rattle.ca_reader.specs.declared.error.ReadError.TheVariants.{Fault, OutOfMemory}
use Rattle.ca_reader.specs.View.{form_trees}
use Rattle.ca_reader.specs.Reads.{Context, outside, inside}

-- these brackets, the outermost first, stand open in k, each behind so many of the forms that are left
abbrev pub around : (List Form → Context) → List Opened → List Form → Context
around k [] fs = k fs
around k (o ∷ os) fs = around (λ gs. inside (k (take o.before fs)) o.bracket o.place (form_trees gs)) os (drop o.before fs)

abbrev pub context : Nest → Context
context n = around (λ fs. outside (form_trees fs)) n.open.items n.forms.items

-- how many forms stand before the last bracket
abbrev pub base_of : List Opened → ℕ
base_of [] = 0
base_of (o ∷ os) = o.before + base_of os

abbrev pub IsNest : Nest → Type 0
IsNest n = (n.base ≡ base_of n.open.items) × (n.base ≤ length n.forms.items)

-- the error is this fault, or want of memory
abbrev pub TellsFault : ReadError → Option (ReadErrorKind × Place) → Type 0
TellsFault (Fault k p) o = o ≡ Some (k, p)
TellsFault OutOfMemory o = Unit {0}
