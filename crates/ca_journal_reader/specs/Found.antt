-- What is read in front of some bytes.
use Rattle.std.specs.Prelude.{◌≡◌, ℕ, List, Option, Some, None, Result, Ok, Err}
use Rattle.ca_journal_reader.specs.declared.refused.Refused.{Refused}
use Rattle.ca_journal_reader.specs.declared.refused.Refused.TheVariants.{Bad, OutOfMemory}

-- what is read, and the bytes behind it
abbrev pub Found : Type 0 → Type 0
Found A = Option (A × List ℕ)

-- goes on with what is read
abbrev pub then : {A B : Type 0} → Found A → (A → List ℕ → Option B) → Option B
then None f = None
then (Some r) f = f r.0 r.1

-- The answer, and the bytes that it leaves, are what is found; want of memory says nothing.
abbrev pub Finds : {A B : Type 0} → (A → B) → Result A Refused → List ℕ → Found B → Type 0
Finds f (Ok x) rest found = found ≡ Some (f x, rest)
Finds f (Err Bad) rest found = found ≡ None
Finds f (Err OutOfMemory) rest found = Unit {0}

-- The same of an answer behind which nothing is read.
abbrev pub FindsAtEnd : {A B : Type 0} → (A → B) → Result A Refused → Option B → Type 0
FindsAtEnd f (Ok x) given = given ≡ Some (f x)
FindsAtEnd f (Err Bad) given = given ≡ None
FindsAtEnd f (Err OutOfMemory) given = Unit {0}

abbrev pub itself : {A : Type 0} → A → A
itself x = x
