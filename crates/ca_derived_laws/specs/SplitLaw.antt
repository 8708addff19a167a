-- The law of `split`. (core.async API reference: `split`.)
use Rattle.std.specs.Prelude.{◌≡◌, ℕ, List, [], ◌∷◌, cond}
use Rattle.ca_value.specs.Tree.{Tree}
use Rattle.ca_term.specs.Kernel.{const}
use Rattle.ca_term.specs.Program.{ProgramView}
use Rattle.ca_term.specs.Event.{EventView}
use Rattle.ca_meaning.specs.Body.{BodyView, at, ended, new_body}
use Rattle.ca_meaning.specs.Rest.{Rest}
use Rattle.ca_meaning.specs.Operands.{port_of_value, truth}
use Rattle.ca_laws.specs.Deeds.{Deed, deeds}
use Rattle.ca_laws.specs.Taken.{taken, sent, put_in, Begins}
use Rattle.ca_derived_laws.specs.PlainHeads.{IsPlainFor}
use Rattle.ca_derived_laws.specs.StartsAs.{StartsAs}
use Rattle.ca_derived_laws.specs.SplitTask.{SplitTask, operand_count, split_tests, split_text}

-- a call of the test on v, its turns and its depth counted from 0, comes to w
abbrev pub TestComes : ProgramView → SplitTask → Tree → Tree → Type 0
TestComes program x v w = (c : BodyView) × Rest program (new_body (split_tests x (const v))) c × (at c ≡ ended w)

-- a put of v into channel p: the first channel where the test is true, the second where it isn't
abbrev pub IsSided : ProgramView → SplitTask → ℕ × Tree → Type 0
IsSided program x q = (w : Tree) × TestComes program x q.1 w × (q.0 ≡ port_of_value (cond (truth w) x.yes x.no))

abbrev pub AreSided : ProgramView → SplitTask → List (ℕ × Tree) → Type 0
AreSided program x [] = Unit {0}
AreSided program x (q ∷ qs) = IsSided program x q × AreSided program x qs

-- What a split did: it put the first of the values that it took, in their order, each into the channel of its test.
pub record SplitBy (program : ProgramView) (x : SplitTask) (ds : List Deed) : Type 0 where
  pub order : Begins (sent ds) (taken ds)
  pub sides : AreSided program x (put_in ds)

-- each task whose body at its Spawn is that of a split by a builtin, a plain function or a keyword
abbrev pub SplitLaw : ProgramView → List EventView → Type 0
SplitLaw program journal = (t : ℕ) (x : SplitTask) → StartsAs program journal t (split_text x) → IsPlainFor program x.function (operand_count x.further) → SplitBy program x (deeds t journal)
