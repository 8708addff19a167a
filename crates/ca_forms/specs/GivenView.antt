-- What the code's types stand for where a system task is given a function.
use Rattle.std.specs.Prelude.{◌≡◌, ℕ, List, [], ◌∷◌, length, Option, None, Some, cond, nat_lt}
use Rattle.ca_value.specs.declared.seq.Seq.{Seq}
use Rattle.ca_value.specs.Seq.{list}
use Rattle.ca_value.specs.Tree.{key}
use Rattle.ca_term.specs.declared.place.Place.{Place}
use Rattle.ca_term.specs.Kernel.{Kernel, const}
use Rattle.ca_term.specs.declared.head.PlainFunction.{PlainFunction}
use Rattle.ca_forms.specs.declared.error.CheckErrorKind.TheVariants.{TooMany}
use Rattle.ca_forms.specs.declared.error.CheckError.{CheckError}
use Rattle.ca_forms.specs.declared.error.CheckError.TheVariants.{Fault, OutOfMemory}
use Rattle.ca_forms.specs.declared.given.Applied.{Applied}
use Rattle.ca_forms.specs.Names.{Given, applied, wrong}

-- a keyword is the last operand of the task
abbrev pub keyword_terms : Option (Seq ℕ) → List Kernel
keyword_terms None = []
keyword_terms (Some k) = const (key (list k)) ∷ []

abbrev pub given_view : Applied → Given
given_view a = applied a.function (keyword_terms a.keyword)

-- a keyword as a function: one of at most 65,535 bytes
abbrev pub given_keyword : List ℕ → Given
given_keyword k = cond (nat_lt 65535 (length k)) (wrong TooMany) (applied PlainFunction.Keyword (const (key k) ∷ []))

-- the error is what is wrong with the function that stands at the place, or want of memory
abbrev pub IsWrong : CheckError → Place → Given → Type 0
IsWrong (Fault e p) q g = (p ≡ q) × (g ≡ wrong e)
IsWrong OutOfMemory q g = Unit {0}
