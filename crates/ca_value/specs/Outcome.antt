-- What a builtin answers: a value or a fault.
use Rattle.std.specs.Prelude.{◌≡◌, ℤ, Bool, if◌then◌else◌, nat_le, List, [], ◌∷◌, Option, Some, None, Result, Ok, Err}
use Rattle.ca_value.specs.declared.value.Value.{Value}
use Rattle.ca_value.specs.declared.value.Vector.{Vector as SharedItems}
use Rattle.ca_value.specs.declared.fault.ApplyError.{ApplyError}
use Rattle.ca_value.specs.declared.fault.ValueFault.{ValueFault}
use Rattle.ca_value.specs.declared.fault.ValueFault.TheVariants.{WrongKind, TooHeavy, TooNested}
use Rattle.ca_value.specs.Tree.{Tree, int, bool}
use Rattle.ca_value.specs.Measure.{weight_of, depth_of}
use Rattle.ca_value.specs.View.{view, vector_trees}

abbrev pub Answer : Type 0 → Type 0
Answer A = Result A ValueFault

abbrev pub Outcome : Type 0
Outcome = Answer Tree

-- goes on with the answer, if there is one
infixl 10 ◌>>=◌
abbrev pub ◌>>=◌ : {A B : Type 0} → Answer A → (A → Answer B) → Answer B
Ok x >>= f = f x
Err e >>= f = Err e

abbrev pub number_outcome : Answer ℤ → Outcome
number_outcome (Ok z) = Ok (int z)
number_outcome (Err f) = Err f

abbrev pub truth_outcome : Answer Bool → Outcome
truth_outcome (Ok b) = Ok (bool b)
truth_outcome (Err f) = Err f

-- a result weighs at most 65,536 and is at most 64 deep; the weight is tested first
abbrev pub judged : Outcome → Outcome
judged (Ok t) =
    if nat_le (weight_of t) 65536
    then (if nat_le (depth_of t) 64 then Ok t else Err TooNested)
    else Err TooHeavy
judged (Err f) = Err f

-- by the number of arguments; a list of another length has no meaning
abbrev pub of_one_argument : List Tree → (Tree → Outcome) → Outcome
of_one_argument (a ∷ []) f = f a
of_one_argument ts f = Err WrongKind

abbrev pub of_two_arguments : List Tree → (Tree → Tree → Outcome) → Outcome
of_two_arguments (a ∷ b ∷ []) f = f a b
of_two_arguments ts f = Err WrongKind

abbrev pub one_or_two : List Tree → (Tree → Option Tree → Outcome) → Outcome
one_or_two (a ∷ []) f = f a None
one_or_two (a ∷ b ∷ []) f = f a (Some b)
one_or_two ts f = Err WrongKind

abbrev pub two_or_three : List Tree → (Tree → Tree → Option Tree → Outcome) → Outcome
two_or_three (a ∷ b ∷ []) f = f a b None
two_or_three (a ∷ b ∷ c ∷ []) f = f a b (Some c)
two_or_three ts f = Err WrongKind

abbrev pub one_and_more : List Tree → (Tree → List Tree → Outcome) → Outcome
one_and_more (a ∷ ts) f = f a ts
one_and_more [] f = Err WrongKind

-- the outcome that the code's answer stands for
abbrev pub outcome : Answer Value → Outcome
outcome (Ok v) = Ok (view v)
outcome (Err f) = Err f

abbrev pub vector_outcome : Answer SharedItems → Answer (List Tree)
vector_outcome (Ok s) = Ok (vector_trees s)
vector_outcome (Err f) = Err f

-- the error is this outcome's fault; want of memory says nothing
abbrev pub IsFault : ApplyError → Outcome → Type 0
IsFault (ApplyError.Fault f) o = o ≡ Err f
IsFault ApplyError.OutOfMemory o = Unit {0}

-- a call gives exactly the outcome; want of memory says nothing
abbrev pub Gives : Result Value ApplyError → Outcome → Type 0
Gives (Ok v) o = o ≡ Ok (view v)
Gives (Err e) o = IsFault e o
