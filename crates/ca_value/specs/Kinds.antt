-- Arguments by their kinds. An argument of another kind is WrongKind.
use Rattle.std.specs.Prelude.{ℤ, List, [], ◌∷◌, Ok, Err}
use Rattle.ca_value.specs.declared.fault.ValueFault.TheVariants.{WrongKind}
use Rattle.ca_value.specs.Tree.{Tree, nil, int, vector, map, trees_of, pairs_of, items_of, entries_of}
use Rattle.ca_value.specs.Outcome.{Answer, ◌>>=◌}

abbrev pub integer_of : Tree → Answer ℤ
integer_of (int z) = Ok z
integer_of t = Err WrongKind

abbrev pub integers_of : List Tree → Answer (List ℤ)
integers_of [] = Ok []
integers_of (t ∷ ts) = integer_of t >>= λ z. integers_of ts >>= λ zs. Ok (z ∷ zs)

-- goes on with one integer, with two, with all of them
abbrev pub with_integer : {A : Type 0} → (ℤ → Answer A) → Tree → Answer A
with_integer f a = integer_of a >>= f

abbrev pub with_two : {A : Type 0} → (ℤ → ℤ → Answer A) → Tree → Tree → Answer A
with_two f a b = integer_of a >>= λ x. integer_of b >>= λ y. f x y

abbrev pub with_integers : {A : Type 0} → (List ℤ → Answer A) → List Tree → Answer A
with_integers f ts = integers_of ts >>= f

abbrev pub vector_of : Tree → Answer (List Tree)
vector_of (vector ts) = Ok (items_of ts)
vector_of t = Err WrongKind

-- of a vector or nil
abbrev pub sequence_of : Tree → Answer (List Tree)
sequence_of (vector ts) = Ok (items_of ts)
sequence_of nil = Ok []
sequence_of t = Err WrongKind

-- of a map or nil
abbrev pub mapping_of : Tree → Answer (List (Tree × Tree))
mapping_of (map ps) = Ok (entries_of ps)
mapping_of nil = Ok []
mapping_of t = Err WrongKind

-- values from lists
abbrev pub vector_from : List Tree → Tree
vector_from ts = vector (trees_of ts)

abbrev pub map_from : List (Tree × Tree) → Tree
map_from ps = map (pairs_of ps)
