-- Builtins on maps, and those on maps and vectors alike.
use Rattle.std.specs.Prelude.{ℕ, ℤ, pos, negsuc, ◌+◌, Bool, false, if◌then◌else◌, nat_lt, ◌==◌, List, [], ◌∷◌, ◌++◌, map as map_list, length, slice_set, Option, Some, None, is_some, option_map, unwrap_or, Ok, Err}
use Rattle.ca_value.specs.declared.fault.ValueFault.TheVariants.{WrongKind, OutOfRange}
use Rattle.ca_value.specs.Tree.{Tree, nil, int, text, vector, map, none, items_of, entries_of}
use Rattle.ca_value.specs.Equality.{equals}
use Rattle.ca_value.specs.Outcome.{Answer, Outcome, ◌>>=◌}
use Rattle.ca_value.specs.Kinds.{integer_of, mapping_of, vector_from, map_from}
use Rattle.ca_value.specs.Numbers.{is_zero}
use Rattle.ca_value.specs.Vectors.{item_at}

-- the value of a key, if it is there
abbrev pub value_at : List (Tree × Tree) → Tree → Option Tree
value_at [] k = None
value_at (p ∷ ps) k = if equals k p.0 then Some p.1 else value_at ps k

-- the place of a key, if it is there
abbrev pub key_place : List (Tree × Tree) → Tree → Option ℕ
key_place [] k = None
key_place (p ∷ ps) k = if equals k p.0 then Some 0 else option_map (λ n. n + 1) (key_place ps k)

-- the value takes the place of an equal key's, else the pair stands last
abbrev pub put_pair : List (Tree × Tree) → Tree → Tree → List (Tree × Tree)
put_pair [] k v = (k, v) ∷ []
put_pair (p ∷ ps) k v = if equals k p.0 then ((p.0, v) ∷ ps) else (p ∷ put_pair ps k v)

abbrev pub put_all : List (Tree × Tree) → List (Tree × Tree) → List (Tree × Tree)
put_all ps [] = ps
put_all ps (q ∷ qs) = put_all (put_pair ps q.0 q.1) qs

-- the pair of the key is left out
abbrev pub without_pair : List (Tree × Tree) → Tree → List (Tree × Tree)
without_pair [] k = []
without_pair (p ∷ ps) k = if equals k p.0 then ps else (p ∷ without_pair ps k)

abbrev pub without_all : List (Tree × Tree) → List Tree → List (Tree × Tree)
without_all ps [] = ps
without_all ps (k ∷ ks) = without_all (without_pair ps k) ks

-- keys and values that stand in turn
abbrev pub paired : List Tree → List (Tree × Tree)
paired (k ∷ v ∷ ts) = (k, v) ∷ paired ts
paired ts = []

-- the item under a key that is an index
abbrev pub item_under : List Tree → Tree → Option Tree
item_under ts (int z) = item_at ts z
item_under ts k = None

abbrev pub get_of : Tree → Tree → Tree → Outcome
get_of (map ps) k d = Ok (unwrap_or (value_at (entries_of ps) k) d)
get_of (vector ts) k d = Ok (unwrap_or (item_under (items_of ts) k) d)
get_of (text s) k d = Err WrongKind
get_of t k d = Ok d

abbrev pub contains_of : Tree → Tree → Answer Bool
contains_of (map ps) k = Ok (is_some (value_at (entries_of ps) k))
contains_of (vector ts) k = Ok (is_some (item_under (items_of ts) k))
contains_of nil k = Ok false
contains_of t k = Err WrongKind

abbrev pub count_answer : Tree → Answer ℤ
count_answer (map ps) = Ok (pos (length (entries_of ps)))
count_answer (vector ts) = Ok (pos (length (items_of ts)))
count_answer nil = Ok (pos 0)
count_answer t = Err WrongKind

abbrev pub is_empty_of : Tree → Answer Bool
is_empty_of c = count_answer c >>= λ n. Ok (is_zero n)

-- an item set at a place within the list, or at its end
abbrev pub item_set : List Tree → ℤ → Tree → Answer (List Tree)
item_set ts (pos n) v =
    if nat_lt n (length ts) then Ok (slice_set ts n v)
    else (if n == length ts then Ok (ts ++ v ∷ []) else Err OutOfRange)
item_set ts (negsuc n) v = Err OutOfRange

abbrev pub all_set : List Tree → List (ℤ × Tree) → Answer (List Tree)
all_set ts [] = Ok ts
all_set ts (q ∷ qs) = item_set ts q.0 q.1 >>= λ us. all_set us qs

abbrev pub places_of : List (Tree × Tree) → Answer (List (ℤ × Tree))
places_of [] = Ok []
places_of (q ∷ qs) = integer_of q.0 >>= λ z. places_of qs >>= λ zs. Ok ((z, q.1) ∷ zs)

abbrev pub items_assoc : List Tree → List (Tree × Tree) → Outcome
items_assoc ts qs = places_of qs >>= λ zs. all_set ts zs >>= λ us. Ok (vector_from us)

abbrev pub assoc_of : Tree → List Tree → Outcome
assoc_of (map ps) us = Ok (map_from (put_all (entries_of ps) (paired us)))
assoc_of nil us = Ok (map_from (put_all [] (paired us)))
assoc_of (vector ts) us = items_assoc (items_of ts) (paired us)
assoc_of t us = Err WrongKind

abbrev pub dissoc_of : Tree → List Tree → Outcome
dissoc_of (map ps) ks = Ok (map_from (without_all (entries_of ps) ks))
dissoc_of nil ks = Ok nil
dissoc_of t ks = Err WrongKind

-- a vector, or nil where it would be empty
abbrev pub vector_or_nil : List Tree → Tree
vector_or_nil [] = nil
vector_or_nil (t ∷ ts) = vector_from (t ∷ ts)

-- one half of each pair, in order
abbrev pub halves_of : (Tree × Tree → Tree) → Tree → Outcome
halves_of f c = mapping_of c >>= λ ps. Ok (vector_or_nil (map_list f ps))

abbrev pub keys_of : Tree → Outcome
keys_of c = halves_of (λ p. p.0) c

abbrev pub values_of_map : Tree → Outcome
values_of_map c = halves_of (λ p. p.1) c

abbrev pub pair_vector : Tree × Tree → Tree
pair_vector p = vector_from (p.0 ∷ p.1 ∷ [])

-- what a walk over the collection meets
abbrev pub walked : Tree → Outcome
walked (map ps) = Ok (vector_from (map_list pair_vector (entries_of ps)))
walked (vector ts) = Ok (vector ts)
walked nil = Ok (vector none)
walked t = Err WrongKind
