-- Builtins on vectors. Places count from 0.
use Rattle.std.specs.Prelude.{ℕ, ℤ, pos, negsuc, ◌+ℤ◌, ◌-ℤ◌, ◌-◌, ◌==◌, int_le, unsigned_abs, ◌&&◌, if◌then◌else◌, List, ◌++◌, map as map_list, length, take, slice_get, slice_range, Option, Some, None, Ok, Err, unwrap_or, ok_or}
use Rattle.std.specs.List.{range_with_len}
use Rattle.std.specs.Int.{int_max}
use Rattle.ca_value.specs.declared.fault.ValueFault.TheVariants.{WrongKind, OutOfRange}
use Rattle.ca_value.specs.Tree.{Tree, nil, int, vector, items_of}
use Rattle.ca_value.specs.Outcome.{Answer, Outcome, ◌>>=◌}
use Rattle.ca_value.specs.Kinds.{integer_of, vector_of, sequence_of, vector_from}

-- the item at the place, if there is one
abbrev pub item_at : List Tree → ℤ → Option Tree
item_at ts (pos n) = slice_get ts n
item_at ts (negsuc n) = None

abbrev pub item_or_else : Option Tree → Option Tree → Option Tree
item_or_else (Some t) d = Some t
item_or_else None d = d

abbrev pub appended : Tree → List Tree → Outcome
appended c us = vector_of c >>= λ ts. Ok (vector_from (ts ++ us))

abbrev pub nth_at : Tree → ℤ → Option Tree → Outcome
nth_at (vector ts) n d = ok_or (item_or_else (item_at (items_of ts) n) d) OutOfRange
nth_at nil n d = Ok (unwrap_or d nil)
nth_at t n d = Err WrongKind

abbrev pub nth_of : Tree → Tree → Option Tree → Outcome
nth_of c i d = integer_of i >>= λ n. nth_at c n d

abbrev pub first_item : Tree → Outcome
first_item c = sequence_of c >>= λ ts. Ok (unwrap_or (slice_get ts 0) nil)

abbrev pub item_at_end : Tree → Outcome
item_at_end c = sequence_of c >>= λ ts. Ok (unwrap_or (slice_get ts (length ts - 1)) nil)

abbrev pub shortened : List Tree → Outcome
shortened ts = if length ts == 0 then Err OutOfRange else Ok (vector_from (take (length ts - 1) ts))

abbrev pub popped : Tree → Outcome
popped (vector ts) = shortened (items_of ts)
popped nil = Ok nil
popped t = Err WrongKind

abbrev pub end_index : List Tree → Option Tree → Answer ℤ
end_index ts None = Ok (pos (length ts))
end_index ts (Some e) = integer_of e

abbrev pub part_between : List Tree → ℤ → ℤ → Outcome
part_between ts i j =
    if int_le (pos 0) i && int_le i j && int_le j (pos (length ts))
    then Ok (vector_from (slice_range ts (unsigned_abs i) (unsigned_abs j)))
    else Err OutOfRange

-- the part of the items from one end up to the other
abbrev pub cut_of : List Tree → Tree → Option Tree → Outcome
cut_of ts s e = integer_of s >>= λ i. end_index ts e >>= λ j. part_between ts i j

abbrev pub subvec_of : Tree → Tree → Option Tree → Outcome
subvec_of c s e = vector_of c >>= λ ts. integer_of s >>= λ i. end_index ts e >>= λ j. part_between ts i j

-- the integers from the first up to, not including, the last
abbrev pub distance_of : ℤ → ℤ → ℕ
distance_of low high = unsigned_abs (int_max (pos 0) (high -ℤ low))

abbrev pub integers_from : ℤ → ℕ → List Tree
integers_from low n = map_list (λ k. int (low +ℤ pos k)) (range_with_len 0 n)

abbrev pub integers_between : ℤ → ℤ → List Tree
integers_between low high = integers_from low (distance_of low high)

-- from 0 up to one integer, or from one up to another
abbrev pub bounds_of : Tree → Option Tree → Answer (ℤ × ℤ)
bounds_of a None = integer_of a >>= λ high. Ok (pos 0, high)
bounds_of a (Some b) = integer_of a >>= λ low. integer_of b >>= λ high. Ok (low, high)

abbrev pub range_of : Tree → Option Tree → Outcome
range_of a b = bounds_of a b >>= λ r. Ok (vector_from (integers_between r.0 r.1))

abbrev pub item_at_index : Tree → Tree → Outcome
item_at_index c i = sequence_of c >>= λ ts. integer_of i >>= λ n. Ok (unwrap_or (item_at ts n) nil)
