-- A value as its readable text has it. What is read leniently here is printed again, and compared with the line.
use Rattle.std.specs.Prelude.{ℕ, zero, suc, ℤ, pos, neg_ℤ, ◌^◌, List, [], ◌∷◌, ◌++◌, Option, Some, None, Bool, true, false, ◌||◌, ◌&&◌, ◌==◌, cond, nat_lt, nat_le, min, length, take, drop, codes}
use Rattle.std.specs.List.{prefix_len}
use Rattle.ca_value.specs.Tree.{Tree, nil, bool, int, text, key, vector, map, port, trees_of, pairs_of}
use Rattle.ca_value.specs.Measure.{weight_of, depth_of}
use Rattle.ca_value.specs.Maps.{put_pair}
use Rattle.ca_value.specs.IsValue.{is_keyword_byte}
use Rattle.ca_journal_reader.specs.Found.{Found, then}
use Rattle.ca_journal_reader.specs.Words.{is_digit_byte, number_in, word_behind, unspaced, is_first, field}

-- the byte that an escape stands for
abbrev pub unescaped : ℕ → ℕ
unescaped c = cond (c == 110) 10 (cond (c == 116) 9 (cond (c == 114) 13 c))

-- the bytes of a text up to its closing quote, behind those that were read
abbrev pub text_from : List ℕ → List ℕ → Found (List ℕ)
text_from said [] = None
text_from said (b ∷ []) = cond (b == 34) (Some (said, [])) None
text_from said (b ∷ (c ∷ s)) =
    cond (b == 34) (Some (said, c ∷ s))
    (cond (b == 92) (text_from (said ++ unescaped c ∷ []) s) (text_from (said ++ b ∷ []) (c ∷ s)))

-- a text behind its opening quote
abbrev pub text_in : List ℕ → Found Tree
text_in s = then (text_from [] s) (λ said rest. Some (text said, rest))

-- a keyword behind its colon
abbrev pub key_in : List ℕ → Found Tree
key_in s = let n = prefix_len is_keyword_byte s in cond (n == 0) None (Some (key (take n s), drop n s))

-- the number of this sign and magnitude, in 64 bits
abbrev pub signed : Bool → ℕ → Option ℤ
signed true n = cond (nat_le n (2 ^ 63)) (Some (neg_ℤ (pos n))) None
signed false n = cond (nat_lt n (2 ^ 63)) (Some (pos n)) None

abbrev pub int_of : Option ℤ → List ℕ → Found Tree
int_of None rest = None
int_of (Some z) rest = Some (int z, rest)

abbrev pub signed_in : Bool → List ℕ → Found Tree
signed_in negative s = then (number_in s) (λ n rest. int_of (signed negative n) rest)

-- an integer, whose sign stands in front
abbrev pub integer_in : List ℕ → Found Tree
integer_in s = cond (is_first 45 s) (signed_in true (drop 1 s)) (signed_in false s)

-- one of these words, whose first byte is b
abbrev pub named_in : ℕ → List ℕ → Found Tree
named_in b s =
    cond (b == 110) (then (word_behind (codes "nil") s) (λ x rest. Some (nil, rest)))
    (cond (b == 116) (then (word_behind (codes "true") s) (λ x rest. Some (bool true, rest)))
    (cond (b == 102) (then (word_behind (codes "false") s) (λ x rest. Some (bool false, rest)))
    (then (word_behind (codes "#port ") s) (λ x rest. then (number_in rest) (λ n rest. Some (port n, rest))))))

-- a value that is no vector and no map, and whose first byte is b
abbrev pub scalar_in : ℕ → List ℕ → Found Tree
scalar_in b s =
    cond (is_digit_byte b || b == 45) (integer_in s)
    (cond (b == 34) (text_in (drop 1 s))
    (cond (b == 58) (key_in (drop 1 s)) (named_in b s)))

-- at most so many items, each read by f, behind those that were read, up to the closing bracket
abbrev pub items_read : (List ℕ → Found Tree) → ℕ → List Tree → List ℕ → Found (List Tree)
items_read f zero said s = None
items_read f (suc n) said s =
    cond (is_first 93 (unspaced s)) (Some (said, drop 1 (unspaced s)))
    (then (f (unspaced s)) (λ t rest. items_read f n (said ++ t ∷ []) rest))

-- without the comma and the space in front
abbrev pub uncomma : List ℕ → List ℕ
uncomma s = cond (is_first 44 s) (unspaced (drop 1 s)) s

-- a key and its value, each read by f
abbrev pub pair_in : (List ℕ → Found Tree) → List ℕ → Found (Tree × Tree)
pair_in f s = then (f s) (λ k rest. then (f (unspaced rest)) (λ v rest. Some ((k, v), rest)))

-- the same of pairs
abbrev pub pairs_read : (List ℕ → Found Tree) → ℕ → List (Tree × Tree) → List ℕ → Found (List (Tree × Tree))
pairs_read f zero said s = None
pairs_read f (suc n) said s =
    cond (is_first 125 (uncomma s)) (Some (said, drop 1 (uncomma s)))
    (then (pair_in f (uncomma s)) (λ p rest. pairs_read f n (put_pair said p.0 p.1) rest))

-- a vector and a map behind the opening bracket
abbrev pub vector_in : (List ℕ → Found Tree) → List ℕ → Found Tree
vector_in f s = then (items_read f (length s) [] s) (λ ts rest. Some (vector (trees_of ts), rest))

-- A map that is a value has less than 65,536 pairs.
abbrev pub map_in : (List ℕ → Found Tree) → List ℕ → Found Tree
map_in f s = then (pairs_read f (min (length s) 65536) [] s) (λ ps rest. Some (map (pairs_of ps), rest))

abbrev pub value_by : (List ℕ → Found Tree) → List ℕ → Found Tree
value_by f [] = None
value_by f (b ∷ s) = cond (b == 91) (vector_in f s) (cond (b == 123) (map_in f s) (scalar_in b (b ∷ s)))

-- a value at most d deep
abbrev pub value_read : ℕ → List ℕ → Found Tree
value_read zero s = None
value_read (suc d) s = value_by (value_read d) s

abbrev pub is_within : Tree → Bool
is_within t = nat_le (weight_of t) 131072 && nat_le (depth_of t) 80

-- a value within the bounds, and the space behind it
abbrev pub value_field : List ℕ → Found Tree
value_field s = field (then (value_read 80 s) (λ t rest. cond (is_within t) (Some (t, rest)) None))
