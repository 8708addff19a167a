-- Words taken one by one, each whole, with nothing pending; and the rules for which that is what clap does.
use Rattle.std.proofs.Common.{◌≡◌, ◌⊎◌, ◌&&◌, ℕ, Bool, true, false, List, [], ◌∷◌, Option, Some, None}
use Rattle.std.specs.Prelude.{option_and_then, if◌then◌else◌}
use Rattle.clap.specs.Lexer.{long_of}
use Rattle.clap.specs.Walk.{Row, Rule, arg_by_id, arg_by_index, arg_by_long, has_row, takes_values, used}
use Rattle.ca_words.specs.Words.{Text, wants_value}
use Rattle.ca_words.proofs.Rules.{flag, is_bare, next_place, place, valued}

-- ---- the same, without what is pending: each word is whole

-- an argument is used, for the first time
abbrev pub added : ℕ → Rule → List Text → List Row → Option (ℕ × List Row)
added k a vs rows = if has_row a.id rows then None else Some (k, used a vs rows)

abbrev pub by_long : (Text → Bool) → Option Rule → Option Text → ℕ → List Row → Option (ℕ × List Row)
by_long ok None v k rows = None
by_long ok (Some a) (Some v) k rows = if takes_values a && ok v then added k a (v ∷ []) rows else None
by_long ok (Some a) None k rows = if takes_values a then None else added k a [] rows

abbrev pub by_place : (Text → Bool) → Option Rule → Text → ℕ → List Row → Option (ℕ × List Row)
by_place ok None x k rows = None
by_place ok (Some a) x k rows = if is_bare x then added (next_place k) a (x ∷ []) rows else None

abbrev pub by_word : (Text → Bool) → List Rule → Option (Text × Option Text) → Text → ℕ → List Row → Option (ℕ × List Row)
by_word ok c (Some p) x k rows = by_long ok (arg_by_long c p.0) p.1 k rows
by_word ok c None x k rows = by_place ok (arg_by_index c k) x k rows

-- one word, and all
abbrev pub taken : (Text → Bool) → List Rule → ℕ × List Row → Text → Option (ℕ × List Row)
taken ok c s x = by_word ok c (long_of x) x s.0 s.1

abbrev pub all_taken : (Text → Bool) → List Rule → ℕ × List Row → List Text → Option (ℕ × List Row)
all_taken ok c s [] = Some s
all_taken ok c s (x ∷ xs) = option_and_then (λ t. all_taken ok c t xs) (taken ok c s x)

abbrev pub any : Text → Bool
any x = true

-- ---- the rules that are served

abbrev pub IsLong : List Rule → Text → Type 0
IsLong c n = (arg_by_long c n ≡ None)
    ⊎ (((arg_by_long c n ≡ Some (valued n)) × (arg_by_id c n ≡ Some (valued n)) × (wants_value (45 ∷ 45 ∷ n) ≡ true))
    ⊎ ((arg_by_long c n ≡ Some (flag n)) × (wants_value (45 ∷ 45 ∷ n) ≡ false)))

abbrev pub IsPlace : List Rule → ℕ → Type 0
IsPlace c k = (arg_by_index c k ≡ None)
    ⊎ ((n : Text) × (arg_by_index c k ≡ Some (place n k)) × (arg_by_id c n ≡ Some (place n k)))

pub record Served (c : List Rule) : Type 0 where
  pub longs : (n : Text) → IsLong c n
  pub places : (k : ℕ) → IsPlace c k
