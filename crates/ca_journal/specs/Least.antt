-- Which of several lists of entries goes on: the first of those whose front has the least number.
use Rattle.std.specs.Prelude.{ℕ, suc, List, [], ◌∷◌, Option, Some, None, option_map, cond, nat_lt, slice_get}
use Rattle.ca_journal.specs.declared.least.Least.{Least}
use Rattle.ca_journal.specs.Numbered.{Numbered}

abbrev pub first_number : List Numbered → Option ℕ
first_number q = option_map (λ e. e.number) (slice_get q 0)

-- the list at this place with the number in front, or the one found behind it where that has a lower number
abbrev pub nearer : ℕ → Option ℕ → Option Least → Option Least
nearer i None best = best
nearer i (Some n) None = Some (record { place = i; number = n })
nearer i (Some n) (Some b) = cond (nat_lt b.number n) (Some b) (Some (record { place = i; number = n }))

abbrev pub least_from : ℕ → List (List Numbered) → Option Least
least_from i [] = None
least_from i (q ∷ qs) = nearer i (first_number q) (least_from (suc i) qs)
